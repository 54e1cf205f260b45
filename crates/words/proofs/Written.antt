-- Writing words one after another. Assumes nothing.
use mathlib.Core.Path.{◌≡◌, refl, sym, ap, ◌∙◌}
use mathlib.Core.List.{List, [], ◌∷◌, ◌++◌, append_assoc, append-nil}
use Prim.Native.Nat.{ℕ, zero, suc, ◌+◌, ◌<◌, ◌≤◌}
use native.Mathlib.Omega.{arith}
use native.Mathlib.Numerals.{add-one}
use lib.IntN.{ℤ}
use lib.ListN.{length, take, set, length-append, length-set}
use lib.Seq.{take-suc-set, take_all, length-take-le, take-append-le}
use Rattle.words.specs.Promises.{Puts}

-- what passes the room may be cut off now or later
pub cut : (L : ℕ) (a b : List ℤ) → take L (take L a ++ b) ≡ take L (a ++ b)
cut zero a b = refl
cut (suc L) [] b = refl
cut (suc L) (x ∷ a) b = ap (λ (l : List ℤ). x ∷ l) (cut L a b)

pub nothing : (o : List ℤ) (at : ℕ) → at ≤ length o → Puts o o at at []
nothing o at h = record { high = h; low = omega arith; same = refl; is = sym (take_all (length o) (take at o ++ []) (omega (arith, length-append (take at o) [], length-take-le at o h)) ∙ append-nil (take at o)) }

pub one : (o : List ℤ) (at : ℕ) (v : ℤ) → at < length o → Puts o (set o at v) at (at + 1) (v ∷ [])
one o at v h = record { high = omega arith; low = omega arith; same = length-set o at v; is = rw add-one (take-suc-set o at v h) ∙ sym (take_all (length o) (take at o ++ (v ∷ [])) (omega (arith, length-append (take at o) (v ∷ []), length-take-le at o (omega arith)))) }

pub full : (o : List ℤ) (at : ℕ) (v : ℤ) → at ≤ length o → length o ≤ at → Puts o o at at (v ∷ [])
full o at v h k = record { high = h; low = omega arith; same = refl; is = take_all at o k ∙ sym (take-append-le (length o) (take at o) (v ∷ []) (omega (arith, length-take-le at o h)) ∙ ap (λ (l : List ℤ). take (length o) l) (take_all at o k) ∙ take_all (length o) o (omega arith)) }

pub both : (o o1 o2 : List ℤ) (at e r : ℕ) (ws vs : List ℤ) → Puts o o1 at e ws → Puts o1 o2 e r vs → Puts o o2 at r (ws ++ vs)
both o o1 o2 at e r ws vs h k =
    record {
      high = omega (arith, h.same, k.high);
      low = omega (arith, h.low, k.low);
      same = k.same ∙ h.same;
      is = k.is ∙ ap (λ (n : ℕ). take n (take e o1 ++ vs)) h.same ∙ ap (λ (l : List ℤ). take (length o) (l ++ vs)) h.is
          ∙ cut (length o) (take at o ++ ws) vs ∙ ap (λ (l : List ℤ). take (length o) l) (append_assoc (take at o) ws vs);
    }
