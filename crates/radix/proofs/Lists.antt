-- Laws of lists that several crates use: entries by place, a buffer filled from the front, an array's first places. Assumes nothing.
use mathlib.Core.Path.{◌≡◌, sym, ap, ◌∙◌}
use Prim.Native.Nat.{ℕ, zero, suc, ◌+◌, ◌-◌, ◌<◌, ◌≤◌, zero-le, suc-le-suc}
use native.Mathlib.Nat.{add-sub_of_le}
use native.Mathlib.Numerals.{add-one}
use native.Mathlib.Omega.{arith}
use mathlib.Core.Logic.{⊎_elim, ◌⊎◌, inl, inr}
use mathlib.Core.List.{List, ◌∷◌, ◌++◌}
use lib.ListN.{length, get_or, take, drop, set, replicate}
use lib.Seq.{get_or-append-add, take-suc-set, take-suc, drop-cons}

pub le-or-lt : (a b : ℕ) → (a ≤ b) ⊎ (b < a)
le-or-lt zero b = inl zero-le
le-or-lt (suc a) zero = inr (suc-le-suc zero-le)
le-or-lt (suc a) (suc b) = ⊎_elim (λ p. inl (suc-le-suc p)) (λ q. inr (suc-le-suc q)) (le-or-lt a b)

-- an entry past the first list
pub past : (xs ys : List ℕ) (i : ℕ) → length xs ≤ i → get_or (xs ++ ys) i 0 ≡ get_or ys (i - length xs) 0
past xs ys i h = ap (λ (j : ℕ). get_or (xs ++ ys) j 0) (sym (add-sub_of_le h)) ∙ get_or-append-add xs ys (i - length xs) 0

-- what is left at place i is its entry and what is left after it
pub rest-of : (xs : List ℕ) (i : ℕ) → i < length xs → drop i xs ≡ get_or xs i 0 ∷ drop (i + 1) xs
rest-of xs i h = rw (add-one) (drop-cons xs i 0 h)

-- a loop that fills the front of out with T, entry by entry
pub fill-next : (out T : List ℕ) (i : ℕ) → i < length out → i < length T → take i out ≡ take i T → take (i + 1) (set out i (get_or T i 0)) ≡ take (i + 1) T
fill-next out T i h g e = rw (add-one, take-suc-set out i (get_or T i 0) h, e, take-suc T i 0 g)

-- what is left of a row of equal entries
pub drop-replicate : (k n x : ℕ) → drop k (replicate n x) ≡ replicate (n - k) x
drop-replicate zero n x = let e : n ≡ n - 0 = omega arith in ap (λ (m : ℕ). replicate m x) e
drop-replicate (suc k) zero x = let e : 0 ≡ 0 - suc k = omega arith in ap (λ (m : ℕ). replicate m x) e
drop-replicate (suc k) (suc n) x = let e : n - k ≡ suc n - suc k = omega arith in drop-replicate k n x ∙ ap (λ (m : ℕ). replicate m x) e
