-- What a loop keeps that writes a list from its front on, and what stands at the front of a longer list. Assumes nothing.
use mathlib.Core.Path.{◌≡◌, sym, ap, ◌∙◌, subst}
use Prim.Native.Nat.{ℕ, ◌+◌, ◌<◌, ◌≤◌}
use native.Mathlib.Omega.{arith}
use mathlib.Core.List.{List, ◌++◌}
use lib.ListN.{length, take, set}
use lib.Seq.{take-length, take_at}
use Rattle.radix.proofs.Lists.{fill-next}
use Rattle.radix.proofs.Radix.{length-tab, get_d-tab, digits_in, in-length}
use Rattle.radix.specs.Radix.{tab, prod, digits, In}

-- one entry more of a list that is given by place
pub tab-next : (f : ℕ → ℕ) (n : ℕ) (out : List ℕ) (i v : ℕ) → i < length out → i < n → v ≡ f i → take i out ≡ take i (tab f n) → take (i + 1) (set out i v) ≡ take (i + 1) (tab f n)
tab-next f n out i v h g q e =
    ap (λ (x : ℕ). take (i + 1) (set out i x)) (q ∙ sym (get_d-tab f n i 0 g)) ∙ fill-next out (tab f n) i h (omega (arith, length-tab f n)) e

-- all n entries
pub fill-end : (T out : List ℕ) (n i : ℕ) → length T ≡ n → n ≤ i → i ≤ n → take i out ≡ take i T → take n out ≡ T
fill-end T out n i l h g e =
    let q : n ≡ i = omega arith in
    ap (λ (j : ℕ). take j out) q ∙ e ∙ ap (λ (j : ℕ). take j T) (sym q ∙ sym l) ∙ take-length T

-- the digits of n over ds, written at the front of a longer list
pub digits-front : (ds out after : List ℕ) (n : ℕ) → n < prod ds → out ≡ digits ds n ++ after → take (length ds) out ≡ digits ds n
digits-front ds out after n h q = ap (take (length ds)) q ∙ take_at (digits ds n) after (length ds) (in-length (digits_in ds n h))

pub digits-inside : (ds out after : List ℕ) (n : ℕ) → n < prod ds → out ≡ digits ds n ++ after → In (take (length ds) out) ds
digits-inside ds out after n h q = subst (λ (l : List ℕ). In l ds) (sym (digits-front ds out after n h q)) (digits_in ds n h)
