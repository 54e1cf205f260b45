-- Where a run of cells ends, found from the last size on: at the last digit that is not 0. Assumes nothing.
use mathlib.Core.Path.{◌≡◌, refl, sym, ap, ◌∙◌}
use mathlib.Core.Logic.{⊎_elim}
use Prim.Native.Nat.{ℕ, zero, suc, ◌+◌, ◌-◌, ◌*◌, ◌/◌, ◌%◌, ◌<◌, ◌≤◌}
use native.Mathlib.Nat.{zero-div, zero-mod, zero-mul, one-mul, add-zero, mul_assoc, mul-le-mul_right, mul-pos, div-add-mod', div-lt_iff_lt-mul, mod-eq_of_lt, mod-lt, mul-add-div_right, mul-add-mod_self_right, mul-mod_left, eq-zero-or-pos}
use native.Mathlib.Omega.{arith}
use mathlib.Core.List.{List, [], ◌∷◌}
use lib.ListN.{length, get_or, take, drop}
use borrow.Author.Tests.{eq-eqb, ne_eqb}
use Rattle.radix.proofs.Lists.{rest-of}
use Rattle.radix.proofs.Loops.{prod-pos, rest-pos}
use Rattle.radix.specs.Radix.{prod, Sizes, Bounded}
use Rattle.tiling.proofs.Rows.{prod-split}
use Rattle.tiling.specs.Runs.{rest_of}

-- what k leaves over d * w: over w as much as k leaves, and at d the digit of k
over-front : (d w k : ℕ) → 0 < d → 0 < w → (k % (d * w) % w ≡ k % w) × (k % (d * w) / w ≡ k / w % d)
over-front d w k h p =
    let x = k % (d * w) in
    let a = k / (d * w) in
    let s : k ≡ a * d * w + x = sym (div-add-mod' k (d * w)) ∙ ap (λ (y : ℕ). y + x) (sym (mul_assoc a d w)) in
    let l : x / w < d = (div-lt_iff_lt-mul p).1 (mod-lt k (mul-pos h p)) in (
      sym (ap (λ (y : ℕ). y % w) s ∙ mul-add-mod_self_right (a * d) w x),
      sym (ap (λ (y : ℕ). y / w % d) s ∙ ap (λ (y : ℕ). y % d) (mul-add-div_right p (a * d) x) ∙ mul-add-mod_self_right a d (x / w) ∙ mod-eq_of_lt l),
    )

-- a multiple of the product of all sizes is one of the product of the last
multiple : (i : ℕ) (ds : List ℕ) (k : ℕ) → k % prod ds ≡ 0 → k % prod (drop i ds) ≡ 0
multiple i ds k z =
    let w = prod (drop i ds) in
    let a = k / prod ds * prod (take i ds) in
    let s : k ≡ a * w = sym (div-add-mod' k (prod ds)) ∙ ap (λ (y : ℕ). k / prod ds * prod ds + y) z ∙ add-zero (k / prod ds * prod ds) ∙ ap (λ (y : ℕ). k / prod ds * y) (sym (prod-split i ds)) ∙ sym (mul_assoc (k / prod ds) (prod (take i ds)) w) in
    ap (λ (y : ℕ). y % w) s ∙ mul-mod_left a w

-- sizes before a digit that is not 0 do not matter
rest-skip : (i : ℕ) (ds : List ℕ) (k : ℕ) → ((j : ℕ) → j < length ds → 0 < get_or ds j 0) → (k % prod (drop i ds) ≡ 0 → ⊥) → rest_of ds (k % prod ds) ≡ rest_of (drop i ds) (k % prod (drop i ds))
rest-skip zero ds k p n = refl
rest-skip (suc i) [] k p n = refl
rest-skip (suc i) (d ∷ ds) k p n =
    let q : (j : ℕ) → j < length ds → 0 < get_or ds j 0 = λ j l. p (suc j) (omega arith) in
    let e = (over-front d (prod ds) k (p 0 (omega arith)) (prod-pos ds q)).0 in
    rw (e, ne_eqb (k % prod ds) 0 (λ z. n (multiple i ds k z))) (rest-skip i ds k q n)

-- a last size more: the digit is 0 too, or the run ends with it
module _ (ds : List ℕ) (s : Sizes ds) (k i : ℕ) (h : i < length ds) (z : k % prod (drop (i + 1) ds) ≡ 0) where
  abbrev d : ℕ
  d = get_or ds i 0

  abbrev w : ℕ
  w = prod (drop (i + 1) ds)

  split : prod (drop i ds) ≡ d * w
  split = ap prod (rest-of ds i h)

  parts : (k % (d * w) % w ≡ k % w) × (k % (d * w) / w ≡ k / w % d)
  unfolding Bounded
  parts = over-front d w k (s i h).0 (rest-pos ds (i + 1) s)

  pub rest-next : k / w % d ≡ 0 → k % prod (drop i ds) ≡ 0
  rest-next e =
      let x = k % (d * w) in
      let q : x / w * w ≡ 0 = ap (λ (y : ℕ). y * w) (parts.1 ∙ e) ∙ zero-mul w in
      ap (λ (y : ℕ). k % y) split ∙ omega (arith, div-add-mod' x w, q, parts.0, z)

  pub rest-found : k < prod ds → 0 < k / w % d → rest_of ds k ≡ (d - k / w % d) * w
  unfolding Bounded
  rest-found l e =
      let x = k % (d * w) in
      let n : k % prod (drop i ds) ≡ 0 → ⊥ = λ u. let v : x ≡ 0 = ap (λ (y : ℕ). k % y) (sym split) ∙ u in omega (arith, e, parts.1, ap (λ (y : ℕ). y / w) v, zero-div w) in
      ap (rest_of ds) (sym (mod-eq_of_lt l))
      ∙ rest-skip i ds k (λ j g. (s j g).0) n
      ∙ ap (λ (y : ℕ). rest_of (drop i ds) (k % y)) split
      ∙ ap (λ (y : List ℕ). rest_of y x) (rest-of ds i h)
      ∙ rw (eq-eqb (x % w) 0 (parts.0 ∙ z), parts.1)

-- no digit is other than 0
pub rest_all : (ds : List ℕ) (k : ℕ) → k < prod ds → k % prod ds ≡ 0 → rest_of ds k ≡ prod ds
rest_all ds k l z = ap (rest_of ds) (sym (mod-eq_of_lt l) ∙ z) ∙ whole ds
  where
    whole : (ds : List ℕ) → rest_of ds 0 ≡ prod ds
    whole [] = refl
    whole (d ∷ ds) = let e : d - 0 ≡ d = omega arith in rw (zero-mod (prod ds), zero-div (prod ds), e)

-- the last sizes have a product of at most that of all
pub prod-last : (i : ℕ) (ds : List ℕ) → 0 < prod ds → prod (drop i ds) ≤ prod ds
prod-last i ds h =
    let w = prod (drop i ds) in
    ⊎_elim
    (λ z. absurd (omega (arith, prod-split i ds, ap (λ (y : ℕ). y * w) z, zero-mul w, h)))
    (λ p. omega (arith, prod-split i ds, mul-le-mul_right w p, one-mul w))
    (eq-zero-or-pos (prod (take i ds)))
