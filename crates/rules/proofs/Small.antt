-- The numbers of a sum that keeps the limits, and of its parts. Assumes nothing.
use mathlib.Core.Path.{◌≡◌, refl, sym, ap, ap₂, ◌∙◌, subst}
use mathlib.Core.Bool.{Bool, true, false, cond, ◌&&◌}
use Prim.Native.Nat.{ℕ, ◌<◌, ◌≤◌}
use native.Mathlib.Omega.{arith}
use borrow.Author.Tests.{leb-true}
use lib.IntN.{ℤ, pos, nat_abs, ◌+ℤ◌, ◌*ℤ◌, +ℤ_assoc, +ℤ_idl, *ℤ_comm}
use Rattle.integer.specs.Floor.{floor_div, floor_mod}
use Rattle.integer.specs.Exact.{limit}
use Rattle.integer.proofs.Linear.{up, dn, add_parts, abs-parts, abs-le}
use Rattle.expression.specs.Expression.{Kind, Range, add_range, mul_range, is_small, small_range}
use Rattle.expression.specs.Node.{max_divisor}
use Rattle.expression.proofs.Ends.{small-floor, small-mod}
use Rattle.expression.proofs.Ring.{rem, rem_lt, split}
use Rattle.folding.specs.Sum.{Sum, atom_range, sum_range}
use Rattle.folding.specs.Fold.{divides, part_p, part_r, add_constant, quotient_of, cons_term, scale_sum}
use Rattle.folding.specs.Working.{small_from, small_sum}
use Rattle.folding.specs.Folded.{FoldedS}
use Rattle.folding.proofs.Divisors.{one-l}
use Rattle.words.specs.Words.{constant_of}
use Rattle.words.specs.Saturated.{saturate_sum, shifted}
use Rattle.words.proofs.Merged.{cons-more}
use Rattle.words.proofs.Ends.{sat-kept}
use Rattle.words.proofs.Tests.{clash}
use Rattle.rules.specs.Rules.{max_multiple}

-- every number of a sum is within the limit
abbrev pub SmallNumbers : Sum → Type 0
SmallNumbers (Sum.const k) = is_small k ≡ true
SmallNumbers (Sum.term c a t) = (is_small c ≡ true) × SmallNumbers t

both_true : (a b : Bool) → (a && b) ≡ true → (a ≡ true) × (b ≡ true)
both_true true b e = (refl, e)
both_true false b e = clash e

module _ (β : Kind → ℕ → Range) where
  numbers-from : (r : Range) (t : Sum) → small_from β r t ≡ true → SmallNumbers t
  unfolding small_from
  numbers-from r (Sum.const k) e = (both_true _ _ e).0
  numbers-from r (Sum.term c a t) e =
      let h = both_true _ _ e in
      ((both_true _ _ (both_true _ _ h.0).0).0, numbers-from (add_range r (mul_range c (atom_range a β))) t h.1)

  pub small-numbers : (t : Sum) → small_sum β t ≡ true → SmallNumbers t
  unfolding small_sum
  small-numbers t e = numbers-from (record { lo = pos 0; hi = pos 0 }) t e

  low-from : (r : Range) (t : Sum) → small_from β r t ≡ true → is_small (r.lo +ℤ (sum_range t β).lo) ≡ true
  unfolding small_from sum_range add_range
  low-from r (Sum.const k) e = (both_true (is_small (r.lo +ℤ k)) (is_small (r.hi +ℤ k)) (both_true (is_small k) (is_small (r.lo +ℤ k) && is_small (r.hi +ℤ k)) e).1).0
  low-from r (Sum.term c a t) e =
      let p = mul_range c (atom_range a β) in
      ap is_small (sym (+ℤ_assoc r.lo p.lo (sum_range t β).lo)) ∙ low-from (add_range r p) t (both_true (is_small c && small_range p && small_range (add_range r p)) (small_from β (add_range r p) t) e).1

  -- the lower end of its range
  pub small_low : (t : Sum) → small_sum β t ≡ true → nat_abs (sum_range t β).lo ≤ limit
  unfolding small_sum
  small_low t e = leb-true _ _ (ap is_small (sym (+ℤ_idl (sum_range t β).lo)) ∙ low-from (record { lo = pos 0; hi = pos 0 }) t e)

pub saturate-same : (t : Sum) → SmallNumbers t → saturate_sum t ≡ t
unfolding saturate_sum
saturate-same (Sum.const k) h = ap Sum.const (sat-kept k h)
saturate-same (Sum.term c a t) h = ap₂ (λ (x : ℤ) (y : Sum). Sum.term x a y) (sat-kept c h.0) (saturate-same t h.1)

pub shifted-same : (z : ℤ) (t : Sum) → SmallNumbers t → shifted z t ≡ saturate_sum (add_constant z t)
unfolding saturate_sum shifted add_constant
shifted-same z (Sum.const k) h = refl
shifted-same z (Sum.term c a t) h = ap₂ (λ (x : ℤ) (y : Sum). Sum.term x a y) (sym (sat-kept c h.0)) (shifted-same z t h.1)

pub p-numbers : (g : ℕ) (t : Sum) → SmallNumbers t → SmallNumbers (part_p g t)
unfolding part_p
p-numbers g (Sum.const k) h = small-floor k g (leb-true _ _ h)
p-numbers g (Sum.term c a t) h = go (divides g c) (p-numbers g t h.1)
  where
    go : (b : Bool) → SmallNumbers (part_p g t) → SmallNumbers (cond b (Sum.term (floor_div c g) a (part_p g t)) (part_p g t))
    go true ih = (small-floor c g (leb-true _ _ h.0), ih)
    go false ih = ih

pub r-numbers : (g : ℕ) (t : Sum) → 0 < g → g ≤ max_divisor → SmallNumbers t → SmallNumbers (part_r g t)
unfolding part_r
r-numbers g (Sum.const k) i j h = small-mod k g i j
r-numbers g (Sum.term c a t) i j h = go (divides g c) (r-numbers g t i j h.1)
  where
    go : (b : Bool) → SmallNumbers (part_r g t) → SmallNumbers (cond b (part_r g t) (Sum.term c a (part_r g t)))
    go true ih = ih
    go false ih = (h.0, ih)

-- the constant of R
pub rest-last : (g : ℕ) (t : Sum) → constant_of (part_r g t) ≡ floor_mod (constant_of t) g
unfolding part_r constant_of
rest-last g (Sum.const k) = refl
rest-last g (Sum.term c a t) = go (divides g c) (rest-last g t)
  where
    go : (b : Bool) → constant_of (part_r g t) ≡ floor_mod (constant_of t) g → constant_of (cond b (part_r g t) (Sum.term c a (part_r g t))) ≡ floor_mod (constant_of t) g
    go true ih = ih
    go false ih = ih

-- the multiple of g that is next below a number within the limit
multiple-near : (z : ℤ) (g : ℕ) → 0 < g → g ≤ max_divisor → nat_abs z ≤ limit → nat_abs (floor_div z g *ℤ pos g) ≤ max_multiple
multiple-near z g h k i =
    let m = pos g *ℤ floor_div z g in
    let s : z ≡ m +ℤ pos (rem z g) = split z g h in
    let r = rem_lt z g h in
    let a = add_parts m (pos (rem z g)) in
    let e1 : up z ≡ up (m +ℤ pos (rem z g)) = ap up s in
    let e2 : dn z ≡ dn (m +ℤ pos (rem z g)) = ap dn s in
    let n = abs-le m max_multiple (omega (arith, abs-parts z), omega (arith, abs-parts z)) in
    subst (λ (x : ℤ). nat_abs x ≤ max_multiple) (*ℤ_comm (pos g) (floor_div z g)) n

pub quotient-near : (β : Kind → ℕ → Range) (g : ℕ) (t : Sum) (q : ℤ) → 0 < g → g ≤ max_divisor → small_sum β (part_r g t) ≡ true → q ≡ quotient_of β g (part_r g t) → nat_abs (q *ℤ pos g) ≤ max_multiple
unfolding quotient_of
quotient-near β g t q h k s e = subst (λ (z : ℤ). nat_abs (z *ℤ pos g) ≤ max_multiple) (sym e) (multiple-near (sum_range (part_r g t) β).lo g h k (small_low β (part_r g t) s))

-- once a folded sum is the sum
pub scale_one : (β : Kind → ℕ → Range) (t : Sum) → FoldedS β t → scale_sum (pos 1) t ≡ t
unfolding scale_sum FoldedS
scale_one β (Sum.const k) h = ap Sum.const (one-l k)
scale_one β (Sum.term c a t) h =
    ap (λ (z : ℤ). cons_term z a (scale_sum (pos 1) t)) (one-l c) ∙ cons-more c a (scale_sum (pos 1) t) h.0 ∙ ap (λ (u : Sum). Sum.term c a u) (scale_one β t h.3)
