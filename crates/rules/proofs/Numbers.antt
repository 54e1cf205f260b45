-- The ends of a floordiv or mod, and the constant of R - q * g. Assumes nothing.
use mathlib.Core.Path.{◌≡◌, refl, sym, ap, ◌∙◌}
use Prim.Native.Nat.{ℕ, ◌-◌, ◌*◌, ◌/◌, ◌<◌, ◌≤◌}
use native.Mathlib.Omega.{arith}
use native.Mathlib.Nat.{mul_comm}
use lib.IntN.{ℤ, pos, nat_abs, ◌-ℤ◌, ◌*ℤ◌, neg_ℤ, +ℤ_comm}
use mir.Syntax.{w64}
use mir.Val.{SFits}
use Rattle.integer.specs.Floor.{floor_div, floor_mod}
use Rattle.integer.proofs.Linear.{up, dn, abs-parts, fits_by, diff-parts}
use Rattle.integer.proofs.Limits.{product-in, product-out}
use Rattle.integer.proofs.Signs.{abs-mul}
use Rattle.expression.specs.Expression.{Op, floordiv, modulo, span, op_range}
use Rattle.expression.specs.Node.{max_divisor}
use Rattle.expression.proofs.Ring.{rem_lt, rem_is}
use Rattle.folding.specs.Sum.{op_number}
use Rattle.words.proofs.Trial.{try-yes, try-no}
use Rattle.rules.specs.Rules.{OpEnds, max_multiple, Leaves}

module _ (op : ℕ) (lo hi : ℤ) (c : ℕ) where
  pub ends-floor : op ≡ 3 → OpEnds op lo hi c (floor_div lo c) (floor_div hi c)
  unfolding op_range op_number
  ends-floor h = record { is = go }
    where
      go : (o : Op) → op ≡ op_number o → span (floor_div lo c) (floor_div hi c) ≡ op_range o (span lo hi) c
      go floordiv i = refl
      go modulo i = absurd (omega arith)

  pub ends_same : (op ≡ 3 → ⊥) → floor_div lo c ≡ floor_div hi c → OpEnds op lo hi c (floor_mod lo c) (floor_mod hi c)
  unfolding op_range op_number
  ends_same h e = record { is = go }
    where
      go : (o : Op) → op ≡ op_number o → span (floor_mod lo c) (floor_mod hi c) ≡ op_range o (span lo hi) c
      go floordiv i = absurd (h i)
      go modulo i = rw (sym (try-yes (floor_div lo c) (floor_div hi c) e)) refl

  pub ends-other : (op ≡ 3 → ⊥) → (floor_div lo c ≡ floor_div hi c → ⊥) → OpEnds op lo hi c (pos 0) (pos (c - 1))
  unfolding op_range op_number
  ends-other h e = record { is = go }
    where
      go : (o : Op) → op ≡ op_number o → span (pos 0) (pos (c - 1)) ≡ op_range o (span lo hi) c
      go floordiv i = absurd (h i)
      go modulo i = rw (sym (try-no (floor_div lo c) (floor_div hi c) e)) refl

module _ (k q g : ℤ) (h : 0 < nat_abs g) where
  size_of : nat_abs (q *ℤ g) ≡ nat_abs g * nat_abs q
  size_of = abs-mul q g ∙ mul_comm (nat_abs q) (nat_abs g)

  pub leaves_none : max_multiple / nat_abs g < nat_abs q → Leaves k q g (pos 0)
  leaves_none l = record { is = λ i. absurd (omega (arith, product-out max_multiple (nat_abs g) (nat_abs q) (λ z. omega arith) l, size_of)) }

  module _ (l : nat_abs q ≤ max_multiple / nat_abs g) where
    near : nat_abs (q *ℤ g) ≤ max_multiple
    near = omega (arith, product-in max_multiple (nat_abs g) (nat_abs q) (λ z. omega arith) l, size_of)

    pub product-fits : SFits w64 (q *ℤ g)
    product-fits = fits_by (q *ℤ g) (omega (arith, abs-parts (q *ℤ g), near))

    pub rest-fits : nat_abs g ≤ max_divisor → SFits w64 (floor_mod k (nat_abs g) -ℤ (q *ℤ g))
    rest-fits m =
        let r = rem_lt k (nat_abs g) h in
        let e1 = ap up (rem_is k (nat_abs g)) in
        let e2 = ap dn (rem_is k (nat_abs g)) in
        fits_by _ (omega (arith, diff-parts (floor_mod k (nat_abs g)) (q *ℤ g), abs-parts (q *ℤ g), near))

    pub leaves-is : Leaves k q g (floor_mod k (nat_abs g) -ℤ (q *ℤ g))
    leaves-is = record { is = λ i. +ℤ_comm (floor_mod k (nat_abs g)) (neg_ℤ (q *ℤ g)) }
