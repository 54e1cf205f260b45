-- `reciprocal::inner::divide` meets its contract: the rule of the lent table is carried to the division. Assumes nothing.
use Rattle.std.proofs.Common.{◌≡◌, ℕ, ◌+◌, ◌-◌, ◌*◌, ◌/◌, ◌<◌, ◌≤◌, List, length, get_or, ap, ◌∙◌, arith}
use native.Mathlib.Nat.{div-mul-le_self, div-add-mod'}
use Rattle.reciprocal.specs.Multiplier.{max_divisor, whole, reached, multiplier_of, AreMultipliers}
use Rattle.reciprocal.proofs.Dividing.{reciprocal}
use Rattle.reciprocal.proofs.inner.divide.Goals as goal

-- the quotient through the table
quotient : (n d : ℕ) (m : List ℕ) → AreMultipliers m → 0 < d → d ≤ max_divisor → n < reached → d - 1 < length m → n * get_or m (d - 1) 0 / whole ≡ n / d
quotient n d m a p h l i =
    let e : d - 1 + 1 ≡ d = omega arith in
    let k : get_or m (d - 1) 0 ≡ multiplier_of d = a.at (d - 1) i ∙ ap multiplier_of e in
    ap (λ (x : ℕ). n * x / whole) k ∙ reciprocal n d p h l

pub overflow_sub-result : goal.overflow_sub-result
overflow_sub-result c =
    let n = c.args.n in
    let d = c.args.divisor in
    let q = quotient n d c.args.m.now c.requires.are_multipliers c.requires.divisor_nonzero.0 c.requires.divisor_nonzero.1 (omega arith) c.if-i-m.true in
    omega (arith, ap (λ (x : ℕ). x * d) q, div-mul-le_self n d)

pub returns-then-i-m : goal.returns-then-i-m
returns-then-i-m c =
    let n = c.args.n in
    let d = c.args.divisor in
    let q = quotient n d c.args.m.now c.requires.are_multipliers c.requires.divisor_nonzero.0 c.requires.divisor_nonzero.1 (omega arith) c.if-i-m.true in
    (q, omega (arith, ap (λ (x : ℕ). x * d) q, div-add-mod' n d))
