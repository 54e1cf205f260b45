-- Trees at which folding passes no limit: those of small magnitude whose floordivs and mods are of natural trees. Assumes nothing.
use mathlib.Core.Path.{◌≡◌}
use mathlib.Core.Bool.{true}
use mathlib.Core.List.{[], ◌∷◌}
use Prim.Native.Nat.{ℕ, ◌+◌, ◌*◌, ◌<◌, ◌≤◌}
use native.Mathlib.Omega.{arith}
use native.Mathlib.Nat as NatL
use lib.IntN.{pos, nat_abs}
use Rattle.integer.specs.Exact.{limit}
use Rattle.expression.specs.Expression.{Kind, Expr, Range}
use Rattle.folding.specs.Sum.{Atom}
use Rattle.folding.specs.Fold.{fuel_for, fold_sum}
use Rattle.folding.specs.Working.{small_sums, sums_formed, tree_sums, small_working}
use Rattle.folding.proofs.Divisors.{PosE}
use Rattle.folding.proofs.Ending.{weight-enough, fold-folded}
use Rattle.folding.proofs.Judged.{small-both, small_one}
use Rattle.folding.proofs.Magnitude.{atom_magnitude, magnitude, magnitude-small, magnitude-add, magnitude-scale, tree_magnitude}
use Rattle.folding.proofs.Natural.{IsNatural, NaturalS, natural-add, natural-scale, natural-run}

module _ (β : Kind → ℕ → Range) where
  -- every bound starts at 0, every constant and factor is from 0 on, every divisor above 0
  unfoldable pub NaturalE : Expr → Type 0
  NaturalE (Expr.var k n) = (β k n).lo ≡ pos 0
  NaturalE (Expr.const z) = IsNatural z
  NaturalE (Expr.add a b) = NaturalE a × NaturalE b
  NaturalE (Expr.mul z a) = IsNatural z × NaturalE a
  NaturalE (Expr.op o a c) = (0 < c) × NaturalE a

  natural-positive : (e : Expr) → NaturalE e → PosE e
  unfolding NaturalE PosE
  natural-positive (Expr.var k n) h = tt
  natural-positive (Expr.const z) h = tt
  natural-positive (Expr.add a b) h = (natural-positive a h.0, natural-positive b h.1)
  natural-positive (Expr.mul z a) h = natural-positive a h.1
  natural-positive (Expr.op o a c) h = (h.0, natural-positive a h.1)

  natural-fold : (e : Expr) → NaturalE e → NaturalS β (fold_sum β e)
  unfolding NaturalE fold_sum NaturalS IsNatural
  natural-fold (Expr.var k n) h = (tt, h, tt)
  natural-fold (Expr.const z) h = h
  natural-fold (Expr.add a b) h = natural-add β (fold_sum β a) (fold_sum β b) (natural-fold a h.0) (natural-fold b h.1)
  natural-fold (Expr.mul z a) h = natural-scale β z (fold_sum β a) h.0 (natural-fold a h.1)
  natural-fold (Expr.op o a c) h =
      let s = fold_sum β a in
      (natural-run β (fuel_for s c) o s c h.0 (fold-folded β a (natural-positive a h.1)) (weight-enough s c) (natural-fold a h.1)).natural

  -- every floordiv and mod is of a natural tree
  unfoldable pub Plain : Expr → Type 0
  Plain (Expr.var k n) = Unit {0}
  Plain (Expr.const z) = Unit {0}
  Plain (Expr.add a b) = Plain a × Plain b
  Plain (Expr.mul z a) = Plain a
  Plain (Expr.op o a c) = (0 < c) × NaturalE a × Plain a

  pub natural-plain : (e : Expr) → NaturalE e → Plain e
  unfolding NaturalE Plain
  natural-plain (Expr.var k n) h = tt
  natural-plain (Expr.const z) h = tt
  natural-plain (Expr.add a b) h = (natural-plain a h.0, natural-plain b h.1)
  natural-plain (Expr.mul z a) h = natural-plain a h.1
  natural-plain (Expr.op o a c) h = (h.0, h.1, natural-plain a h.1)

  -- the folded sum has no more magnitude than the tree, and folding passes no limit where that is at most 2^62
  record Folds (e : Expr) : Type 0 where
    size : magnitude β (fold_sum β e) ≤ tree_magnitude β e
    small : tree_magnitude β e ≤ limit → small_sums β (tree_sums β e) ≡ true

  last-small : (e : Expr) → magnitude β (fold_sum β e) ≤ tree_magnitude β e → tree_magnitude β e ≤ limit → small_sums β (fold_sum β e ∷ []) ≡ true
  last-small e h l = small_one β (fold_sum β e) (magnitude-small β (fold_sum β e) (omega arith))

  plain-folds : (e : Expr) → Plain e → Folds e
  unfolding Plain fold_sum tree_sums magnitude tree_magnitude
  plain-folds (Expr.var k n) h = let s : 1 * atom_magnitude β (Atom.var k n) + 0 ≤ atom_magnitude β (Atom.var k n) = omega arith in record { size = s; small = last-small (Expr.var k n) s }
  plain-folds (Expr.const z) h = let s : nat_abs z ≤ nat_abs z = omega arith in record { size = s; small = last-small (Expr.const z) s }
  plain-folds (Expr.add a b) h =
      let x = plain-folds a h.0 in
      let y = plain-folds b h.1 in
      let s : magnitude β (fold_sum β (Expr.add a b)) ≤ tree_magnitude β a + tree_magnitude β b = omega (arith, magnitude-add β (fold_sum β a) (fold_sum β b), x.size, y.size) in
      record {
        size = s;
        small = λ l.
            small-both β (tree_sums β a) _ (x.small (omega arith))
            (small-both β (tree_sums β b) _ (y.small (omega arith)) (last-small (Expr.add a b) s l));
      }
  plain-folds (Expr.mul z a) h =
      let x = plain-folds a h in
      let s : magnitude β (fold_sum β (Expr.mul z a)) ≤ tree_magnitude β a + nat_abs z * tree_magnitude β a =
      omega (arith, magnitude-scale β z (fold_sum β a), NatL.mul-le-mul_left (nat_abs z) x.size) in
      record { size = s; small = λ l. small-both β (tree_sums β a) _ (x.small (omega arith)) (last-small (Expr.mul z a) s l) }
  plain-folds (Expr.op o a c) h =
      let x = plain-folds a h.2 in
      let t = fold_sum β a in
      let r = natural-run β (fuel_for t c) o t c h.0 (fold-folded β a (natural-positive a h.1)) (weight-enough t c) (natural-fold a h.1) in
      record {
        size = omega (arith, r.size, x.size);
        small = λ l. small-both β (tree_sums β a) (sums_formed (fuel_for t c) β o t c) (x.small (omega arith)) (r.small (omega (arith, x.size)));
      }

  pub plain-small : (e : Expr) → Plain e → tree_magnitude β e ≤ limit → small_working β e ≡ true
  unfolding small_working
  plain-small e h l = (plain-folds e h).small l
