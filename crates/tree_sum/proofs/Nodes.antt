-- The folded sum of a node over one tree and of a sum of two, from those of the trees. Assumes nothing.
use mathlib.Core.Path.{◌≡◌, refl, sym, ◌∙◌, subst}
use mathlib.Core.Bool.{Bool, true, false}
use mathlib.Core.List.{List}
use Prim.Native.Nat.{ℕ, ◌+◌, ◌≤◌}
use native.Mathlib.Omega.{arith}
use lib.IntN.{ℤ, nat_abs}
use lib.ListN.{length}
use Rattle.integer.proofs.Trunc.{abs-above-0}
use Rattle.expression.specs.Expression.{Kind, Op, floordiv, modulo, Expr, node_count, Range}
use Rattle.expression.specs.Node.{Divisor}
use Rattle.expression.specs.declared.One.{One}
use Rattle.expression.specs.declared.One.TheVariants.{Product, Floordiv, Mod}
use Rattle.folding.specs.Sum.{Sum, op_number}
use Rattle.folding.specs.Fold.{fuel_for, fold_sum}
use Rattle.folding.specs.Folded.{FoldedS}
use Rattle.folding.specs.Working.{small_working}
use Rattle.folding.proofs.Ending.{weight-enough}
use Rattle.folding.proofs.Size.{size-fold, run-same}
use Rattle.words.proofs.Tests.{clash}
use Rattle.rules.specs.Outcome.{max_terms}
use Rattle.tree_sum.specs.declared.TreeSum.{TreeSum}
use Rattle.tree_sum.specs.Trees.{no_sum, tree_fuel, tree_room, scratch_room, Inside, Stands, Folds, ScalesSum, DividesSum, AddsSums, FoldsOne, FoldsSum}
use Rattle.tree_sum.proofs.Formed.{working-small, working-mul, working-op, working-add, over-one, over_first, over-second}
use Rattle.tree_sum.proofs.Moved.{fuel-enough}

-- ---- a node over one tree

-- the tree passes a limit
pub one-over : (one : One) (a : TreeSum) (x y : List ℤ) (p : ℕ) → a.small ≡ false → Inside x p a → FoldsOne one a x x y y p a
one-over one a x y p s I =
    record {
      placed-tree = record { placed = record { same = refl; below = refl; inside = I }; scratch = refl; begins = refl };
      folds = λ β e G F h k. record { judged = s ∙ sym (over-one β one e (sym F.judged ∙ s)); stands = λ t. clash (sym s ∙ t) };
    }

module _ (a : TreeSum) (x x' y y' : List ℤ) (p : ℕ) (r : TreeSum) where
  pub one_product : (z : ℤ) → a.small ≡ true → ScalesSum z a x x' y y' p r → FoldsOne (Product z) a x x' y y' p r
  unfolding fold_sum node_count
  one_product z s M =
      record {
        placed-tree = M.placed-tree;
        folds = λ β e G F h k.
            let n = size-fold β e in
            let H = M.scales β (fold_sum β e) (F.stands s) (omega arith) (omega arith) in
            record { judged = H.judged ∙ working-mul β z e (sym F.judged ∙ s); stands = H.stands };
      }

  op-folds : (op : ℕ) (c : ℤ) (o : Op) → op ≡ op_number o → Divisor c → length x ≤ max_terms → a.small ≡ true → DividesSum op c a x x' y y' p r
      → (β : Kind → ℕ → Range) (e : Expr) → FoldedS β (fold_sum β e) → Folds β e x p a → p + tree_room (Expr.op o e (nat_abs c)) ≤ length x → scratch_room (Expr.op o e (nat_abs c)) ≤ length y
      → Folds β (Expr.op o e (nat_abs c)) x' p r
  unfolding fold_sum node_count
  op-folds op c o q D l s M β e G F h k =
      let t = fold_sum β e in
      let n = size-fold β e in
      let z = abs-above-0 c D.0 in
      let w = fuel-enough t (nat_abs c) D.1 (omega arith) in
      let H = M.divides β o t q G (F.stands s) (omega arith) (omega arith) in
      record {
        judged = H.judged ∙ working-op β tree_fuel o e (nat_abs c) z G w (sym F.judged ∙ s);
        stands = λ f. subst (λ (u : Sum). Stands β u x' p r) (run-same β tree_fuel (fuel_for t (nat_abs c)) o t (nat_abs c) z G w (weight-enough t (nat_abs c))) (H.stands f);
      }

  pub one-floordiv : (c : ℤ) → Divisor c → length x ≤ max_terms → a.small ≡ true → DividesSum 3 c a x x' y y' p r → FoldsOne (Floordiv c) a x x' y y' p r
  unfolding op_number
  one-floordiv c D l s M = record { placed-tree = M.placed-tree; folds = op-folds 3 c floordiv refl D l s M }

  pub one-modulo : (c : ℤ) → Divisor c → length x ≤ max_terms → a.small ≡ true → DividesSum 4 c a x x' y y' p r → FoldsOne (Mod c) a x x' y y' p r
  unfolding op_number
  one-modulo c D l s M = record { placed-tree = M.placed-tree; folds = op-folds 4 c modulo refl D l s M }

-- ---- a sum of two trees
module _ (b a : TreeSum) (x : List ℤ) (p : ℕ) where
  pub sum_added : (x' y y' : List ℤ) (r : TreeSum) → b.small ≡ true → a.small ≡ true → AddsSums b a x x' y y' p r → FoldsSum b a x x' y y' p r
  unfolding fold_sum node_count
  sum_added x' y y' r s t M =
      record {
        placed-tree = M.placed-tree;
        folds = λ β e f G H F E h k.
            let m = size-fold β e in
            let n = size-fold β f in
            let jf : small_working β f ≡ true = sym F.judged ∙ s in
            let je : small_working β e ≡ true = sym (E s).judged ∙ t in
            let S = M.adds β (fold_sum β e) (fold_sum β f) G H (working-small β f jf) (F.stands s) ((E s).stands t) (omega arith) (omega arith) in
            record { judged = S.judged ∙ working-add β e f je jf; stands = S.stands };
      }

  -- one of the trees passes a limit
  pub sum_over : (y : List ℤ) → p ≤ length x → (b.small ≡ true → a.small ≡ false) → FoldsSum b a x x y y p (no_sum a.begin p)
  sum_over y l n =
      record {
        placed-tree = record { placed = record { same = refl; below = refl; inside = record { low = omega arith; high = l; few = omega arith } }; scratch = refl; begins = refl };
        folds = λ β e f G H F E h k. record { judged = sym (over β e f b.small refl F E); stands = λ q. clash q };
      }
    where
      over : (β : Kind → ℕ → Range) (e f : Expr) (v : Bool) → b.small ≡ v → Folds β f x p b → (b.small ≡ true → Folds β e x b.end a) → small_working β (Expr.add e f) ≡ false
      over β e f true s F E = over_first β e f (sym (E s).judged ∙ n s)
      over β e f false s F E = over-second β e f (sym F.judged ∙ s)
