-- `tree_sum::leaf_sum` meets its contract. Assumes nothing.
use borrow.Author.Rules.{rules}
use Prim.Native.Nat.{◌≤◌}
use native.Mathlib.Omega.{arith}
use lib.ListN.{length}
use Rattle.expression.specs.Value.{bounds}
use Rattle.rules.specs.Outcome.{max_terms}
use Rattle.tree_sum.proofs.Leaves.{leaf-count, leaf-folds}
use Rattle.tree_sum.proofs.leaf_sum.Statement.{statement}
use Rattle.tree_sum.proofs.leaf_sum.Tie as tie

put-leaf-requires : tie.Need-put_leaf-m-requires
put-leaf-requires c κs = search rules

kept-sum-requires : tie.Need-kept_sum-requires
kept-sum-requires c κs =
    let W = c.put_leaf-m.ensures in
    let high : c.put_leaf-m.result.at ≤ length c.put_leaf-m.new.y = omega (arith, W.high, W.same) in
    let few : c.put_leaf-m.result.n ≤ max_terms = omega (arith, W.counted, leaf-count (bounds c.args.lower.now c.args.upper.now) c.args.leaf) in
    (high, c.requires.1.place, few)

same_length : tie.Need-shape_of-x
same_length c = search rules

same-length-2 : tie.Need-shape_of-y
same-length-2 c = search rules

returns : tie.Need-returns
returns c =
    leaf-folds (bounds c.args.lower.now c.args.upper.now) c.args.leaf c.args.at _ _ _ _ c.args.p _ _ _ c.put_leaf-m.ensures c.kept_sum.ensures

pub leaf_sum_spec : {M : Type 1} → statement M
leaf_sum_spec =
    tie.close (tie.spec put-leaf-requires kept-sum-requires same_length same-length-2 returns)
