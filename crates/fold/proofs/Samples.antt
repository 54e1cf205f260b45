-- What folding a record computes with, opened by one name, and a worked example that is refused. Assumes nothing.
use mathlib.Core.Path.{refl}
use mathlib.Core.List.{List, [], ◌∷◌}
use Prim.Native.Nat.{◌^◌}
use lib.IntN.{pos, neg_ℤ}
use Rattle.integer.proofs.Samples.{Agree}
use Rattle.refusal.specs.Number.{Answer, refusal}
use Rattle.refusal.specs.declared.Refusal.TheVariants.{WorkingLimit}
use Rattle.expression.specs.Expression.{d, Expr}
use Rattle.indexing.specs.declared.IndexingMap.{IndexingMap}
use Rattle.folding.specs.Fold.{term_tree, constant_tree, atom_tree}
use Rattle.folding.specs.Working.{small_from, small_sum, small_sums, rests_tried, sums_formed, tree_sums, small_working}
use Rattle.folding.proofs.Samples.{folds}
use Rattle.folding.specs.Map.{fold_tree, is_inside, fold_constraints, small_trees}
use Rattle.encoding.specs.Encode.{encode_map}
use Rattle.encoding.proofs.Samples.{reads-maps}
use Rattle.indexing.specs.Answers.{no_map}
use Rattle.fold.specs.FoldMap.{folded_map, small_fold, few_nodes, fold_answer}

-- the line `unfolding folds-maps` opens all that folding a record computes with: judging and reading it, ranges, merging, what rule 2
-- tries, the rules, the limits, and writing the trees
unfoldable judges : Unit {0}
unfolding small_fold small_trees small_working small_sums small_sum small_from tree_sums sums_formed rests_tried few_nodes
judges = tt

unfoldable writes : Unit {0}
unfolding fold_tree term_tree constant_tree atom_tree fold_constraints is_inside folded_map
writes = tt

unfoldable pub folds-maps : Unit {0}
unfolding reads-maps folds judges writes fold_answer
folds-maps = tt

-- 4 * (2^62 * d0) - 4 * (2^62 * d0) with d0 in [0, 0]: accepted, but 2^64 is a coefficient on the way
abbrev cancelled : Expr
cancelled =
    let large = Expr.mul (pos (2 ^ 62)) (Expr.var d 0) in
    Expr.add (Expr.mul (pos 4) large) (Expr.mul (neg_ℤ (pos 4)) large)

abbrev cancelled_map : IndexingMap
cancelled_map = encode_map 1 0 (pos 0 ∷ []) (pos 0 ∷ []) (cancelled ∷ []) []

abbrev pub refused_samples : List (Answer IndexingMap × Answer IndexingMap)
refused_samples = (fold_answer cancelled_map, refusal (no_map ∷ []) WorkingLimit) ∷ []

pub refused-samples : Agree refused_samples
unfolding folds-maps
refused-samples = refl
