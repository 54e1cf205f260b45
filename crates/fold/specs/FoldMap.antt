-- Folding a map: the folded map, the rules in the order of their numbers, and the answer. Assumes nothing.
use Rattle.std.specs.Prelude.{Bool, List, [], ◌∷◌, leb, length, Result}
use Rattle.refusal.specs.Number.{Answer}
use Rattle.refusal.specs.Judge.{Rule, rule, judge}
use Rattle.refusal.specs.declared.Refusal.{Refusal}
use Rattle.refusal.specs.declared.Refusal.TheVariants.{Attribute, CountLimit, WorkingLimit}
use Rattle.expression.specs.Expression.{Expr}
use Rattle.expression.specs.Node.{max_nodes}
use Rattle.indexing.specs.Map.{good_parts, good_counts, good_ranges}
use Rattle.indexing.specs.Answers.{answered_map, map_by}
use Rattle.indexing.specs.declared.IndexingMap.{IndexingMap}
use Rattle.folding.specs.Map.{Constraint, fold_results, fold_constraints, small_trees}
use Rattle.encoding.specs.Encode.{trees_of, nodes_of, encode_map}
use Rattle.encoding.specs.Trees.{result_trees, map_constraints, map_bounds}

-- ---- the folded map: the same variables and bounds, results folded, constraints folded or gone

abbrev pub folded_results : IndexingMap → List Expr
folded_results m = fold_results (map_bounds m) (result_trees m)

abbrev pub folded_constraints : IndexingMap → List Constraint
folded_constraints m = fold_constraints (map_bounds m) (map_constraints m)

unfoldable pub folded_map : IndexingMap → IndexingMap
folded_map m = encode_map m.dims m.ranges m.lower m.upper (folded_results m) (folded_constraints m)

-- ---- the rules

-- number 8 of the working: every sum formed keeps the limits
unfoldable pub small_fold : IndexingMap → Bool
small_fold m = small_trees (map_bounds m) (trees_of (result_trees m) (map_constraints m))

-- number 7 of the result: its nodes
unfoldable pub few_nodes : IndexingMap → Bool
few_nodes m = leb (length (nodes_of (trees_of (folded_results m) (folded_constraints m)))) max_nodes

-- 2, 7 and 8 of the map given, 8 of the working, 7 of the result
abbrev pub fold_rules : IndexingMap → List Rule
fold_rules m =
    rule (good_parts m) Attribute
    ∷ rule (good_counts m) CountLimit
    ∷ rule (good_ranges m) WorkingLimit
    ∷ rule (small_fold m) WorkingLimit
    ∷ rule (few_nodes m) CountLimit
    ∷ []

-- ---- the answer: the folded map, or a map of zeros

-- of an accepted map: 8 of the working, 7 of the result
abbrev pub work_rules : IndexingMap → List Rule
work_rules m = rule (small_fold m) WorkingLimit ∷ rule (few_nodes m) CountLimit ∷ []

unfoldable pub accepted_fold : IndexingMap → Result IndexingMap Refusal
accepted_fold m = answered_map (judge (work_rules m)) (folded_map m)

unfoldable pub fold_answer : IndexingMap → Answer IndexingMap
fold_answer m = map_by (fold_rules m) (folded_map m)
