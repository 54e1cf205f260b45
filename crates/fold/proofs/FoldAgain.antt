-- Folding a folded map is never refused and changes nothing. Assumes nothing.
use mathlib.Core.Path.{◌≡◌, ap, ap₂, ◌∙◌}
use mathlib.Core.Bool.{true}
use mathlib.Core.List.{List, [], ◌∷◌}
use lib.Dec.{leb}
use lib.ListN.{length}
use Rattle.refusal.specs.Number.{answered, done}
use Rattle.refusal.specs.Judge.{Verdict}
use Rattle.expression.specs.Expression.{Expr}
use Rattle.expression.specs.Node.{max_nodes}
use Rattle.expression.proofs.Within.{Proper}
use Rattle.indexing.specs.declared.IndexingMap.{IndexingMap}
use Rattle.folding.specs.Working.{small_working}
use Rattle.folding.specs.Map.{Constraint, constraint_trees, fold_results, fold_constraints, small_trees}
use Rattle.folding.proofs.Map.{AllTrees, all-trees, trees-small}
use Rattle.folding.proofs.Theorems.{GoodTree, accepted-again, same-results-again, same-constraints-again}
use Rattle.encoding.specs.Encode.{trees_of, nodes_of, encode_map}
use Rattle.indexing.specs.Answers.{no_map}
use Rattle.encoding.specs.Trees.{result_trees, map_constraints, map_bounds}
use Rattle.fold.specs.FoldMap.{folded_results, folded_constraints, folded_map, small_fold, few_nodes, fold_answer}
use Rattle.fold.proofs.BoundsRead.{results_same, constraints-same, small-trees-same}
use Rattle.encoding.proofs.SameBounds.{record_same}
use Rattle.encoding.proofs.Trees.{Read, results-read, constraints-read}
use Rattle.fold.proofs.Folded.{Folds, folds-done, all_left, all_right, folded-all, folded-proper-all, folded-accepted}
use Rattle.fold.proofs.Points.{folded-results-are, folded-constraints-are, dimension-is, range-is, bounds-are}

module _ (m : IndexingMap) (w : Folds m) where
  good : (es : List Expr) → AllTrees (Read m w.accepted.formed) es → AllTrees GoodTree es
  good es h = all-trees (Read m w.accepted.formed) GoodTree (λ e k. k.1) es h

  abbrev folded : List Expr
  folded = trees_of (folded_results m) (folded_constraints m)

  results-again : folded_results (folded_map m) ≡ folded_results m
  results-again =
      ap (fold_results (map_bounds (folded_map m))) (folded-results-are m w)
      ∙ results_same m.dims m.ranges (map_bounds (folded_map m)) (map_bounds m) (bounds-are m w) (folded_results m)
      (all_left (Proper m.dims m.ranges) (folded_results m) (constraint_trees (folded_constraints m)) (folded-proper-all m w))
      ∙ same-results-again (map_bounds m) (result_trees m) (good (result_trees m) (results-read m w.accepted.formed))

  constraints-again : folded_constraints (folded_map m) ≡ folded_constraints m
  constraints-again =
      ap (fold_constraints (map_bounds (folded_map m))) (folded-constraints-are m w)
      ∙ constraints-same m.dims m.ranges (map_bounds (folded_map m)) (map_bounds m) (bounds-are m w) (folded_constraints m)
      (all_right (Proper m.dims m.ranges) (folded_results m) (constraint_trees (folded_constraints m)) (folded-proper-all m w))
      ∙ same-constraints-again (map_bounds m) (map_constraints m) (good (constraint_trees (map_constraints m)) (constraints-read m w.accepted.formed))

  pub map-again : folded_map (folded_map m) ≡ folded_map m
  unfolding folded_map encode_map
  map-again =
      ap₂ (λ (rs : List Expr) (cs : List Constraint). encode_map m.dims m.ranges (folded_map m).lower (folded_map m).upper rs cs) results-again constraints-again
      ∙ record_same m.dims m.ranges (folded_map m).lower (folded_map m).upper m.lower m.upper (dimension-is m w) (range-is m w) (folded_results m) (folded_constraints m)

  trees-again : trees_of (result_trees (folded_map m)) (map_constraints (folded_map m)) ≡ folded
  trees-again = ap₂ trees_of (folded-results-are m w) (folded-constraints-are m w)

  small-again : small_fold (folded_map m) ≡ true
  unfolding small_fold
  small-again =
      ap (small_trees (map_bounds (folded_map m))) trees-again
      ∙ small-trees-same m.dims m.ranges (map_bounds (folded_map m)) (map_bounds m) (bounds-are m w) folded (folded-proper-all m w)
      ∙ trees-small (map_bounds m) folded (folded-all m w (λ (e : Expr). small_working (map_bounds m) e ≡ true) (λ e h. accepted-again (map_bounds m) e h.0.1 h.1))

  few-again : few_nodes (folded_map m) ≡ true
  unfolding few_nodes
  few-again = ap₂ (λ (rs : List Expr) (cs : List Constraint). leb (length (nodes_of (trees_of rs cs))) max_nodes) results-again constraints-again ∙ w.few

  pub folds-again : Folds (folded_map m)
  folds-again = record { accepted = folded-accepted m w; small = small-again; few = few-again }

pub answer-of : (m : IndexingMap) → Folds m → fold_answer m ≡ done (folded_map m ∷ [])
unfolding fold_answer
answer-of m w = ap (λ (v : Verdict). answered (no_map ∷ []) v (folded_map m ∷ [])) (folds-done m w)

pub answer-again : (m : IndexingMap) → Folds m → fold_answer (folded_map m) ≡ done (folded_map m ∷ [])
answer-again m w = answer-of (folded_map m) (folds-again m w) ∙ ap (λ (n : IndexingMap). done (n ∷ [])) (map-again m w)
