-- What a record holds past its counts alters nothing that folding answers. Assumes nothing.
use mathlib.Core.Path.{◌≡◌, refl, sym, ap, ap₂, ◌∙◌}
use mathlib.Core.Bool.{Bool, true, false}
use mathlib.Core.List.{List, [], ◌∷◌}
use Prim.Native.Nat.{ℕ}
use lib.Dec.{leb}
use lib.ListN.{length}
use Rattle.refusal.specs.Number.{answered}
use Rattle.refusal.specs.Judge.{judge}
use Rattle.refusal.specs.Judge.{Verdict}
use Rattle.expression.specs.Expression.{Expr}
use Rattle.expression.specs.Node.{max_nodes}
use Rattle.expression.proofs.Within.{Proper}
use Rattle.indexing.specs.Map.{good_parts, good_counts, Alike}
use Rattle.indexing.specs.Ready.{Formed}
use Rattle.indexing.specs.declared.IndexingMap.{IndexingMap}
use Rattle.indexing.proofs.Unread.{parts_same, counts_same, ranges-same}
use Rattle.folding.specs.Map.{Constraint, constraint_trees, fold_results, fold_constraints, small_trees}
use Rattle.folding.proofs.Map.{AllTrees, all-trees}
use Rattle.encoding.specs.Encode.{trees_of, nodes_of, encode_map}
use Rattle.indexing.specs.Answers.{no_map}
use Rattle.encoding.specs.Trees.{result_trees, map_constraints, map_bounds}
use Rattle.fold.specs.FoldMap.{folded_results, folded_constraints, folded_map, small_fold, few_nodes, fold_rules, fold_answer}
use Rattle.encoding.proofs.Listed.{all_append}
use Rattle.fold.proofs.BoundsRead.{results_same, constraints-same, small-trees-same}
use Rattle.encoding.proofs.SameBounds.{record_same}
use Rattle.encoding.proofs.SameTrees.{dimension-same, range_same, bounds-same, result-trees-same, map-constraints-same}
use Rattle.encoding.proofs.Trees.{Read, results-read, constraints-read}

module _ (m n : IndexingMap) (a : Alike m n) where
  -- ---- where 2 and 7 do not apply
  module _ (f : Formed m) where
    -- ---- what is folded

    proper : (es : List Expr) → AllTrees (Read m f) es → AllTrees (Proper m.dims m.ranges) es
    proper es h = all-trees (Read m f) (Proper m.dims m.ranges) (λ e k. k.0) es h

    results-proper : AllTrees (Proper m.dims m.ranges) (result_trees m)
    results-proper = proper (result_trees m) (results-read m f)

    constraints-proper : AllTrees (Proper m.dims m.ranges) (constraint_trees (map_constraints m))
    constraints-proper = proper (constraint_trees (map_constraints m)) (constraints-read m f)

    folded-results-same : folded_results m ≡ folded_results n
    folded-results-same =
        results_same m.dims m.ranges (map_bounds m) (map_bounds n) (bounds-same m n a f) (result_trees m) results-proper
        ∙ ap (fold_results (map_bounds n)) (result-trees-same m n a f)

    folded-constraints-same : folded_constraints m ≡ folded_constraints n
    folded-constraints-same =
        constraints-same m.dims m.ranges (map_bounds m) (map_bounds n) (bounds-same m n a f) (map_constraints m) constraints-proper
        ∙ ap (fold_constraints (map_bounds n)) (map-constraints-same m n a f)

    map_same : folded_map m ≡ folded_map n
    unfolding folded_map
    map_same =
        record_same m.dims m.ranges m.lower m.upper n.lower n.upper (dimension-same m n a f) (range_same m n a f) (folded_results m) (folded_constraints m)
        ∙ ap₂ (λ (rs : List Expr) (cs : List Constraint). encode_map m.dims m.ranges n.lower n.upper rs cs) folded-results-same folded-constraints-same
        ∙ ap₂ (λ (x y : ℕ). encode_map x y n.lower n.upper (folded_results n) (folded_constraints n)) a.dims a.ranges

    small_same : small_fold m ≡ small_fold n
    unfolding small_fold
    small_same =
        small-trees-same m.dims m.ranges (map_bounds m) (map_bounds n) (bounds-same m n a f) (trees_of (result_trees m) (map_constraints m))
        (all_append (Proper m.dims m.ranges) (result_trees m) (constraint_trees (map_constraints m)) results-proper constraints-proper)
        ∙ ap₂ (λ (rs : List Expr) (cs : List Constraint). small_trees (map_bounds n) (trees_of rs cs)) (result-trees-same m n a f) (map-constraints-same m n a f)

    few-same : few_nodes m ≡ few_nodes n
    unfolding few_nodes
    few-same = ap₂ (λ (rs : List Expr) (cs : List Constraint). leb (length (nodes_of (trees_of rs cs))) max_nodes) folded-results-same folded-constraints-same

    verdict-same : judge (fold_rules m) ≡ judge (fold_rules n)
    verdict-same = rw (parts_same m n a, counts_same m n a, ranges-same m n a f, small_same, few-same)

  pub answer-unread : fold_answer m ≡ fold_answer n
  unfolding fold_answer
  answer-unread = go (good_parts m) (good_counts m) refl refl
    where
      go : (x y : Bool) → good_parts m ≡ x → good_counts m ≡ y → fold_answer m ≡ fold_answer n
      go true true p q =
          let f : Formed m = record { parts = p; counts = q } in
          ap₂ (λ (v : Verdict) (r : IndexingMap). answered (no_map ∷ []) v (r ∷ [])) (verdict-same f) (map_same f)
      go true false p q = rw (p, q, sym (parts_same m n a) ∙ p, sym (counts_same m n a) ∙ q)
      go false y p q = rw (p, sym (parts_same m n a) ∙ p)
