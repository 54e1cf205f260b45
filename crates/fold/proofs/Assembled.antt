-- The record made of what was folded, and the answer it stands for. Assumes nothing.
use Rattle.std.specs.Prelude.{Ok, Err}
use mathlib.Core.Path.{◌≡◌, sym, ap, ap₂, ◌∙◌}
use mathlib.Core.Bool.{Bool, true, false, ◌&&◌}
use mathlib.Core.List.{List, [], ◌∷◌}
use Prim.Native.Nat.{ℕ, ◌<◌, ◌≤◌}
use native.Mathlib.Omega.{arith}
use borrow.Author.Tests.{le-leb, lt-leb}
use lib.IntN.{ℤ}
use lib.ListN.{length, length-append, length-map}
use Rattle.refusal.specs.Judge.{rule, judge}
use Rattle.refusal.specs.declared.Refusal.{Refusal}
use Rattle.refusal.specs.declared.Refusal.TheVariants.{CountLimit, WorkingLimit}
use Rattle.radix.proofs.Tests.{and-true, and-false}
use Rattle.expression.specs.Expression.{Expr}
use Rattle.expression.specs.Node.{max_nodes}
use Rattle.expression.specs.declared.Node.{Node}
use Rattle.indexing.specs.Answers.{map_rules, map_answer, answered_map}
use Rattle.indexing.specs.declared.IndexingMap.{IndexingMap}
use Rattle.indexing.proofs.Answered.{map-after-done, map-after-refused}
use Rattle.folding.specs.Map.{constraint_trees, fold_tree, small_trees}
use Rattle.encoding.specs.Encode.{trees_of, nodes_of, record_of, encode_map, Holds}
use Rattle.encoding.specs.Trees.{expr_at, result_trees, map_constraints, map_bounds}
use Rattle.encoding.proofs.Encoded.{nodes-append}
use Rattle.encoding.proofs.Held.{holds-few}
use Rattle.encoding.proofs.KeptBounds.{record-of-same}
use Rattle.encoding.proofs.Listed.{listed-length}
use Rattle.fold.specs.FoldMap.{folded_results, folded_constraints, folded_map, small_fold, few_nodes, work_rules, accepted_fold, fold_answer}
use Rattle.fold.specs.Ready.{ResultsFolded, ConstraintsFolded}
use Rattle.fold.specs.declared.Remaining.{Remaining}
use Rattle.fold.proofs.Results.{small-append}

-- ---- refused

module _ (m : IndexingMap) where
  large : small_fold m ≡ false → Err WorkingLimit ≡ accepted_fold m
  unfolding accepted_fold
  large e = sym (ap (λ (b : Bool). answered_map (judge (rule b WorkingLimit ∷ rule (few_nodes m) CountLimit ∷ [])) (folded_map m)) e)

  both_small : small_fold m ≡ (small_trees (map_bounds m) (result_trees m) && small_trees (map_bounds m) (constraint_trees (map_constraints m)))
  unfolding small_fold
  both_small = small-append (map_bounds m) (result_trees m) (constraint_trees (map_constraints m))

  pub results-large : small_trees (map_bounds m) (result_trees m) ≡ false → Err WorkingLimit ≡ accepted_fold m
  results-large e = large (both_small ∙ ap (λ (b : Bool). b && small_trees (map_bounds m) (constraint_trees (map_constraints m))) e)

  pub constraints-large : small_trees (map_bounds m) (constraint_trees (map_constraints m)) ≡ false → Err WorkingLimit ≡ accepted_fold m
  constraints-large e = large (both_small ∙ and-false (small_trees (map_bounds m) (result_trees m)) e)

  module _ {counts ks : List ℕ} {vs : List ℤ} {at : ℕ} (f : ResultsFolded m counts ks vs at)
      {nodes : List ℕ} {lower upper : List ℤ} {ks' : List ℕ} {vs' : List ℤ} {q : Remaining} (g : ConstraintsFolded m nodes lower upper ks ks' vs vs' at q) where
    fold_small : small_fold m ≡ true
    fold_small = both_small ∙ and-true f.small g.small

    held : Holds (trees_of (folded_results m) (folded_constraints m)) ks' vs' q.at
    held = g.holds (folded_results m) f.holds

    work-is : (b : Bool) → few_nodes m ≡ b → accepted_fold m ≡ answered_map (judge (rule b CountLimit ∷ [])) (folded_map m)
    unfolding accepted_fold
    work-is b e = ap₂ (λ (x y : Bool). answered_map (judge (rule x WorkingLimit ∷ rule y CountLimit ∷ [])) (folded_map m)) fold_small e

    pub nodes-many : max_nodes < q.at → Err CountLimit ≡ accepted_fold m
    unfolding few_nodes
    nodes-many h = sym (work-is false (lt-leb (length (nodes_of (trees_of (folded_results m) (folded_constraints m)))) max_nodes (omega (arith, held.nodes))))

    module _ (few : q.at ≤ max_nodes) where
      count-few : length (nodes_of (trees_of (folded_results m) (folded_constraints m))) ≤ max_nodes
      count-few = (holds-few held few).0

      results-few : length (nodes_of (folded_results m)) ≤ max_nodes
      results-few =
          omega (
            arith,
            count-few,
            ap (λ (l : List Node). length l) (nodes-append (folded_results m) (constraint_trees (folded_constraints m))),
            length-append (nodes_of (folded_results m)) (nodes_of (constraint_trees (folded_constraints m))),
          )

      pub assembled : Ok (record_of m.dims m.ranges m.lower m.upper m.results counts q.count nodes lower upper ks' vs') ≡ accepted_fold m
      unfolding folded_map encode_map few_nodes
      assembled =
          ap Ok
          (record-of-same m.dims m.ranges m.lower m.upper
          (sym (length-map (result_trees m) (λ (e : Expr). fold_tree (map_bounds m) e) ∙ listed-length (expr_at m) m.results))
          (f.counted results-few) g.count (g.counted (folded_results m) f.holds count-few) g.lows g.highs
          held.kinds held.values)
          ∙ sym (work-is true (le-leb (length (nodes_of (trees_of (folded_results m) (folded_constraints m)))) max_nodes count-few))

  -- ---- the answer

  pub folded-done : judge (map_rules m) ≡ Ok tt → map_answer (accepted_fold m) ≡ fold_answer m
  unfolding accepted_fold fold_answer
  folded-done e = map-after-done (folded_map m) (work_rules m) (map_rules m) e

  pub folded-refused : (r : Refusal) → judge (map_rules m) ≡ Err r → map_answer (Err r) ≡ fold_answer m
  unfolding fold_answer
  folded-refused r e = map-after-refused (folded_map m) (work_rules m) (map_rules m) r e
