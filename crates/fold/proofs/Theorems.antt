-- What folding a map does, one theorem under each sentence. Assumes nothing.
use Rattle.std.specs.Prelude.{Ok, Err}
use mathlib.Core.Path.{◌≡◌, refl}
use mathlib.Core.Logic.{◌↔◌}
use mathlib.Core.Bool.{Bool, true, false, cond}
use mathlib.Core.List.{List, [], ◌∷◌}
use Prim.Native.Nat.{ℕ, ◌+◌, ◌<◌, ◌≤◌}
use lib.IntN.{ℤ}
use Rattle.refusal.specs.Number.{done, refusal}
use Rattle.refusal.specs.Judge.{judge}
use Rattle.refusal.specs.declared.Refusal.{Refusal}
use Rattle.expression.specs.Node.{max_variables}
use Rattle.indexing.specs.Map.{value_at, in_bounds, Domain, SameAt, Alike, good_parts, good_counts, good_ranges}
use Rattle.indexing.specs.Answers.{map_rules, result_values, no_map}
use Rattle.indexing.specs.declared.IndexingMap.{IndexingMap}
use Rattle.indexing.proofs.Answered.{map-refused, map-number-zero}
use Rattle.encoding.specs.Trees.{result_trees, map_constraints}
use Rattle.fold.specs.FoldMap.{folded_results, folded_constraints, folded_map, small_fold, few_nodes, fold_rules, fold_answer}
use Rattle.fold.proofs.Folded.{Folds, folds-of, constraint-count, folded-accepted}
use Rattle.fold.proofs.Points.{folded-results-are, folded-constraints-are, dims-are, ranges-are, results-are, dimension-is, range-is, domain-both, value_same, answer-same}
use Rattle.fold.proofs.FoldAgain.{map-again, answer-of, answer-again}
use Rattle.fold.proofs.PastCounts.{answer-unread}

-- ---- the answer

-- A fold is refused as the map is, with 2, 7 or 8; else with 8 where a sum formed passes a limit, else with 7 where the folded map has
-- too many nodes, and in no other case.
pub fold-number : (m : IndexingMap)
    → (fold_answer m).number
    ≡ cond (good_parts m) (cond (good_counts m) (cond (good_ranges m) (cond (small_fold m) (cond (few_nodes m) 0 7) 8) 8) 7) 2
unfolding fold_answer
fold-number m = go (good_parts m) (good_counts m) (good_ranges m) (small_fold m) (few_nodes m) refl refl refl refl refl
  where
    go : (a b c e f : Bool) → good_parts m ≡ a → good_counts m ≡ b → good_ranges m ≡ c → small_fold m ≡ e → few_nodes m ≡ f
        → (fold_answer m).number
        ≡ cond (good_parts m) (cond (good_counts m) (cond (good_ranges m) (cond (small_fold m) (cond (few_nodes m) 0 7) 8) 8) 7) 2
    go true true true true true p q r s t = rw (p, q, r, s, t)
    go true true true true false p q r s t = rw (p, q, r, s, t)
    go true true true false f p q r s t = rw (p, q, r, s)
    go true true false e f p q r s t = rw (p, q, r)
    go true false c e f p q r s t = rw (p, q)
    go false b c e f p q r s t = rw p

-- A fold that is refused answers the refusal of the first rule that is broken, and a map of zeros.
pub refused-zeros : (m : IndexingMap) (r : Refusal) → judge (fold_rules m) ≡ Err r → fold_answer m ≡ refusal (no_map ∷ []) r
unfolding fold_answer
refused-zeros m r e = map-refused (folded_map m) (fold_rules m) r e

-- The number is 0 exactly where every rule is kept.
pub done-is : (m : IndexingMap) → ((fold_answer m).number ≡ 0) ↔ (judge (fold_rules m) ≡ Ok tt)
unfolding fold_answer
done-is m = map-number-zero (folded_map m) (fold_rules m)

-- What a record holds past its counts alters nothing in the answer.
pub past-counts : (m n : IndexingMap) → Alike m n → fold_answer m ≡ fold_answer n
past-counts m n a = answer-unread m n a

-- ---- a map whose fold is not refused

module _ (m : IndexingMap) (h : judge (fold_rules m) ≡ Ok tt) where
  folds : Folds m
  folds = folds-of m h

  -- The answer is the folded map.
  pub answer-is : fold_answer m ≡ done (folded_map m ∷ [])
  answer-is = answer-of m folds

  -- The folded map has the folded results, and the folded constraints that stay.
  pub folded-trees : (result_trees (folded_map m) ≡ folded_results m) × (map_constraints (folded_map m) ≡ folded_constraints m)
  folded-trees = (folded-results-are m folds, folded-constraints-are m folds)

  -- It has as many dimensions, range variables and results as the map, and no more constraints.
  pub same-counts : ((folded_map m).dims ≡ m.dims)
      × (((folded_map m).ranges ≡ m.ranges) × (((folded_map m).results ≡ m.results) × ((folded_map m).constraints ≤ m.constraints)))
  same-counts = (dims-are m folds, (ranges-are m folds, (results-are m folds, constraint-count m folds)))

  -- Its variables have the bounds that they have in the map.
  pub same-bounds : ((k : ℕ) → k < m.dims → SameAt (folded_map m).lower (folded_map m).upper m.lower m.upper k)
      × ((k : ℕ) → k < m.ranges → SameAt (folded_map m).lower (folded_map m).upper m.lower m.upper (max_variables + k))
  same-bounds = (dimension-is m folds, range-is m folds)

  -- It has the map's domain.
  pub same-domain : (ds ss : List ℤ) → Domain m ds ss ↔ Domain (folded_map m) ds ss
  same-domain ds ss = domain-both m folds ds ss

  -- At every point inside the bounds its results have the values of the map's results.
  pub same-values : (ds ss : List ℤ) → in_bounds m ds ss ≡ true → (i : ℕ) → i < m.results → value_at (folded_map m) ds ss i ≡ value_at m ds ss i
  same-values ds ss e i l = value_same m folds ds ss e i l

  -- Evaluated anywhere, it answers what the map answers: the same values, or the same refusal.
  pub same-answers : (ds ss : List ℤ) → result_values (folded_map m) ds ss ≡ result_values m ds ss
  same-answers ds ss = answer-same m folds ds ss

  -- It is accepted.
  pub accepted : judge (map_rules (folded_map m)) ≡ Ok tt
  accepted = let a = folded-accepted m folds in rw (a.formed.parts, a.formed.counts, a.ranges)

  -- Folding it again is not refused and changes nothing.
  pub fold-again : (fold_answer (folded_map m) ≡ done (folded_map m ∷ [])) × (folded_map (folded_map m) ≡ folded_map m)
  fold-again = (answer-again m folds, map-again m folds)
