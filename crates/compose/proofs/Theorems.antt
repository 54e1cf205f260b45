-- What composing two maps does, one theorem under each sentence. Assumes nothing.
use Rattle.std.specs.Prelude.{Ok, Err}
use mathlib.Core.Path.{◌≡◌, refl}
use mathlib.Core.Logic.{◌↔◌}
use mathlib.Core.Bool.{Bool, true, false, cond, ◌&&◌}
use mathlib.Core.List.{List, [], ◌∷◌, ◌++◌}
use Prim.Native.Nat.{ℕ, ◌+◌, ◌<◌}
use lib.Dec.{eqb}
use lib.IntN.{ℤ, pos}
use lib.ListN.{length, get_or}
use Rattle.refusal.specs.Number.{done, refusal}
use Rattle.refusal.specs.Judge.{judge}
use Rattle.refusal.specs.declared.Refusal.{Refusal}
use Rattle.expression.specs.Node.{max_variables}
use Rattle.indexing.specs.Map.{in_domain, Domain, SameAt, Alike, good_parts, good_counts, good_ranges}
use Rattle.indexing.specs.Answers.{map_rules, result_values, no_map}
use Rattle.indexing.specs.declared.IndexingMap.{IndexingMap}
use Rattle.indexing.proofs.Answered.{map-done, map-refused, map-number-zero}
use Rattle.encoding.specs.Trees.{result_trees, map_constraints, values_at}
use Rattle.compose.specs.ComposeMap.{composed_results, composed_constraints, composed_map, few_composed, small_composed, compose_rules, compose_answer}
use Rattle.compose.proofs.Composed.{Composes, composes-of, composed-accepted}
use Rattle.compose.proofs.Points.{answer-composed, dims-are, ranges-are, results-are, constraints-are, dimension-is, first-range-is, then-range-is, results-made, constraints-made, all-values, domain-both, domain-test}
use Rattle.compose.proofs.PastCounts.{answer-unread}

-- ---- the answer

-- Composing is refused with 2 where a part of either map breaks its rule; else with 6 where f's results don't number g's dimensions; else
-- with 7 where either map, then the result, passes a count limit; else with 8 where either map, then the result, has a range past the
-- limit; and in no other case.
pub compose-number : (f g : IndexingMap)
    → (compose_answer f g).number
    ≡ cond (good_parts f && good_parts g)
    (cond (eqb f.results g.dims)
    (cond (good_counts f && (good_counts g && few_composed f g)) (cond (good_ranges f && (good_ranges g && small_composed f g)) 0 8) 7)
    6)
    2
unfolding compose_answer
compose-number f g =
    go (good_parts f) (good_parts g) (eqb f.results g.dims) (good_counts f) (good_counts g) (few_composed f g) (good_ranges f) (good_ranges g) (small_composed f g) refl refl refl refl refl refl refl refl refl
  where
    go : (a b c x y z u v w : Bool) → good_parts f ≡ a → good_parts g ≡ b → eqb f.results g.dims ≡ c → good_counts f ≡ x → good_counts g ≡ y → few_composed f g ≡ z
        → good_ranges f ≡ u → good_ranges g ≡ v → small_composed f g ≡ w
        → (compose_answer f g).number
        ≡ cond (good_parts f && good_parts g)
        (cond (eqb f.results g.dims)
        (cond (good_counts f && (good_counts g && few_composed f g)) (cond (good_ranges f && (good_ranges g && small_composed f g)) 0 8) 7)
        6)
        2
    go true true true true true true true true true p q r s t k l m n = rw (p, q, r, s, t, k, l, m, n)
    go true true true true true true true true false p q r s t k l m n = rw (p, q, r, s, t, k, l, m, n)
    go true true true true true true true false w p q r s t k l m n = rw (p, q, r, s, t, k, l, m)
    go true true true true true true false v w p q r s t k l m n = rw (p, q, r, s, t, k, l)
    go true true true true true false u v w p q r s t k l m n = rw (p, q, r, s, t, k)
    go true true true true false z u v w p q r s t k l m n = rw (p, q, r, s, t)
    go true true true false y z u v w p q r s t k l m n = rw (p, q, r, s)
    go true true false x y z u v w p q r s t k l m n = rw (p, q, r)
    go true false c x y z u v w p q r s t k l m n = rw (p, q)
    go false b c x y z u v w p q r s t k l m n = rw p

-- Composing that is refused answers the refusal of the first rule that is broken, and a map of zeros.
pub refused-zeros : (f g : IndexingMap) (r : Refusal) → judge (compose_rules f g) ≡ Err r → compose_answer f g ≡ refusal (no_map ∷ []) r
unfolding compose_answer
refused-zeros f g r e = map-refused (composed_map f g) (compose_rules f g) r e

-- The number is 0 exactly where every rule is kept.
pub done-is : (f g : IndexingMap) → ((compose_answer f g).number ≡ 0) ↔ (judge (compose_rules f g) ≡ Ok tt)
unfolding compose_answer
done-is f g = map-number-zero (composed_map f g) (compose_rules f g)

-- What either record holds past its counts alters nothing in the answer.
pub past-counts : (f f' g g' : IndexingMap) → Alike f f' → Alike g g' → compose_answer f g ≡ compose_answer f' g'
past-counts f f' g g' a b = answer-unread f f' g g' a b

-- ---- maps whose composition is not refused

module _ (f g : IndexingMap) (h : judge (compose_rules f g) ≡ Ok tt) where
  composes : Composes f g
  composes = composes-of f g h

  -- The answer is the composed map.
  pub answer-is : compose_answer f g ≡ done (composed_map f g ∷ [])
  unfolding compose_answer
  answer-is = map-done (composed_map f g) (compose_rules f g) h

  -- Its variables are f's dimensions; f's range variables, then g's. It has g's number of results, and f's constraints, one per result of
  -- f and g's constraints.
  pub counts-are : ((composed_map f g).dims ≡ f.dims)
      × (((composed_map f g).ranges ≡ f.ranges + g.ranges)
      × (((composed_map f g).results ≡ g.results) × ((composed_map f g).constraints ≡ f.constraints + (f.results + g.constraints))))
  counts-are = (dims-are f g composes, (ranges-are f g composes, (results-are f g composes, constraints-are f g composes)))

  -- They keep their bounds.
  pub bounds-are : ((k : ℕ) → k < f.dims → SameAt (composed_map f g).lower (composed_map f g).upper f.lower f.upper k)
      × (((k : ℕ) → k < f.ranges → SameAt (composed_map f g).lower (composed_map f g).upper f.lower f.upper (max_variables + k))
      × ((k : ℕ) → k < g.ranges
      → (get_or (composed_map f g).lower (max_variables + (f.ranges + k)) (pos 0) ≡ get_or g.lower (max_variables + k) (pos 0))
      × (get_or (composed_map f g).upper (max_variables + (f.ranges + k)) (pos 0) ≡ get_or g.upper (max_variables + k) (pos 0))))
  bounds-are = (dimension-is f g composes, (first-range-is f g composes, then-range-is f g composes))

  -- Its trees are g's results with the substitution, and the constraints of both maps and of the bounds between them.
  pub composed-trees : (result_trees (composed_map f g) ≡ composed_results f g) × (map_constraints (composed_map f g) ≡ composed_constraints f g)
  composed-trees = (results-made f g composes, constraints-made f g composes)

  -- A point lies in its domain exactly where it lies in f's domain, and f's values there in g's domain, which has g's bounds.
  pub composed-domain : (ds sf sg : List ℤ) → length sf ≡ f.ranges
      → Domain (composed_map f g) ds (sf ++ sg) ↔ (Domain f ds sf × Domain g (values_at f ds sf) sg)
  composed-domain ds sf sg e = domain-both f g composes ds sf sg e

  -- The same as a test.
  pub composed-test : (ds sf sg : List ℤ) → length sf ≡ f.ranges
      → in_domain (composed_map f g) ds (sf ++ sg) ≡ (in_domain f ds sf && in_domain g (values_at f ds sf) sg)
  composed-test ds sf sg e = domain-test f g composes ds sf sg e

  -- At every point its results have the values of g's results at f's values.
  pub composed-values : (ds sf sg : List ℤ) → length sf ≡ f.ranges → values_at (composed_map f g) ds (sf ++ sg) ≡ values_at g (values_at f ds sf) sg
  composed-values ds sf sg e = all-values f g composes ds sf sg e

  -- It is accepted.
  pub accepted : judge (map_rules (composed_map f g)) ≡ Ok tt
  accepted = let a = composed-accepted f g composes in rw (a.formed.parts, a.formed.counts, a.ranges)

  -- Evaluated at a point of f's domain, and any values of g's range variables, it answers what g answers at f's values: the same values,
  -- or the same refusal.
  pub composed-answers : (ds sf sg : List ℤ) → Domain f ds sf → result_values (composed_map f g) ds (sf ++ sg) ≡ result_values g (values_at f ds sf) sg
  composed-answers ds sf sg h = answer-composed f g composes ds sf sg h.long-ranges h
