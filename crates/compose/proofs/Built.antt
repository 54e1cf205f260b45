-- The record made of what was written, its verdict, and the answer it stands for. Assumes nothing.
use Rattle.std.specs.Prelude.{Err}
use mathlib.Core.Path.{◌≡◌, refl, sym, ap, ap₂, ◌∙◌, subst}
use mathlib.Core.Bool.{Bool, true, false, ◌&&◌}
use mathlib.Core.List.{List, [], ◌∷◌, map}
use Prim.Native.Nat.{ℕ, ◌+◌, ◌<◌, ◌≤◌}
use native.Mathlib.Omega.{arith}
use borrow.Author.Tests.{le-leb, lt-leb}
use lib.Dec.{leb}
use lib.IntN.{ℤ}
use lib.ListN.{length, length-append}
use Rattle.radix.proofs.Tests.{and-true, and-false}
use Rattle.refusal.specs.Number.{answered}
use Rattle.refusal.specs.Judge.{rule, judge}
use Rattle.refusal.specs.declared.Refusal.{Refusal}
use Rattle.refusal.specs.declared.Refusal.TheVariants.{CountLimit, WorkingLimit}
use Rattle.refusal.specs.Judge.{Verdict}
use Rattle.expression.specs.Expression.{node_count}
use Rattle.expression.specs.Node.{max_variables, max_nodes}
use Rattle.expression.specs.declared.Node.{Node}
use Rattle.indexing.specs.Map.{max_results, max_constraints, good_ranges}
use Rattle.indexing.specs.Ready.{Formed}
use Rattle.indexing.specs.declared.IndexingMap.{IndexingMap}
use Rattle.folding.specs.Map.{Constraint, constraint_trees}
use Rattle.encoding.specs.Encode.{filled, nodes_of, encode_map}
use Rattle.encoding.proofs.Encoded.{nodes-append}
use Rattle.indexing.specs.Answers.{no_map, map_answer, answered_map}
use Rattle.encoding.proofs.KeptBounds.{record-of-same}
use Rattle.indexing.proofs.Answered.{verdict-answer, map-refused}
use Rattle.compose.specs.ComposeMap.{composed_results, composed_constraints, composed_trees, composed_lower, composed_upper, composed_map, few_composed, small_composed, work_rules, compose_rules, compose_answer, formed_compose}
use Rattle.compose.specs.Ready.{Joinable, constraint_count, Gathers, GathersConstraints, Builds, joined_record, ranges_judged}
use Rattle.compose.specs.declared.BuiltMap.{BuiltMap}
use Rattle.compose.proofs.Joined.{constraints-long}
use Rattle.compose.proofs.Composed.{result_count, composed-formed, composed-ranges}

-- ---- the record

count-trees : (xs : List Constraint) → map node_count (constraint_trees xs) ≡ map (λ (c : Constraint). node_count c.expr) xs
count-trees [] = refl
count-trees (x ∷ xs) = ap (λ (l : List ℕ). node_count x.expr ∷ l) (count-trees xs)

module _ (f g : IndexingMap) where
  pub builds : Joinable f g → {counts nodes ks ks' : List ℕ} {lower upper vs vs' : List ℤ} {start end : ℕ} {r : IndexingMap}
      → Gathers [] (composed_results f g) max_results counts ks vs start → GathersConstraints f g nodes lower upper ks' vs' end
      → r ≡ joined_record f g counts nodes lower upper ks' vs' → Builds f g (record { nodes = end; map = r })
  unfolding composed_map encode_map
  builds w {counts} {nodes} {ks} {ks'} {lower} {upper} {vs} {vs'} {start} {end} {r} a b e =
      record {
        nodes = b.trees.holds.nodes;
        built = λ h.
            let k : length (nodes_of (composed_results f g)) ≤ max_nodes =
            omega (
              arith,
              h,
              ap (λ (l : List Node). length l) (nodes-append (composed_results f g) (constraint_trees (composed_constraints f g))),
              length-append (nodes_of (composed_results f g)) (nodes_of (constraint_trees (composed_constraints f g))),
            ) in
            e
            ∙ record-of-same f.dims (f.ranges + g.ranges) (composed_lower f g) (composed_upper f g) (sym (result_count f g w)) (a.counted k) (sym (constraints-long f g))
            (b.trees.counted h ∙ ap (filled max_constraints 0) (count-trees (composed_constraints f g))) b.lows b.highs b.trees.holds.kinds b.trees.holds.values;
      }

  -- ---- number 7 of the result

  count-refused : few_composed f g ≡ false → Err CountLimit ≡ formed_compose f g
  unfolding formed_compose
  count-refused e =
      sym
      (ap
      (λ (b : Bool). answered_map (judge (rule b CountLimit ∷ rule (good_ranges f) WorkingLimit ∷ rule (good_ranges g) WorkingLimit ∷ rule (small_composed f g) WorkingLimit ∷ [])) (composed_map f g)) e)

  pub many-ranges : max_variables < f.ranges + g.ranges → Err CountLimit ≡ formed_compose f g
  unfolding few_composed
  many-ranges h =
      count-refused
      (ap (λ (b : Bool). b && (leb (length (composed_constraints f g)) max_constraints && leb (length (nodes_of (composed_trees f g))) max_nodes))
      (lt-leb (f.ranges + g.ranges) max_variables h))

  pub many-constraints : max_constraints < constraint_count f g → Err CountLimit ≡ formed_compose f g
  unfolding few_composed
  many-constraints h =
      let n : max_constraints < length (composed_constraints f g) = omega (arith, constraints-long f g) in
      count-refused
      (and-false (leb (f.ranges + g.ranges) max_variables)
      (ap (λ (b : Bool). b && leb (length (nodes_of (composed_trees f g))) max_nodes) (lt-leb (length (composed_constraints f g)) max_constraints n)))

  pub many-nodes : {r : BuiltMap} → Builds f g r → max_nodes < r.nodes → Err CountLimit ≡ formed_compose f g
  unfolding few_composed
  many-nodes b h =
      let n : max_nodes < length (nodes_of (composed_trees f g)) = omega (arith, b.nodes) in
      count-refused
      (and-false (leb (f.ranges + g.ranges) max_variables)
      (and-false (leb (length (composed_constraints f g)) max_constraints) (lt-leb (length (nodes_of (composed_trees f g))) max_nodes n)))

  -- ---- number 8
  module _ (w : Joinable f g) (c : constraint_count f g ≤ max_constraints) {r : BuiltMap} (b : Builds f g r) (n : r.nodes ≤ max_nodes) where
    nodes-few : length (nodes_of (composed_trees f g)) ≤ max_nodes
    nodes-few = omega (arith, b.nodes)

    map_is : r.map ≡ composed_map f g
    map_is = b.built nodes-few

    pub map-formed : Formed r.map
    map-formed = subst Formed (sym map_is) (composed-formed f g w c nodes-few)

    few-true : few_composed f g ≡ true
    unfolding few_composed
    few-true =
        and-true (le-leb (f.ranges + g.ranges) max_variables w.few)
        (and-true (le-leb (length (composed_constraints f g)) max_constraints (omega (arith, constraints-long f g))) (le-leb (length (nodes_of (composed_trees f g))) max_nodes nodes-few))

    pub ranges-judged : ranges_judged f g r.map ≡ formed_compose f g
    unfolding formed_compose
    ranges-judged =
        ap (ranges_judged f g) map_is
        ∙ ap₂ (λ (x y : Bool). answered_map (judge (rule x CountLimit ∷ rule (good_ranges f) WorkingLimit ∷ rule (good_ranges g) WorkingLimit ∷ rule y WorkingLimit ∷ [])) (composed_map f g))
        (sym few-true) (composed-ranges f g w c nodes-few)

  -- ---- the answer

  pub compose-refused : (r : Refusal) → judge (compose_rules f g) ≡ Err r → map_answer (Err r) ≡ compose_answer f g
  unfolding compose_answer
  compose-refused r e = sym (map-refused (composed_map f g) (compose_rules f g) r e)

  pub compose-done : judge (compose_rules f g) ≡ judge (work_rules f g) → map_answer (formed_compose f g) ≡ compose_answer f g
  unfolding formed_compose compose_answer
  compose-done e = verdict-answer (composed_map f g) (judge (work_rules f g)) ∙ ap (λ (v : Verdict). answered (no_map ∷ []) v (composed_map f g ∷ [])) (sym e)
