-- What a record holds past its counts alters nothing that composing answers. Assumes nothing.
use mathlib.Core.Path.{◌≡◌, refl, sym, ap, ap₂, ◌∙◌}
use mathlib.Core.Bool.{Bool, true, false, ◌&&◌}
use mathlib.Core.List.{List, [], ◌∷◌, ◌++◌, map}
use Prim.Native.Nat.{ℕ, ◌+◌, ◌-◌, ◌<◌, ◌≤◌}
use native.Mathlib.Omega.{arith}
use native.Mathlib.Decide.{dec_lt}
use lib.Dec.{leb, eqb}
use lib.IntN.{pos}
use lib.ListN.{length, get_or}
use Rattle.refusal.specs.Number.{answered}
use Rattle.refusal.specs.Judge.{judge}
use Rattle.refusal.specs.Judge.{Verdict}
use Rattle.expression.specs.Expression.{Kind, d, s, rt, Expr, Range, span}
use Rattle.expression.specs.Node.{max_variables, max_places, max_nodes}
use Rattle.expression.specs.Value.{bounds}
use Rattle.expression.proofs.Within.{Proper}
use Rattle.indexing.specs.Map.{max_constraints, good_parts, good_counts, SameAt, Alike}
use Rattle.indexing.specs.Ready.{Formed}
use Rattle.indexing.specs.declared.IndexingMap.{IndexingMap}
use Rattle.indexing.proofs.Formed.{counts}
use Rattle.indexing.proofs.Unread.{parts_same, counts_same, ranges-same}
use Rattle.folding.specs.Map.{Constraint}
use Rattle.encoding.specs.Postfix.{Encodable}
use Rattle.encoding.specs.Encode.{trees_of, nodes_of, encode_map, AllEncodable, all_small}
use Rattle.encoding.proofs.Bounds.{small_same}
use Rattle.encoding.proofs.Listed.{listed_same, listed-map}
use Rattle.encoding.proofs.SameBounds.{record_same, variable-same}
use Rattle.encoding.proofs.SameTrees.{expr-same, interval-same, map-constraints-same}
use Rattle.encoding.proofs.Trees.{runs-all}
use Rattle.indexing.specs.Answers.{no_map}
use Rattle.encoding.specs.Trees.{listed, expr_at, constraint_at, map_constraints}
use Rattle.compose.specs.ComposeMap.{substitute, put_into, inside_at, substituted, composed_results, composed_constraints, composed_trees, composed_lower, composed_upper, composed_map, few_composed, small_composed, compose_rules, compose_answer}
use Rattle.compose.specs.Ready.{Composable}
use Rattle.compose.proofs.Splicing.{expr-encodable}
use Rattle.compose.proofs.Joined.{joined-first, joined-other}
use Rattle.compose.proofs.Composed.{eqb-true, few-ranges, trees-encodable}

-- substitution takes the trees of the variables that occur
substitute-same : (t u : ℕ → Expr) (r dims ranges : ℕ) → ((n : ℕ) → n < dims → t n ≡ u n) → (e : Expr) → Encodable dims ranges e → substitute t r e ≡ substitute u r e
unfolding substitute Encodable
substitute-same t u r dims ranges f (Expr.var d n) h = f n h
substitute-same t u r dims ranges f (Expr.var s n) h = refl
substitute-same t u r dims ranges f (Expr.var rt n) h = refl
substitute-same t u r dims ranges f (Expr.const z) h = refl
substitute-same t u r dims ranges f (Expr.add a b) h = ap₂ Expr.add (substitute-same t u r dims ranges f a h.0) (substitute-same t u r dims ranges f b h.1)
substitute-same t u r dims ranges f (Expr.mul z a) h = ap (Expr.mul z) (substitute-same t u r dims ranges f a h.1)
substitute-same t u r dims ranges f (Expr.op o a c) h = ap (λ (x : Expr). Expr.op o x c) (substitute-same t u r dims ranges f a h.1.1)

all-small-same : (dims ranges : ℕ) (β γ : Kind → ℕ → Range) → ((k : ℕ) → k < dims → β d k ≡ γ d k) → ((k : ℕ) → k < ranges → β s k ≡ γ s k)
    → (es : List Expr) → AllEncodable dims ranges es → all_small β es ≡ all_small γ es
all-small-same dims ranges β γ hd hs [] h = refl
all-small-same dims ranges β γ hd hs (e ∷ es) h = ap₂ (λ (a b : Bool). a && b) (small_same dims ranges β γ hd hs e h.0) (all-small-same dims ranges β γ hd hs es h.1)

module _ (f f' g g' : IndexingMap) (a : Alike f f') (b : Alike g g') where
  -- ---- where 2, 6 and 7 do not apply to the maps given
  module _ (w : Composable f g) where
    before : Formed f
    before = w.before

    after : Formed g
    after = w.after

    put_same : (i : ℕ) → i < g.results + g.constraints → put_into f (expr_at g i) ≡ put_into f' (expr_at g' i)
    put_same i h =
        substitute-same (expr_at f) (expr_at f') f.ranges g.dims g.ranges
        (λ n l. let e = w.fits in expr-same f f' a before n (omega arith)) (expr_at g i) (expr-encodable g after i (omega (arith, runs-all g after)))
        ∙ ap₂ (λ (r : ℕ) (e : Expr). substitute (expr_at f') r e) a.ranges (expr-same g g' b after i h)

    results_same : composed_results f g ≡ composed_results f' g'
    results_same =
        listed-map (λ (e : Expr). put_into f e) (expr_at g) g.results
        ∙ listed_same (λ (i : ℕ). put_into f (expr_at g i)) (λ (i : ℕ). put_into f' (expr_at g' i)) g.results (λ k l. put_same k (omega arith))
        ∙ ap (listed (λ (i : ℕ). put_into f' (expr_at g' i))) b.results
        ∙ sym (listed-map (λ (e : Expr). put_into f' e) (expr_at g') g'.results)

    inside-same : listed (inside_at f g) f.results ≡ listed (inside_at f' g') f'.results
    inside-same = listed_same (inside_at f g) (inside_at f' g') f.results each ∙ ap (listed (inside_at f' g')) a.results
      where
        each : (i : ℕ) → i < f.results → inside_at f g i ≡ inside_at f' g' i
        each i l =
            let c = counts g after in
            let e = w.fits in
            let q = b.dimension i (omega (arith, c.dims)) in
            ap₂ (λ (x : Expr) (r : Range). record { expr = x; interval = r }) (expr-same f f' a before i (omega arith)) (ap₂ span q.0 q.1)

    then_same : map (λ (c : Constraint). substituted f c) (map_constraints g) ≡ map (λ (c : Constraint). substituted f' c) (map_constraints g')
    then_same =
        listed-map (λ (c : Constraint). substituted f c) (constraint_at g) g.constraints
        ∙ listed_same (λ (k : ℕ). substituted f (constraint_at g k)) (λ (k : ℕ). substituted f' (constraint_at g' k)) g.constraints each
        ∙ ap (listed (λ (k : ℕ). substituted f' (constraint_at g' k))) b.constraints
        ∙ sym (listed-map (λ (c : Constraint). substituted f' c) (constraint_at g') g'.constraints)
      where
        each : (k : ℕ) → k < g.constraints → substituted f (constraint_at g k) ≡ substituted f' (constraint_at g' k)
        each k l =
            ap₂ (λ (x : Expr) (r : Range). record { expr = x; interval = r })
            (put_same (g.results + k) (omega arith) ∙ ap (λ (i : ℕ). put_into f' (expr_at g' (i + k))) b.results) (interval-same g g' b after k l)

    constraints-same : composed_constraints f g ≡ composed_constraints f' g'
    constraints-same = ap₂ (λ (x y : List Constraint). x ++ y) (map-constraints-same f f' a before) (ap₂ (λ (x y : List Constraint). x ++ y) inside-same then_same)

    few-same : few_composed f g ≡ few_composed f' g'
    unfolding few_composed
    few-same =
        ap₂ (λ (rs : List Expr) (cs : List Constraint). leb (f.ranges + g.ranges) max_variables && (leb (length cs) max_constraints && leb (length (nodes_of (trees_of rs cs))) max_nodes)) results_same constraints-same
        ∙ ap₂ (λ (x y : ℕ). leb (x + y) max_variables && (leb (length (composed_constraints f' g')) max_constraints && leb (length (nodes_of (composed_trees f' g'))) max_nodes)) a.ranges b.ranges

    -- ---- and the range variables are not too many
    module _ (few : f.ranges + g.ranges ≤ max_variables) where
      same_first : (p : ℕ) → p < max_places → p < max_variables + f.ranges → SameAt f.lower f.upper f'.lower f'.upper p
          → SameAt (composed_lower f g) (composed_upper f g) (composed_lower f' g') (composed_upper f' g') p
      same_first p h k q =
          let e = a.ranges in
          let k' : p < max_variables + f'.ranges = omega arith in (
            joined-first f.ranges f.lower g.lower p h k ∙ q.0 ∙ sym (joined-first f'.ranges f'.lower g'.lower p h k'),
            joined-first f.ranges f.upper g.upper p h k ∙ q.1 ∙ sym (joined-first f'.ranges f'.upper g'.upper p h k'),
          )

      same_then : (p i : ℕ) → p < max_places → max_variables + f.ranges ≤ p → p - f.ranges ≡ i → SameAt g.lower g.upper g'.lower g'.upper i
          → SameAt (composed_lower f g) (composed_upper f g) (composed_lower f' g') (composed_upper f' g') p
      same_then p i h k e q =
          let r = a.ranges in
          let k' : max_variables + f'.ranges ≤ p = omega arith in
          let e' : p - f'.ranges ≡ i = omega arith in (
            joined-other f.ranges f.lower g.lower p h k ∙ ap (λ (n : ℕ). get_or g.lower n (pos 0)) e ∙ q.0
                ∙ sym (joined-other f'.ranges f'.lower g'.lower p h k' ∙ ap (λ (n : ℕ). get_or g'.lower n (pos 0)) e'),
            joined-other f.ranges f.upper g.upper p h k ∙ ap (λ (n : ℕ). get_or g.upper n (pos 0)) e ∙ q.1
                ∙ sym (joined-other f'.ranges f'.upper g'.upper p h k' ∙ ap (λ (n : ℕ). get_or g'.upper n (pos 0)) e'),
          )

      dims-same : (k : ℕ) → k < f.dims → SameAt (composed_lower f g) (composed_upper f g) (composed_lower f' g') (composed_upper f' g') k
      dims-same k h =
          let c = counts f before in
          same_first k (omega (arith, c.dims)) (omega (arith, c.dims)) (a.dimension k (omega (arith, c.dims)))

      ranges-both : (k : ℕ) → k < f.ranges + g.ranges → SameAt (composed_lower f g) (composed_upper f g) (composed_lower f' g') (composed_upper f' g') (max_variables + k)
      ranges-both k h = go (dec_lt k f.ranges)
        where
          go : Dec (k < f.ranges) → SameAt (composed_lower f g) (composed_upper f g) (composed_lower f' g') (composed_upper f' g') (max_variables + k)
          go (yes l) = same_first (max_variables + k) (omega arith) (omega arith) (a.range k (omega arith))
          go (no l) = same_then (max_variables + k) (max_variables + (k - f.ranges)) (omega arith) (omega arith) (omega arith) (b.range (k - f.ranges) (omega arith))

      map_same : composed_map f g ≡ composed_map f' g'
      unfolding composed_map
      map_same =
          record_same f.dims (f.ranges + g.ranges) (composed_lower f g) (composed_upper f g) (composed_lower f' g') (composed_upper f' g') dims-same ranges-both (composed_results f g) (composed_constraints f g)
          ∙ ap₂ (λ (rs : List Expr) (cs : List Constraint). encode_map f.dims (f.ranges + g.ranges) (composed_lower f' g') (composed_upper f' g') rs cs) results_same constraints-same
          ∙ ap₂ (λ (x y : ℕ). encode_map x y (composed_lower f' g') (composed_upper f' g') (composed_results f' g') (composed_constraints f' g')) a.dims (ap₂ (λ (x y : ℕ). x + y) a.ranges b.ranges)

      variable : (k : Kind) (n : ℕ) → Proper f.dims (f.ranges + g.ranges) (Expr.var k n)
          → bounds (composed_lower f g) (composed_upper f g) k n ≡ bounds (composed_lower f' g') (composed_upper f' g') k n
      variable = variable-same f.dims (f.ranges + g.ranges) (composed_lower f g) (composed_upper f g) (composed_lower f' g') (composed_upper f' g') dims-same ranges-both

      smalls-same : small_composed f g ≡ small_composed f' g'
      unfolding small_composed Proper
      smalls-same =
          all-small-same f.dims (f.ranges + g.ranges) (bounds (composed_lower f g) (composed_upper f g)) (bounds (composed_lower f' g') (composed_upper f' g'))
          (λ k l. variable d k l) (λ k l. variable s k l) (composed_trees f g) (trees-encodable f g (record { both = w; few = few }))
          ∙ ap₂ (λ (rs : List Expr) (cs : List Constraint). all_small (bounds (composed_lower f' g') (composed_upper f' g')) (trees_of rs cs)) results_same constraints-same

      verdict-same : judge (compose_rules f g) ≡ judge (compose_rules f' g')
      verdict-same =
          rw (parts_same f f' a, parts_same g g' b, counts_same f f' a, counts_same g g' b, ranges-same f f' a before, ranges-same g g' b after, few-same, smalls-same, a.results, b.dims)

      answers-same : compose_answer f g ≡ compose_answer f' g'
      unfolding compose_answer
      answers-same = ap₂ (λ (v : Verdict) (r : IndexingMap). answered (no_map ∷ []) v (r ∷ [])) verdict-same map_same

  lengths-same : eqb f.results g.dims ≡ eqb f'.results g'.dims
  lengths-same = ap₂ eqb a.results b.dims

  pub answer-unread : compose_answer f g ≡ compose_answer f' g'
  unfolding compose_answer
  answer-unread =
      go (good_parts f) (good_parts g) (eqb f.results g.dims) (good_counts f) (good_counts g) (few_composed f g) refl refl refl refl refl refl
    where
      p1 : (x : Bool) → good_parts f ≡ x → good_parts f' ≡ x
      p1 x e = sym (parts_same f f' a) ∙ e

      p2 : (x : Bool) → good_parts g ≡ x → good_parts g' ≡ x
      p2 x e = sym (parts_same g g' b) ∙ e

      p3 : (x : Bool) → eqb f.results g.dims ≡ x → eqb f'.results g'.dims ≡ x
      p3 x e = sym lengths-same ∙ e

      p4 : (x : Bool) → good_counts f ≡ x → good_counts f' ≡ x
      p4 x e = sym (counts_same f f' a) ∙ e

      p5 : (x : Bool) → good_counts g ≡ x → good_counts g' ≡ x
      p5 x e = sym (counts_same g g' b) ∙ e

      maps : good_parts f ≡ true → good_parts g ≡ true → eqb f.results g.dims ≡ true → good_counts f ≡ true → good_counts g ≡ true → Composable f g
      maps e1 e2 e3 e4 e5 =
          record { before = record { parts = e1; counts = e4 }; after = record { parts = e2; counts = e5 }; fits = eqb-true f.results g.dims e3 }

      go : (x1 x2 x3 x4 x5 x6 : Bool) → good_parts f ≡ x1 → good_parts g ≡ x2 → eqb f.results g.dims ≡ x3 → good_counts f ≡ x4 → good_counts g ≡ x5 → few_composed f g ≡ x6
          → compose_answer f g ≡ compose_answer f' g'
      go true true true true true true e1 e2 e3 e4 e5 e6 = answers-same (maps e1 e2 e3 e4 e5) (few-ranges f g e6)
      go true true true true true false e1 e2 e3 e4 e5 e6 =
          rw (e1, e2, e3, e4, e5, e6, p1 true e1, p2 true e2, p3 true e3, p4 true e4, p5 true e5, sym (few-same (maps e1 e2 e3 e4 e5)) ∙ e6)
      go true true true true false x6 e1 e2 e3 e4 e5 e6 = rw (e1, e2, e3, e4, e5, p1 true e1, p2 true e2, p3 true e3, p4 true e4, p5 false e5)
      go true true true false x5 x6 e1 e2 e3 e4 e5 e6 = rw (e1, e2, e3, e4, p1 true e1, p2 true e2, p3 true e3, p4 false e4)
      go true true false x4 x5 x6 e1 e2 e3 e4 e5 e6 = rw (e1, e2, e3, p1 true e1, p2 true e2, p3 false e3)
      go true false x3 x4 x5 x6 e1 e2 e3 e4 e5 e6 = rw (e1, e2, p1 true e1, p2 false e2)
      go false x2 x3 x4 x5 x6 e1 e2 e3 e4 e5 e6 = rw (e1, p1 false e1)
