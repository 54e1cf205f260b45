-- At a point the folded map has the domain and the values of the map. Assumes nothing.
use Rattle.std.specs.Prelude.{Ok}
use mathlib.Core.Path.{◌≡◌, refl, sym, ap, ap₂, ◌∙◌, subst}
use mathlib.Core.Logic.{◌↔◌}
use mathlib.Core.Bool.{Bool, true, false, ◌&&◌}
use mathlib.Core.List.{List, ◌∷◌}
use Prim.Native.Nat.{ℕ, ◌+◌, ◌<◌}
use native.Mathlib.Nat.{zero-add}
use native.Mathlib.Omega.{arith}
use lib.Dec.{eqb}
use lib.IntN.{ℤ, pos}
use lib.ListN.{length, get_or, replicate}
use lib.Seq.{get_or-drop}
use Rattle.radix.proofs.Tests.{and_left, and_right}
use Rattle.refusal.specs.Number.{answered}
use Rattle.refusal.specs.Judge.{Verdict}
use Rattle.expression.specs.Expression.{Kind, d, s, Expr, span, In, eval}
use Rattle.expression.specs.Node.{max_variables}
use Rattle.expression.specs.Value.{point_of, bounds}
use Rattle.expression.proofs.Within.{Proper, Inside}
use Rattle.indexing.specs.Map.{max_results, value_at, right_length, are_in, in_bounds, in_domain, Domain, SameAt}
use Rattle.indexing.specs.Ready.{Formed}
use Rattle.indexing.specs.Answers.{values_of, result_values}
use Rattle.indexing.specs.declared.IndexingMap.{IndexingMap}
use Rattle.indexing.proofs.Answered.{point_verdict, point-judged}
use Rattle.indexing.proofs.Comparisons.{same_test}
use Rattle.indexing.proofs.Formed.{in-interval}
use Rattle.indexing.proofs.Theorems.{domain-is}
use Rattle.indexing.proofs.Unread.{front_same}
use Rattle.folding.specs.Map.{constraint_trees, Holds, fold_tree}
use Rattle.folding.proofs.Map.{AllTrees, all-trees, tree-value, holds-folded, folded-holds}
use Rattle.encoding.specs.Encode.{encode_map}
use Rattle.encoding.proofs.Lists.{map_at}
use Rattle.encoding.proofs.Encoded.{encoded-dimension, encoded-range}
use Rattle.encoding.specs.Trees.{expr_at, result_trees, map_constraints, map_bounds}
use Rattle.fold.specs.FoldMap.{folded_results, folded_constraints, folded_map}
use Rattle.encoding.proofs.Listed.{listed-length, listed_at}
use Rattle.encoding.proofs.SameBounds.{variable-same}
use Rattle.encoding.proofs.AtPoint.{value_of, domain-holds, holds-at}
use Rattle.encoding.proofs.Trees.{Read, expr-read, constraints-read, made-results, made-constraints}
use Rattle.fold.proofs.Folded.{Folds, result_count, fitting, folded-accepted}

-- a point inside the bounds
point-inside : (m : IndexingMap) (ds ss : List ℤ) → in_bounds m ds ss ≡ true → Inside m.dims m.ranges (map_bounds m) (point_of ds ss)
unfolding in_bounds bounds point_of
point-inside m ds ss e =
    let a = and_left (are_in ds m.lower m.upper 0 m.dims) _ e in
    let b = and_right (are_in ds m.lower m.upper 0 m.dims) _ e in
    record {
      dims = λ n h. rw (zero-add n) at (in-interval ds m.lower m.upper 0 m.dims a n h);
      ranges = λ n h.
          rw (get_or-drop max_variables m.lower n (pos 0), get_or-drop max_variables m.upper n (pos 0))
          (in-interval ss m.lower m.upper max_variables m.ranges b n h);
    }

domain-inside : (m : IndexingMap) (ds ss : List ℤ) → Domain m ds ss → in_bounds m ds ss ≡ true
unfolding in_domain
domain-inside m ds ss h = and_left (in_bounds m ds ss) _ (and_right (right_length m ds ss) _ ((domain-is m ds ss).1 h))

-- ---- a map whose fold is accepted

module _ (m : IndexingMap) (w : Folds m) where
  pub folded-results-are : result_trees (folded_map m) ≡ folded_results m
  unfolding folded_map
  folded-results-are = made-results m.dims m.ranges m.lower m.upper (folded_results m) (folded_constraints m) (fitting m w)

  pub folded-constraints-are : map_constraints (folded_map m) ≡ folded_constraints m
  unfolding folded_map
  folded-constraints-are = made-constraints m.dims m.ranges m.lower m.upper (folded_results m) (folded_constraints m) (fitting m w)

  pub dims-are : (folded_map m).dims ≡ m.dims
  unfolding folded_map encode_map
  dims-are = refl

  pub ranges-are : (folded_map m).ranges ≡ m.ranges
  unfolding folded_map encode_map
  ranges-are = refl

  pub results-are : (folded_map m).results ≡ m.results
  unfolding folded_map encode_map
  results-are = result_count m w

  pub dimension-is : (k : ℕ) → k < m.dims → SameAt (folded_map m).lower (folded_map m).upper m.lower m.upper k
  unfolding folded_map
  dimension-is k h = encoded-dimension m.dims m.ranges m.lower m.upper (folded_results m) (folded_constraints m) (fitting m w) k h

  pub range-is : (k : ℕ) → k < m.ranges → SameAt (folded_map m).lower (folded_map m).upper m.lower m.upper (max_variables + k)
  unfolding folded_map
  range-is k h = encoded-range m.dims m.ranges m.lower m.upper (folded_results m) (folded_constraints m) (fitting m w) k h

  pub bounds-are : (k : Kind) (n : ℕ) → Proper m.dims m.ranges (Expr.var k n) → map_bounds (folded_map m) k n ≡ map_bounds m k n
  bounds-are = variable-same m.dims m.ranges (folded_map m).lower (folded_map m).upper m.lower m.upper dimension-is range-is

  given : Formed m
  given = w.accepted.formed

  made : Formed (folded_map m)
  made = (folded-accepted m w).formed

  constraints-proper : AllTrees (Proper m.dims m.ranges) (constraint_trees (map_constraints m))
  constraints-proper = all-trees (Read m given) (Proper m.dims m.ranges) (λ e h. h.0) (constraint_trees (map_constraints m)) (constraints-read m given)

  -- result i of the folded map
  expr-folded : (i : ℕ) → i < m.results → expr_at (folded_map m) i ≡ fold_tree (map_bounds m) (expr_at m i)
  expr-folded i h =
      let z = Expr.const (pos 0) in
      let k : i < (folded_map m).results = omega (arith, results-are) in
      let l : i < length (result_trees m) = omega (arith, listed-length (expr_at m) m.results) in
      sym (listed_at (expr_at (folded_map m)) (folded_map m).results i z k)
      ∙ ap (λ (es : List Expr). get_or es i z) folded-results-are
      ∙ map_at (λ (e : Expr). fold_tree (map_bounds m) e) (result_trees m) i z z l
      ∙ ap (λ (e : Expr). fold_tree (map_bounds m) e) (listed_at (expr_at m) m.results i z h)

  proper-at : (i : ℕ) → i < m.results → Proper m.dims m.ranges (expr_at m i)
  proper-at i h = (expr-read m given i (omega arith)).0

  module _ (ds ss : List ℤ) where
    pub value_same : in_bounds m ds ss ≡ true → (i : ℕ) → i < m.results → value_at (folded_map m) ds ss i ≡ value_at m ds ss i
    value_same e i h =
        let k : i < (folded_map m).results + (folded_map m).constraints = omega (arith, results-are) in
        value_of (folded_map m) made ds ss i k
        ∙ ap (eval (point_of ds ss)) (expr-folded i h)
        ∙ tree-value m.dims m.ranges (map_bounds m) (point_of ds ss) (point-inside m ds ss e) (expr_at m i) (proper-at i h)
        ∙ sym (value_of m given ds ss i (omega arith))

    domain-folded : Domain m ds ss → Domain (folded_map m) ds ss
    domain-folded h =
        record {
          long-dims = h.long-dims ∙ sym dims-are;
          long-ranges = h.long-ranges ∙ sym ranges-are;
          dims = λ n l. let k : n < m.dims = omega (arith, dims-are) in rw ((dimension-is n k).0, (dimension-is n k).1) (h.dims n k);
          ranges = λ n l. let k : n < m.ranges = omega (arith, ranges-are) in rw ((range-is n k).0, (range-is n k).1) (h.ranges n k);
          holds =
              holds-at (folded_map m) made ds ss
              (subst (Holds (point_of ds ss)) (sym folded-constraints-are)
              (holds-folded m.dims m.ranges (map_bounds m) (point_of ds ss) (point-inside m ds ss (domain-inside m ds ss h)) (map_constraints m) constraints-proper
              (domain-holds m given ds ss h)));
        }

    folded-domain : Domain (folded_map m) ds ss → Domain m ds ss
    unfolding Proper
    folded-domain h =
        record {
          long-dims = h.long-dims ∙ dims-are;
          long-ranges = h.long-ranges ∙ ranges-are;
          dims = dimension;
          ranges = range;
          holds = holds-at m given ds ss constraints;
        }
      where
        dimension : (n : ℕ) → n < m.dims → In (get_or ds n (pos 0)) (span (get_or m.lower n (pos 0)) (get_or m.upper n (pos 0)))
        dimension n l =
            let k : n < (folded_map m).dims = omega (arith, dims-are) in
            rw ((dimension-is n l).0, (dimension-is n l).1) at (h.dims n k)

        range : (n : ℕ) → n < m.ranges
            → In (get_or ss n (pos 0)) (span (get_or m.lower (max_variables + n) (pos 0)) (get_or m.upper (max_variables + n) (pos 0)))
        range n l =
            let k : n < (folded_map m).ranges = omega (arith, ranges-are) in
            rw ((range-is n l).0, (range-is n l).1) at (h.ranges n k)

        inside : Inside m.dims m.ranges (map_bounds m) (point_of ds ss)
        inside =
            let i = point-inside (folded_map m) ds ss (domain-inside (folded_map m) ds ss h) in
            record {
              dims = λ n l. let k : n < (folded_map m).dims = omega (arith, dims-are) in rw (← bounds-are d n l) (i.dims n k);
              ranges = λ n l. let k : n < (folded_map m).ranges = omega (arith, ranges-are) in rw (← bounds-are s n l) (i.ranges n k);
            }

        constraints : Holds (point_of ds ss) (map_constraints m)
        constraints =
            folded-holds m.dims m.ranges (map_bounds m) (point_of ds ss) inside (map_constraints m) constraints-proper
            (subst (Holds (point_of ds ss)) folded-constraints-are (domain-holds (folded_map m) made ds ss h))

    pub domain-both : Domain m ds ss ↔ Domain (folded_map m) ds ss
    domain-both = (domain-folded, folded-domain)

    in-domain-same : in_domain (folded_map m) ds ss ≡ in_domain m ds ss
    in-domain-same =
        same_test (in_domain (folded_map m) ds ss) (in_domain m ds ss)
        (λ e. (domain-is m ds ss).1 (folded-domain ((domain-is (folded_map m) ds ss).0 e)))
        (λ e. (domain-is (folded_map m) ds ss).1 (domain-folded ((domain-is m ds ss).0 e)))

    -- ---- the answer of evaluating

    abbrev values : IndexingMap → List ℤ
    values n = pos n.results ∷ values_of n ds ss n.results

    values-are : in_bounds m ds ss ≡ true → values (folded_map m) ≡ values m
    values-are e =
        ap (λ (n : ℕ). pos n ∷ values_of (folded_map m) ds ss n) results-are
        ∙ ap (λ (l : List ℤ). pos m.results ∷ l) (front_same (value_at (folded_map m) ds ss) (value_at m ds ss) m.results max_results (value_same e))

    pub answer-same : result_values (folded_map m) ds ss ≡ result_values m ds ss
    unfolding result_values
    answer-same =
        ap (λ (v : Verdict). answered zeros v (values (folded_map m))) (point-judged (folded_map m) (folded-accepted m w) ds ss)
        ∙ ap (λ (v : Verdict). answered zeros v (values (folded_map m))) verdicts
        ∙ go (right_length m ds ss) (in_domain m ds ss) refl
        ∙ ap (λ (v : Verdict). answered zeros v (values m)) (sym (point-judged m w.accepted ds ss))
      where
        zeros : List ℤ
        zeros = replicate (1 + max_results) (pos 0)

        verdicts : point_verdict (right_length (folded_map m) ds ss) (in_domain (folded_map m) ds ss)
            ≡ point_verdict (right_length m ds ss) (in_domain m ds ss)
        verdicts = ap₂ point_verdict (ap₂ (λ (x y : ℕ). eqb (length ds) x && eqb (length ss) y) dims-are ranges-are) in-domain-same

        go : (long inside : Bool) → in_domain m ds ss ≡ inside → answered zeros (point_verdict long inside) (values (folded_map m)) ≡ answered zeros (point_verdict long inside) (values m)
        go true true e = ap (λ (l : List ℤ). answered zeros (Ok tt) l) (values-are (domain-inside m ds ss ((domain-is m ds ss).0 e)))
        go true false e = refl
        go false inside e = refl
