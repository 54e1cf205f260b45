-- At a point the composed map is one map after the other: domain and values. Assumes nothing.
use mathlib.Core.Path.{◌≡◌, refl, sym, ap, ap₂, ◌∙◌, subst}
use mathlib.Core.Logic.{◌↔◌}
use mathlib.Core.Bool.{Bool, ◌&&◌}
use mathlib.Core.List.{List, ◌∷◌, ◌++◌}
use Prim.Native.Nat.{ℕ, ◌+◌, ◌-◌, ◌<◌, ◌≤◌}
use native.Mathlib.Omega.{arith}
use native.Mathlib.Decide.{dec_lt}
use borrow.Author.Tests.{eq-eqb}
use lib.Dec.{eqb}
use lib.IntN.{ℤ, pos}
use lib.ListN.{length, get_or, replicate, length-append, get_or-append}
use lib.Seq.{get_or-append-add}
use Rattle.radix.proofs.Tests.{and-true, and_left, and_right}
use Rattle.refusal.specs.Number.{answered}
use Rattle.refusal.specs.Judge.{Verdict}
use Rattle.expression.specs.Expression.{Expr, span, In, eval}
use Rattle.expression.specs.Node.{max_variables, max_places}
use Rattle.expression.specs.Value.{point_of}
use Rattle.indexing.specs.Map.{max_results, value_at, in_domain, Domain, SameAt, right_length}
use Rattle.indexing.specs.Ready.{Formed}
use Rattle.indexing.specs.Answers.{values_of, result_values}
use Rattle.indexing.specs.declared.IndexingMap.{IndexingMap}
use Rattle.indexing.proofs.Formed.{counts}
use Rattle.indexing.proofs.Theorems.{domain-is}
use Rattle.indexing.proofs.Unread.{front_same}
use Rattle.folding.specs.Map.{Constraint}
use Rattle.encoding.specs.Encode.{encode_map}
use Rattle.encoding.proofs.Encoded.{encoded-dimension, encoded-range}
use Rattle.encoding.proofs.Listed.{listed-length, listed_at, listed_same}
use Rattle.encoding.proofs.Trees.{runs-all, made-results, made-constraints}
use Rattle.indexing.proofs.Answered.{point_verdict, point-judged}
use Rattle.indexing.proofs.Comparisons.{same_test}
use Rattle.encoding.proofs.AtPoint.{value_of}
use Rattle.encoding.specs.Trees.{expr_at, constraint_at, result_trees, map_constraints, values_at, listed}
use Rattle.compose.specs.ComposeMap.{put_into, inside_at, substituted, composed_results, composed_constraints, composed_lower, composed_upper, composed_map}
use Rattle.compose.specs.Ready.{constraint_count, constraint_of}
use Rattle.compose.proofs.Substituted.{eval-same, eval-substitute}
use Rattle.compose.proofs.Splicing.{expr-encodable}
use Rattle.compose.proofs.Joined.{joined-first, joined-other, constraints-long, constraints-listed, constraint-first, constraint-inside, constraint-other, none}
use Rattle.compose.proofs.Composed.{Composes, joinable, fits, made, composed-accepted, eqb-true, result_count, results-listed}

module _ (f g : IndexingMap) (w : Composes f g) where
  abbrev whole : IndexingMap
  whole = composed_map f g

  before : Formed f
  before = w.maps.before

  after : Formed g
  after = w.maps.after

  -- ---- the counts

  pub dims-are : whole.dims ≡ f.dims
  unfolding composed_map encode_map
  dims-are = refl

  pub ranges-are : whole.ranges ≡ f.ranges + g.ranges
  unfolding composed_map encode_map
  ranges-are = refl

  pub results-are : whole.results ≡ g.results
  unfolding composed_map encode_map
  results-are = result_count f g (joinable f g w)

  pub constraints-are : whole.constraints ≡ constraint_count f g
  unfolding composed_map encode_map
  constraints-are = constraints-long f g

  -- ---- the bounds

  pub dimension-is : (k : ℕ) → k < f.dims → SameAt whole.lower whole.upper f.lower f.upper k
  unfolding composed_map
  dimension-is k h =
      let c = counts f before in
      let e = encoded-dimension f.dims (f.ranges + g.ranges) (composed_lower f g) (composed_upper f g) (composed_results f g) (composed_constraints f g) (fits f g w) k h in
      let n : k < max_places = omega (arith, c.dims) in
      let l : k < max_variables + f.ranges = omega (arith, c.dims) in
      (e.0 ∙ joined-first f.ranges f.lower g.lower k n l, e.1 ∙ joined-first f.ranges f.upper g.upper k n l)

  range-is : (k : ℕ) → k < f.ranges + g.ranges → SameAt whole.lower whole.upper (composed_lower f g) (composed_upper f g) (max_variables + k)
  unfolding composed_map
  range-is k h = encoded-range f.dims (f.ranges + g.ranges) (composed_lower f g) (composed_upper f g) (composed_results f g) (composed_constraints f g) (fits f g w) k h

  few : f.ranges + g.ranges ≤ max_variables
  few = (joinable f g w).few

  pub first-range-is : (k : ℕ) → k < f.ranges → SameAt whole.lower whole.upper f.lower f.upper (max_variables + k)
  first-range-is k h =
      let e = range-is k (omega arith) in
      let n : max_variables + k < max_places = omega (arith, few) in
      let l : max_variables + k < max_variables + f.ranges = omega arith in
      (e.0 ∙ joined-first f.ranges f.lower g.lower (max_variables + k) n l, e.1 ∙ joined-first f.ranges f.upper g.upper (max_variables + k) n l)

  pub then-range-is : (k : ℕ) → k < g.ranges
      → (get_or whole.lower (max_variables + (f.ranges + k)) (pos 0) ≡ get_or g.lower (max_variables + k) (pos 0))
      × (get_or whole.upper (max_variables + (f.ranges + k)) (pos 0) ≡ get_or g.upper (max_variables + k) (pos 0))
  then-range-is k h =
      let e = range-is (f.ranges + k) (omega arith) in
      let p = max_variables + (f.ranges + k) in
      let n : p < max_places = omega (arith, few) in
      let l : max_variables + f.ranges ≤ p = omega arith in
      let q : p - f.ranges ≡ max_variables + k = omega arith in (
        e.0 ∙ joined-other f.ranges f.lower g.lower p n l ∙ ap (λ (i : ℕ). get_or g.lower i (pos 0)) q,
        e.1 ∙ joined-other f.ranges f.upper g.upper p n l ∙ ap (λ (i : ℕ). get_or g.upper i (pos 0)) q,
      )

  -- ---- the trees

  pub results-made : result_trees whole ≡ composed_results f g
  unfolding composed_map
  results-made = made-results f.dims (f.ranges + g.ranges) (composed_lower f g) (composed_upper f g) (composed_results f g) (composed_constraints f g) (fits f g w)

  pub constraints-made : map_constraints whole ≡ composed_constraints f g
  unfolding composed_map
  constraints-made = made-constraints f.dims (f.ranges + g.ranges) (composed_lower f g) (composed_upper f g) (composed_results f g) (composed_constraints f g) (fits f g w)

  pub expr-result : (i : ℕ) → i < g.results → expr_at whole i ≡ put_into f (expr_at g i)
  expr-result i h =
      let z = Expr.const (pos 0) in
      let k : i < whole.results = omega (arith, results-are) in
      sym (listed_at (expr_at whole) whole.results i z k)
      ∙ ap (λ (es : List Expr). get_or es i z) (results-made ∙ sym (results-listed f g (joinable f g w)))
      ∙ listed_at (λ (i : ℕ). put_into f (expr_at g i)) g.results i z h

  constraint-is : (k : ℕ) → k < constraint_count f g → constraint_at whole k ≡ constraint_of f g k
  constraint-is k h =
      let l : k < whole.constraints = omega (arith, constraints-are) in
      sym (listed_at (constraint_at whole) whole.constraints k (none f g) l)
      ∙ ap (λ (xs : List Constraint). get_or xs k (none f g)) (constraints-made ∙ sym (constraints-listed f g))
      ∙ listed_at (constraint_of f g) (constraint_count f g) k (none f g) h

  -- ---- a point: values of f's dimensions, of f's range variables and of g's

  module _ (ds sf sg : List ℤ) (long : length sf ≡ f.ranges) where
    abbrev vs : List ℤ
    vs = values_at f ds sf

    first-at : (n : ℕ) → n < f.ranges → get_or (sf ++ sg) n (pos 0) ≡ get_or sf n (pos 0)
    first-at n h = get_or-append sf sg (pos 0) n (omega (arith, long))

    then_at : (n : ℕ) → get_or (sf ++ sg) (f.ranges + n) (pos 0) ≡ get_or sg n (pos 0)
    then_at n = ap (λ (k : ℕ). get_or (sf ++ sg) (k + n) (pos 0)) (sym long) ∙ get_or-append-add sf sg n (pos 0)

    dimension-at : (n : ℕ) → n < f.results → get_or vs n (pos 0) ≡ value_at f ds sf n
    dimension-at n h = listed_at (value_at f ds sf) f.results n (pos 0) h

    first-value : (i : ℕ) → i < f.results + f.constraints → eval (point_of ds (sf ++ sg)) (expr_at f i) ≡ value_at f ds sf i
    unfolding point_of
    first-value i h =
        eval-same f.dims f.ranges (point_of ds (sf ++ sg)) (point_of ds sf) (λ n l. refl) (λ n l. first-at n l) (expr_at f i) (expr-encodable f before i (omega (arith, runs-all f before)))
        ∙ sym (value_of f before ds sf i h)

    then-value : (i : ℕ) → i < g.results + g.constraints → eval (point_of ds (sf ++ sg)) (put_into f (expr_at g i)) ≡ value_at g vs sg i
    unfolding point_of
    then-value i h =
        eval-substitute (expr_at f) f.ranges g.dims g.ranges (point_of ds (sf ++ sg)) (point_of vs sg)
        (λ n l. let e = w.maps.fits in let k : n < f.results = omega arith in first-value n (omega arith) ∙ sym (dimension-at n k))
        (λ n l. then_at n) (expr_at g i) (expr-encodable g after i (omega (arith, runs-all g after)))
        ∙ sym (value_of g after vs sg i h)

    -- the values are those of g at the values of f
    pub value-composed : (i : ℕ) → i < g.results → value_at whole ds (sf ++ sg) i ≡ value_at g vs sg i
    value-composed i h =
        let k : i < whole.results + whole.constraints = omega (arith, results-are) in
        value_of whole (made f g w) ds (sf ++ sg) i k
        ∙ ap (eval (point_of ds (sf ++ sg))) (expr-result i h)
        ∙ then-value i (omega arith)

    pub all-values : values_at whole ds (sf ++ sg) ≡ values_at g vs sg
    all-values =
        listed_same (value_at whole ds (sf ++ sg)) (value_at g vs sg) whole.results (λ i h. value-composed i (omega (arith, results-are)))
        ∙ ap (listed (value_at g vs sg)) results-are

    -- ---- the constraints

    abbrev InInterval : Constraint → Type 0
    InInterval c = In (eval (point_of ds (sf ++ sg)) c.expr) c.interval

    value-at : (k : ℕ) → k < whole.constraints → value_at whole ds (sf ++ sg) (whole.results + k) ≡ eval (point_of ds (sf ++ sg)) (constraint_at whole k).expr
    value-at k h = value_of whole (made f g w) ds (sf ++ sg) (whole.results + k) (omega arith)

    holds_of : Domain whole ds (sf ++ sg) → (k : ℕ) → k < constraint_count f g → InInterval (constraint_of f g k)
    holds_of h k l =
        let n : k < whole.constraints = omega (arith, constraints-are) in
        subst InInterval (constraint-is k l) (subst (λ (z : ℤ). In z (constraint_at whole k).interval) (value-at k n) (h.holds k n))

    of-holds : ((k : ℕ) → k < constraint_count f g → InInterval (constraint_of f g k))
        → (k : ℕ) → k < whole.constraints → In (value_at whole ds (sf ++ sg) (whole.results + k)) (constraint_at whole k).interval
    of-holds h k n =
        let l : k < constraint_count f g = omega (arith, constraints-are) in
        subst (λ (z : ℤ). In z (constraint_at whole k).interval) (sym (value-at k n)) (subst InInterval (sym (constraint-is k l)) (h k l))

    first_holds : (k : ℕ) → k < f.constraints → InInterval (constraint_of f g k) → In (value_at f ds sf (f.results + k)) (constraint_at f k).interval
    first_holds k l h =
        subst (λ (z : ℤ). In z (constraint_at f k).interval) (first-value (f.results + k) (omega arith)) (subst InInterval (constraint-first f g k l) h)

    holds-first : (k : ℕ) → k < f.constraints → In (value_at f ds sf (f.results + k)) (constraint_at f k).interval → InInterval (constraint_of f g k)
    holds-first k l h =
        subst InInterval (sym (constraint-first f g k l)) (subst (λ (z : ℤ). In z (constraint_at f k).interval) (sym (first-value (f.results + k) (omega arith))) h)

    inside-value : (i : ℕ) → i < f.results → eval (point_of ds (sf ++ sg)) (expr_at f i) ≡ get_or vs i (pos 0)
    inside-value i l = first-value i (omega arith) ∙ sym (dimension-at i l)

    inside-holds : (i : ℕ) → i < f.results → InInterval (constraint_of f g (f.constraints + i)) → In (get_or vs i (pos 0)) (inside_at f g i).interval
    inside-holds i l h =
        let e : f.constraints + i - f.constraints ≡ i = omega arith in
        let c = constraint-inside f g (f.constraints + i) (omega arith) (omega arith) ∙ ap (inside_at f g) e in
        subst (λ (z : ℤ). In z (inside_at f g i).interval) (inside-value i l) (subst InInterval c h)

    holds-inside : (k : ℕ) → f.constraints ≤ k → k - f.constraints < f.results → In (get_or vs (k - f.constraints) (pos 0)) (inside_at f g (k - f.constraints)).interval
        → InInterval (constraint_of f g k)
    holds-inside k a b h =
        let i = k - f.constraints in
        subst InInterval (sym (constraint-inside f g k a b)) (subst (λ (z : ℤ). In z (inside_at f g i).interval) (sym (inside-value i b)) h)

    then-holds : (k : ℕ) → k < g.constraints → InInterval (constraint_of f g (f.constraints + (f.results + k))) → In (value_at g vs sg (g.results + k)) (constraint_at g k).interval
    then-holds k l h =
        let n = f.constraints + (f.results + k) in
        let e : n - f.constraints - f.results ≡ k = omega arith in
        let c = constraint-other f g n (omega arith) (omega arith) ∙ ap (λ (i : ℕ). substituted f (constraint_at g i)) e in
        subst (λ (z : ℤ). In z (constraint_at g k).interval) (then-value (g.results + k) (omega arith)) (subst InInterval c h)

    holds_then : (k : ℕ) → k < constraint_count f g → f.constraints ≤ k → f.results ≤ k - f.constraints
        → In (value_at g vs sg (g.results + (k - f.constraints - f.results))) (constraint_at g (k - f.constraints - f.results)).interval
        → InInterval (constraint_of f g k)
    holds_then k l a b h =
        let j = k - f.constraints - f.results in
        subst InInterval (sym (constraint-other f g k a b))
        (subst (λ (z : ℤ). In z (constraint_at g j).interval) (sym (then-value (g.results + j) (omega arith))) h)

    -- ---- the domain

    values-long : length vs ≡ g.dims
    values-long = listed-length (value_at f ds sf) f.results ∙ w.maps.fits

    to-first : Domain whole ds (sf ++ sg) → Domain f ds sf
    to-first h =
        record {
          long-dims = h.long-dims ∙ dims-are;
          long-ranges = long;
          dims = λ n l. let k : n < whole.dims = omega (arith, dims-are) in rw ((dimension-is n l).0, (dimension-is n l).1) at (h.dims n k);
          ranges = λ n l.
              let k : n < whole.ranges = omega (arith, ranges-are) in
              rw ((first-range-is n l).0, (first-range-is n l).1, first-at n l) at (h.ranges n k);
          holds = λ k l. first_holds k l (holds_of h k (omega arith));
        }

    to-then : Domain whole ds (sf ++ sg) → Domain g vs sg
    to-then h =
        record {
          long-dims = values-long;
          long-ranges = omega (arith, h.long-ranges, length-append sf sg, long, ranges-are);
          dims = λ n l. let e = w.maps.fits in inside-holds n (omega arith) (holds_of h (f.constraints + n) (omega arith));
          ranges = λ n l.
              let k : f.ranges + n < whole.ranges = omega (arith, ranges-are) in
              rw ((then-range-is n l).0, (then-range-is n l).1, then_at n) at (h.ranges (f.ranges + n) k);
          holds = λ k l. then-holds k l (holds_of h (f.constraints + (f.results + k)) (omega arith));
        }

    from-both : Domain f ds sf → Domain g vs sg → Domain whole ds (sf ++ sg)
    from-both a b =
        record {
          long-dims = a.long-dims ∙ sym dims-are;
          long-ranges = omega (arith, b.long-ranges, length-append sf sg, long, ranges-are);
          dims = λ n l. let k : n < f.dims = omega (arith, dims-are) in rw ((dimension-is n k).0, (dimension-is n k).1) (a.dims n k);
          ranges = λ n l. let k : n < f.ranges + g.ranges = omega (arith, ranges-are) in range n k (dec_lt n f.ranges);
          holds = of-holds each;
        }
      where
        range : (n : ℕ) → n < f.ranges + g.ranges → Dec (n < f.ranges)
            → In (get_or (sf ++ sg) n (pos 0)) (span (get_or whole.lower (max_variables + n) (pos 0)) (get_or whole.upper (max_variables + n) (pos 0)))
        range n k (yes l) = rw ((first-range-is n l).0, (first-range-is n l).1, first-at n l) (a.ranges n l)
        range n k (no l) =
            let i = n - f.ranges in
            let q : f.ranges + i ≡ n = omega arith in
            let m : i < g.ranges = omega arith in
            subst (λ (n : ℕ). In (get_or (sf ++ sg) n (pos 0)) (span (get_or whole.lower (max_variables + n) (pos 0)) (get_or whole.upper (max_variables + n) (pos 0)))) q
            (rw ((then-range-is i m).0, (then-range-is i m).1, then_at i) (b.ranges i m))

        by : (k : ℕ) → k < constraint_count f g → Dec (k < f.constraints) → Dec (k - f.constraints < f.results) → InInterval (constraint_of f g k)
        by k l (yes x) y = holds-first k x (a.holds k x)
        by k l (no x) (yes y) = let e = w.maps.fits in holds-inside k (omega arith) y (b.dims (k - f.constraints) (omega arith))
        by k l (no x) (no y) = holds_then k l (omega arith) (omega arith) (b.holds (k - f.constraints - f.results) (omega arith))

        each : (k : ℕ) → k < constraint_count f g → InInterval (constraint_of f g k)
        each k l = by k l (dec_lt k f.constraints) (dec_lt (k - f.constraints) f.results)

    pub domain-both : Domain whole ds (sf ++ sg) ↔ (Domain f ds sf × Domain g vs sg)
    domain-both = (λ h. (to-first h, to-then h), λ h. from-both h.0 h.1)

    pub domain-test : in_domain whole ds (sf ++ sg) ≡ (in_domain f ds sf && in_domain g vs sg)
    domain-test =
        same_test (in_domain whole ds (sf ++ sg)) (in_domain f ds sf && in_domain g vs sg)
        (λ e.
        let h = (domain-is whole ds (sf ++ sg)).0 e in
        and-true ((domain-is f ds sf).1 (to-first h)) ((domain-is g vs sg).1 (to-then h)))
        (λ e.
        (domain-is whole ds (sf ++ sg)).1
        (from-both ((domain-is f ds sf).0 (and_left (in_domain f ds sf) _ e)) ((domain-is g vs sg).0 (and_right (in_domain f ds sf) _ e))))

    -- ---- the answer of evaluating

    abbrev values : IndexingMap → List ℤ → List ℤ → List ℤ
    values m xs ss = pos m.results ∷ values_of m xs ss m.results

    values-composed : values whole ds (sf ++ sg) ≡ values g vs sg
    values-composed =
        ap (λ (n : ℕ). pos n ∷ values_of whole ds (sf ++ sg) n) results-are
        ∙ ap (λ (l : List ℤ). pos g.results ∷ l) (front_same (value_at whole ds (sf ++ sg)) (value_at g vs sg) g.results max_results value-composed)

    -- the two lengths are right for the whole where the last one is right for g
    lengths-composed : length ds ≡ f.dims
        → right_length whole ds (sf ++ sg) ≡ right_length g vs sg
    lengths-composed e =
        same_test _ _
        (λ h.
        let b = eqb-true (length (sf ++ sg)) whole.ranges (and_right (eqb (length ds) whole.dims) _ h) in
        and-true (eq-eqb (length vs) g.dims values-long)
        (eq-eqb (length sg) g.ranges (omega (arith, b, length-append sf sg, long, ranges-are))))
        (λ h.
        let b = eqb-true (length sg) g.ranges (and_right (eqb (length vs) g.dims) _ h) in
        and-true (eq-eqb (length ds) whole.dims (e ∙ sym dims-are))
        (eq-eqb (length (sf ++ sg)) whole.ranges (omega (arith, b, length-append sf sg, long, ranges-are))))

    pub answer-composed : Domain f ds sf → result_values whole ds (sf ++ sg) ≡ result_values g vs sg
    unfolding result_values
    answer-composed h =
        let i = (domain-is f ds sf).1 h in
        let e = h.long-dims in
        ap₂ (λ (v : Verdict) (l : List ℤ). answered (replicate (1 + max_results) (pos 0)) v l)
        (point-judged whole (composed-accepted f g w) ds (sf ++ sg)
        ∙ ap₂ point_verdict (lengths-composed e) (domain-test ∙ ap (λ (b : Bool). b && in_domain g vs sg) i)
        ∙ sym (point-judged g (record { formed = after; ranges = w.then-ranges }) vs sg))
        values-composed
