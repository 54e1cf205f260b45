-- Maps whose composition is accepted: the trees of the composed map fit a record, which is accepted. Assumes nothing.
use Rattle.std.specs.Prelude.{Ok}
use mathlib.Core.Path.{◌≡◌, refl, sym, ap, ap₂, ◌∙◌, subst}
use mathlib.Core.Bool.{Bool, true}
use mathlib.Core.List.{List, [], ◌∷◌, ◌++◌, map}
use Prim.Native.Nat.{ℕ, zero, suc, ◌+◌, ◌-◌, ◌<◌, ◌≤◌, min}
use native.Mathlib.Nat.{zero-add}
use native.Mathlib.Omega.{arith}
use native.Mathlib.Decide.{dec_lt}
use borrow.Author.Tests.{leb-true, le-leb}
use lib.Dec.{T, leb, eqb, eqb→eq}
use lib.IntN.{ℤ, pos, nat_abs}
use lib.ListN.{length, get_or, length-map}
use lib.Signed.{le_z}
use Rattle.integer.specs.Exact.{limit}
use Rattle.radix.proofs.Tests.{and-true, and_left, and_right, every-at, every-all}
use Rattle.refusal.specs.Judge.{judge}
use Rattle.refusal.specs.declared.Refusal.TheVariants.{Attribute, WrongLength, CountLimit, WorkingLimit}
use Rattle.refusal.proofs.Judged.{kept, rest}
use Rattle.expression.specs.Expression.{Expr}
use Rattle.expression.specs.Node.{max_variables, max_places, max_nodes}
use Rattle.indexing.specs.Map.{max_constraints, max_bound, good_interval, good_ends_at, good_intervals, good_bounds, good_ends, good_parts, good_counts, good_ranges, SameAt}
use Rattle.indexing.specs.Ready.{Formed, Accepted}
use Rattle.indexing.specs.declared.IndexingMap.{IndexingMap}
use Rattle.indexing.proofs.Formed.{counts, bounds-good, ends-good}
use Rattle.folding.specs.Map.{Constraint, constraint_trees}
use Rattle.encoding.specs.Postfix.{Encodable}
use Rattle.encoding.specs.Encode.{nodes_of, AllEncodable, Fitting, all_of, intervals_good}
use Rattle.encoding.proofs.Encoded.{encoded-parts, encoded-counts, encoded-ranges}
use Rattle.encoding.proofs.Lists.{map-append}
use Rattle.encoding.proofs.Listed.{listed-length, listed-map}
use Rattle.encoding.proofs.Trees.{runs-all}
use Rattle.encoding.specs.Trees.{listed, expr_at, constraint_at, result_trees, map_constraints}
use Rattle.compose.specs.ComposeMap.{put_into, composed_results, inside_at, substituted, composed_constraints, composed_trees, composed_lower, composed_upper, composed_map, few_composed, small_composed, compose_rules}
use Rattle.compose.specs.Ready.{Composable, Joinable, constraint_count}
use Rattle.compose.proofs.Substituted.{encodable-more, encodable-substitute}
use Rattle.compose.proofs.Splicing.{expr-encodable}
use Rattle.compose.proofs.Joined.{joined-first, joined-other, constraints-long}

-- no rule of composing is broken
pub record Composes (f g : IndexingMap) : Type 0 where
  pub maps : Composable f g
  pub few : few_composed f g ≡ true
  pub first-ranges : good_ranges f ≡ true
  pub then-ranges : good_ranges g ≡ true
  pub small : small_composed f g ≡ true

pub eqb-true : (a b : ℕ) → eqb a b ≡ true → a ≡ b
eqb-true a b e = eqb→eq a b (subst T (sym e) tt)

pub composes-of : (f g : IndexingMap) → judge (compose_rules f g) ≡ Ok tt → Composes f g
composes-of f g e =
    let e1 = rest (good_parts f) Attribute _ e in
    let e2 = rest (good_parts g) Attribute _ e1 in
    let e3 = rest (eqb f.results g.dims) WrongLength _ e2 in
    let e4 = rest (good_counts f) CountLimit _ e3 in
    let e5 = rest (good_counts g) CountLimit _ e4 in
    let e6 = rest (few_composed f g) CountLimit _ e5 in
    let e7 = rest (good_ranges f) WorkingLimit _ e6 in
    let e8 = rest (good_ranges g) WorkingLimit _ e7 in
    record {
      maps =
          record {
            before = record { parts = kept (good_parts f) Attribute _ e; counts = kept (good_counts f) CountLimit _ e3 };
            after = record { parts = kept (good_parts g) Attribute _ e1; counts = kept (good_counts g) CountLimit _ e4 };
            fits = eqb-true f.results g.dims (kept (eqb f.results g.dims) WrongLength _ e2);
          };
      few = kept (few_composed f g) CountLimit _ e5;
      first-ranges = kept (good_ranges f) WorkingLimit _ e6;
      then-ranges = kept (good_ranges g) WorkingLimit _ e7;
      small = kept (small_composed f g) WorkingLimit _ e8;
    }

-- ---- lists

all_append : (dims ranges : ℕ) (xs ys : List Expr) → AllEncodable dims ranges xs → AllEncodable dims ranges ys → AllEncodable dims ranges (xs ++ ys)
all_append dims ranges [] ys h k = k
all_append dims ranges (x ∷ xs) ys h k = (h.0, all_append dims ranges xs ys h.1 k)

all_listed : (dims ranges : ℕ) (f : ℕ → Expr) (n : ℕ) → ((k : ℕ) → k < n → Encodable dims ranges (f k)) → AllEncodable dims ranges (listed f n)
unfolding listed
all_listed dims ranges f zero h = tt
all_listed dims ranges f (suc n) h = all_append dims ranges (listed f n) (f n ∷ []) (all_listed dims ranges f n (λ k l. h k (omega arith))) (h n (omega arith), tt)

test-append : {A : Type 0} (p : A → Bool) (xs ys : List A) → all_of p xs ≡ true → all_of p ys ≡ true → all_of p (xs ++ ys) ≡ true
test-append p [] ys h k = k
test-append p (x ∷ xs) ys h k = and-true (and_left (p x) (all_of p xs) h) (test-append p xs ys (and_right (p x) (all_of p xs) h) k)

test-listed : {A : Type 0} (p : A → Bool) (f : ℕ → A) (n : ℕ) → ((k : ℕ) → k < n → p (f k) ≡ true) → all_of p (listed f n) ≡ true
unfolding listed
test-listed p f zero h = refl
test-listed p f (suc n) h = test-append p (listed f n) (f n ∷ []) (test-listed p f n (λ k l. h k (omega arith))) (and-true (h n (omega arith)) refl)

test-map : {A : Type 0} (p : A → Bool) (f : A → A) → ((x : A) → p (f x) ≡ p x) → (xs : List A) → all_of p xs ≡ true → all_of p (map f xs) ≡ true
test-map p f e [] h = refl
test-map p f e (x ∷ xs) h = and-true (e x ∙ and_left (p x) (all_of p xs) h) (test-map p f e xs (and_right (p x) (all_of p xs) h))

-- ---- a limit below another

interval-wider : (a b : ℤ) → good_interval max_bound a b ≡ true → good_interval limit a b ≡ true
interval-wider a b h =
    let t = and_right (le_z a b) _ h in
    let x = leb-true (nat_abs a) max_bound (and_left _ _ t) in
    let y = leb-true (nat_abs b) max_bound (and_right (leb (nat_abs a) max_bound) _ t) in
    and-true (and_left (le_z a b) _ h) (and-true (le-leb (nat_abs a) limit (omega arith)) (le-leb (nat_abs b) limit (omega arith)))

-- ---- maps to which 2, 6 and 7 do not apply, and whose range variables are not too many

module _ (f g : IndexingMap) (w : Joinable f g) where
  first-encodable : (i : ℕ) → i < f.results + f.constraints → Encodable f.dims (f.ranges + g.ranges) (expr_at f i)
  first-encodable i h =
      encodable-more f.dims f.ranges g.ranges (expr_at f i)
      (expr-encodable f w.both.before i (omega (arith, runs-all f w.both.before)))

  put-encodable : (i : ℕ) → i < g.results + g.constraints → Encodable f.dims (f.ranges + g.ranges) (put_into f (expr_at g i))
  put-encodable i h =
      encodable-substitute (expr_at f) f.dims f.ranges g.dims g.ranges
      (λ n l. let e = w.both.fits in first-encodable n (omega arith))
      (expr_at g i) (expr-encodable g w.both.after i (omega (arith, runs-all g w.both.after)))

  -- the trees, one by one
  pub results-listed : listed (λ (i : ℕ). put_into f (expr_at g i)) g.results ≡ composed_results f g
  results-listed = sym (listed-map (λ (e : Expr). put_into f e) (expr_at g) g.results)

  trees-first : constraint_trees (map_constraints f) ≡ listed (λ (k : ℕ). expr_at f (f.results + k)) f.constraints
  trees-first = listed-map (λ (c : Constraint). c.expr) (constraint_at f) f.constraints

  trees-inside : constraint_trees (listed (inside_at f g) f.results) ≡ listed (expr_at f) f.results
  trees-inside = listed-map (λ (c : Constraint). c.expr) (inside_at f g) f.results

  trees-other : constraint_trees (map (λ (c : Constraint). substituted f c) (map_constraints g)) ≡ listed (λ (k : ℕ). put_into f (expr_at g (g.results + k))) g.constraints
  trees-other =
      ap constraint_trees (listed-map (λ (c : Constraint). substituted f c) (constraint_at g) g.constraints)
      ∙ listed-map (λ (c : Constraint). c.expr) (λ (k : ℕ). substituted f (constraint_at g k)) g.constraints

  pub trees-encodable : AllEncodable f.dims (f.ranges + g.ranges) (composed_trees f g)
  trees-encodable =
      all_append dims ranges (composed_results f g) (constraint_trees (composed_constraints f g))
      (subst (AllEncodable dims ranges) results-listed (all_listed dims ranges (λ (i : ℕ). put_into f (expr_at g i)) g.results (λ k l. put-encodable k (omega arith))))
      (rw
      (map-append (λ (c : Constraint). c.expr) (map_constraints f) (inside ++ others), map-append (λ (c : Constraint). c.expr) inside others, trees-first, trees-inside, trees-other)
      (all_append dims ranges (listed (λ (k : ℕ). expr_at f (f.results + k)) f.constraints) _
      (all_listed dims ranges (λ (k : ℕ). expr_at f (f.results + k)) f.constraints (λ k l. first-encodable (f.results + k) (omega arith)))
      (all_append dims ranges (listed (expr_at f) f.results) _
      (all_listed dims ranges (expr_at f) f.results (λ k l. first-encodable k (omega arith)))
      (all_listed dims ranges (λ (k : ℕ). put_into f (expr_at g (g.results + k))) g.constraints (λ k l. put-encodable (g.results + k) (omega arith))))))
    where
      dims : ℕ
      dims = f.dims

      ranges : ℕ
      ranges = f.ranges + g.ranges

      inside : List Constraint
      inside = listed (inside_at f g) f.results

      others : List Constraint
      others = map (λ (c : Constraint). substituted f c) (map_constraints g)

  pub result_count : length (composed_results f g) ≡ g.results
  result_count = length-map (result_trees g) (λ (e : Expr). put_into f e) ∙ listed-length (expr_at g) g.results

  -- where 7 does not apply to the result
  module _ (few : constraint_count f g ≤ max_constraints) (nodes : length (nodes_of (composed_trees f g)) ≤ max_nodes) where
    pub fitting : Fitting f.dims (f.ranges + g.ranges) (composed_results f g) (composed_constraints f g)
    fitting =
        let c = counts f w.both.before in
        let e = counts g w.both.after in
        record {
          few-dims = c.dims;
          few-ranges = w.few;
          few-results = omega (arith, result_count, e.results);
          few-constraints = omega (arith, constraints-long f g);
          few-nodes = nodes;
          encodable = trees-encodable;
        }

    -- ---- the bounds and the intervals keep their rules

    bounds_of : (m : IndexingMap) → Formed m
        → (good_intervals max_bound m.lower m.upper 0 m.dims ≡ true) × (good_intervals max_bound m.lower m.upper max_variables m.ranges ≡ true)
    unfolding good_bounds
    bounds_of m x =
        let c = counts m x in
        let a : min m.dims max_variables ≡ m.dims = omega (arith, c.dims) in
        let b : min m.ranges max_variables ≡ m.ranges = omega (arith, c.ranges) in
        let h = bounds-good m x.parts in (
          subst (λ (n : ℕ). good_intervals max_bound m.lower m.upper 0 n ≡ true) a (and_left _ _ h),
          subst (λ (n : ℕ). good_intervals max_bound m.lower m.upper max_variables n ≡ true) b (and_right (good_intervals max_bound m.lower m.upper 0 (min m.dims max_variables)) _ h),
        )

    bound_at : (m : IndexingMap) → Formed m → ((k : ℕ) → k < m.dims → good_ends_at max_bound m.lower m.upper k ≡ true)
        × ((k : ℕ) → k < m.ranges → good_ends_at max_bound m.lower m.upper (max_variables + k) ≡ true)
    unfolding good_intervals
    bound_at m x =
        let h = bounds_of m x in (
          λ k l. subst (λ (n : ℕ). good_ends_at max_bound m.lower m.upper n ≡ true) (zero-add k) (every-at (λ (k : ℕ). good_ends_at max_bound m.lower m.upper (0 + k)) m.dims h.0 k l),
          λ k l. every-at (λ (k : ℕ). good_ends_at max_bound m.lower m.upper (max_variables + k)) m.ranges h.1 k l,
        )

    interval-at : (m : IndexingMap) → Formed m → (k : ℕ) → k < m.constraints → good_ends_at limit m.constraint_lower m.constraint_upper k ≡ true
    unfolding good_ends good_intervals
    interval-at m x k l =
        let c = counts m x in
        let v : k < min m.constraints max_constraints = omega (arith, c.constraints) in
        rw (zero-add k) at (every-at (λ (k : ℕ). good_ends_at limit m.constraint_lower m.constraint_upper (0 + k)) _ (ends-good m x.parts) k v)

    -- the ends at a variable's place of the composed map
    pub place-first : (p : ℕ) → p < max_places → p < max_variables + f.ranges → SameAt (composed_lower f g) (composed_upper f g) f.lower f.upper p
    place-first p h k = (joined-first f.ranges f.lower g.lower p h k, joined-first f.ranges f.upper g.upper p h k)

    pub place_other : (p : ℕ) → p < max_places → max_variables + f.ranges ≤ p → (get_or (composed_lower f g) p (pos 0) ≡ get_or g.lower (p - f.ranges) (pos 0)) × (get_or (composed_upper f g) p (pos 0) ≡ get_or g.upper (p - f.ranges) (pos 0))
    place_other p h k = (joined-other f.ranges f.lower g.lower p h k, joined-other f.ranges f.upper g.upper p h k)

    good-dims : good_intervals max_bound (composed_lower f g) (composed_upper f g) 0 f.dims ≡ true
    unfolding good_intervals
    good-dims =
        every-all (λ (k : ℕ). good_ends_at max_bound (composed_lower f g) (composed_upper f g) (0 + k)) f.dims (λ k l.
        let c = counts f w.both.before in
        let e = place-first k (omega (arith, c.dims)) (omega (arith, c.dims)) in
        subst (λ (n : ℕ). good_ends_at max_bound (composed_lower f g) (composed_upper f g) n ≡ true) (sym (zero-add k))
        (ap₂ (good_interval max_bound) e.0 e.1 ∙ (bound_at f w.both.before).0 k l))

    good-range : (k : ℕ) → k < f.ranges + g.ranges → Dec (k < f.ranges) → good_ends_at max_bound (composed_lower f g) (composed_upper f g) (max_variables + k) ≡ true
    good-range k l (yes h) =
        let n = w.few in
        let e = place-first (max_variables + k) (omega arith) (omega arith) in
        ap₂ (good_interval max_bound) e.0 e.1 ∙ (bound_at f w.both.before).1 k h
    good-range k l (no h) =
        let n = w.few in
        let e = place_other (max_variables + k) (omega arith) (omega arith) in
        let p : max_variables + k - f.ranges ≡ max_variables + (k - f.ranges) = omega arith in
        ap₂ (good_interval max_bound) e.0 e.1
        ∙ subst (λ (i : ℕ). good_ends_at max_bound g.lower g.upper i ≡ true) (sym p) ((bound_at g w.both.after).1 (k - f.ranges) (omega arith))

    good-ranges : good_intervals max_bound (composed_lower f g) (composed_upper f g) max_variables (f.ranges + g.ranges) ≡ true
    unfolding good_intervals
    good-ranges =
        every-all (λ (k : ℕ). good_ends_at max_bound (composed_lower f g) (composed_upper f g) (max_variables + k)) (f.ranges + g.ranges) (λ k l. good-range k l (dec_lt k f.ranges))

    good-intervals : intervals_good (composed_constraints f g) ≡ true
    good-intervals =
        test-append test (map_constraints f) (listed (inside_at f g) f.results ++ map (λ (c : Constraint). substituted f c) (map_constraints g))
        (test-listed test (constraint_at f) f.constraints (λ k l. interval-at f w.both.before k l))
        (test-append test (listed (inside_at f g) f.results) (map (λ (c : Constraint). substituted f c) (map_constraints g))
        (test-listed test (inside_at f g) f.results (λ k l.
        let e = w.both.fits in
        interval-wider (get_or g.lower k (pos 0)) (get_or g.upper k (pos 0)) ((bound_at g w.both.after).0 k (omega arith))))
        (test-map test (λ (c : Constraint). substituted f c) (λ c. refl) (map_constraints g)
        (test-listed test (constraint_at g) g.constraints (λ k l. interval-at g w.both.after k l))))
      where
        test : Constraint → Bool
        test c = good_interval limit c.interval.lo c.interval.hi

    -- the record is one to which 2 and 7 do not apply
    pub composed-formed : Formed (composed_map f g)
    unfolding composed_map
    composed-formed =
        record {
          parts =
              encoded-parts f.dims (f.ranges + g.ranges) (composed_lower f g) (composed_upper f g) (composed_results f g) (composed_constraints f g) fitting
              ∙ and-true (and-true good-dims good-ranges) good-intervals;
          counts = encoded-counts f.dims (f.ranges + g.ranges) (composed_lower f g) (composed_upper f g) (composed_results f g) (composed_constraints f g) fitting;
        }

    -- and 8 applies to it exactly where it does to the trees
    pub composed-ranges : good_ranges (composed_map f g) ≡ small_composed f g
    unfolding composed_map small_composed
    composed-ranges = encoded-ranges f.dims (f.ranges + g.ranges) (composed_lower f g) (composed_upper f g) (composed_results f g) (composed_constraints f g) fitting

-- ---- what number 7 of the result says
module _ (f g : IndexingMap) (h : few_composed f g ≡ true) where
  pub few-ranges : f.ranges + g.ranges ≤ max_variables
  unfolding few_composed
  few-ranges = leb-true (f.ranges + g.ranges) max_variables (and_left _ _ h)

  pub few-constraints : constraint_count f g ≤ max_constraints
  unfolding few_composed
  few-constraints =
      let e = and_right (leb (f.ranges + g.ranges) max_variables) _ h in
      let k = leb-true (length (composed_constraints f g)) max_constraints (and_left _ _ e) in
      omega (arith, constraints-long f g)

  pub few-nodes : length (nodes_of (composed_trees f g)) ≤ max_nodes
  unfolding few_composed
  few-nodes =
      let e = and_right (leb (f.ranges + g.ranges) max_variables) _ h in
      leb-true (length (nodes_of (composed_trees f g))) max_nodes (and_right (leb (length (composed_constraints f g)) max_constraints) _ e)

module _ (f g : IndexingMap) (w : Composes f g) where
  pub joinable : Joinable f g
  joinable = record { both = w.maps; few = few-ranges f g w.few }

  pub fits : Fitting f.dims (f.ranges + g.ranges) (composed_results f g) (composed_constraints f g)
  fits = fitting f g joinable (few-constraints f g w.few) (few-nodes f g w.few)

  pub made : Formed (composed_map f g)
  made = composed-formed f g joinable (few-constraints f g w.few) (few-nodes f g w.few)

  pub composed-accepted : Accepted (composed_map f g)
  composed-accepted =
      record {
        formed = made;
        ranges = composed-ranges f g joinable (few-constraints f g w.few) (few-nodes f g w.few) ∙ w.small;
      }
