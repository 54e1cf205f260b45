-- What a map has to which numbers 2, 7 and 8 do not apply: its counts, its runs as trees, its bounds within the limit. Assumes nothing.
use Rattle.std.specs.Prelude.{Option, Some, None, Ok}
use mathlib.Core.Path.{◌≡◌, refl, ap, ◌∙◌}
use mathlib.Core.Bool.{Bool, true, false, cond}
use mathlib.Core.List.{List, [], ◌∷◌}
use Prim.Native.Nat.{ℕ, suc, ◌+◌, ◌<◌, ◌≤◌, min}
use native.Mathlib.Omega.{arith}
use borrow.Author.Tests.{leb-true, le-leb}
use lib.Dec.{leb}
use Rattle.std.proofs.lemmas.Option.{some_pair_parts}
use lib.IntN.{ℤ, pos, nat_abs}
use lib.ListN.{length, get_or}
use lib.Seq.{get_or-drop}
use lib.Signed.{le_z}
use Rattle.radix.proofs.Tests.{and_left, and_right, every-at}
use Rattle.expression.specs.Expression.{Expr, span, small_ranges}
use Rattle.expression.specs.Node.{max_variables, max_nodes, nodes_at}
use Rattle.expression.specs.Machine.{stack, walk}
use Rattle.expression.specs.Decode.{Tree, none, tree, decode, is_tree}
use Rattle.expression.specs.Value.{point_of, bounds, tree_value, value_alg}
use Rattle.expression.specs.Ready.{RunIn, SmallTo}
use Rattle.expression.proofs.Within.{LeIn, Inside, accepted}
use Rattle.indexing.specs.Map.{max_results, max_constraints, max_bound, good_ends_at, good_intervals, start_of, runs, count_of, tree_at, is_held, good_tree, good_trees, good_bounds, good_ends, good_parts, good_counts, kept_at, good_ranges, value_at, in_at, are_in, in_bounds}
use Rattle.indexing.specs.Ready.{run_of, Formed, Accepted, Bounded}
use Rattle.indexing.specs.declared.IndexingMap.{IndexingMap}
use Rattle.refusal.specs.Judge.{judge}
use Rattle.refusal.specs.declared.Refusal.TheVariants.{Attribute, CountLimit, WorkingLimit}
use Rattle.refusal.proofs.Judged.{kept, rest}
use Rattle.indexing.specs.Answers.{map_rules}
use Rattle.indexing.proofs.Comparisons.{le-fact}
use Rattle.indexing.proofs.Starts.{start-suc, start-le}

-- ---- the counts
pub record Counts (m : IndexingMap) : Type 0 where
  pub dims : m.dims ≤ max_variables
  pub ranges : m.ranges ≤ max_variables
  pub results : m.results ≤ max_results
  pub constraints : m.constraints ≤ max_constraints
  pub nodes : start_of (count_of m) (runs m) ≤ max_nodes

pub counts-of : (m : IndexingMap) → good_counts m ≡ true → Counts m
unfolding good_counts
counts-of m e =
    let n = start_of (count_of m) (runs m) in
    let e1 = and_right (leb m.dims max_variables) _ e in
    let e2 = and_right (leb m.ranges max_variables) _ e1 in
    let e3 = and_right (leb m.results max_results) _ e2 in
    record {
      dims = leb-true m.dims max_variables (and_left _ _ e);
      ranges = leb-true m.ranges max_variables (and_left _ _ e1);
      results = leb-true m.results max_results (and_left _ _ e2);
      constraints = leb-true m.constraints max_constraints (and_left _ _ e3);
      nodes = leb-true n max_nodes (and_right (leb m.constraints max_constraints) _ e3);
    }

-- ---- the parts
module _ (m : IndexingMap) (e : good_parts m ≡ true) where
  pub bounds-good : good_bounds m ≡ true
  unfolding good_parts
  bounds-good = and_left (good_bounds m) _ e

  pub ends-good : good_ends m ≡ true
  unfolding good_parts
  ends-good = and_left (good_ends m) _ (and_right (good_bounds m) _ e)

  pub trees-good : good_trees m ≡ true
  unfolding good_parts
  trees-good = and_right (good_ends m) _ (and_right (good_bounds m) _ e)

-- an interval that passes its test
pub ends-small : (most : ℕ) (los his : List ℤ) (i n : ℕ) → good_intervals most los his i n ≡ true → (k : ℕ) → k < n
    → (nat_abs (get_or los (i + k) (pos 0)) ≤ most) × (nat_abs (get_or his (i + k) (pos 0)) ≤ most)
unfolding good_intervals
ends-small most los his i n e k h =
    let a = get_or los (i + k) (pos 0) in
    let b = get_or his (i + k) (pos 0) in
    let t = and_right (le_z a b) _ (every-at (λ (k : ℕ). good_ends_at most los his (i + k)) n e k h) in
    (leb-true (nat_abs a) most (and_left _ _ t), leb-true (nat_abs b) most (and_right (leb (nat_abs a) most) _ t))

-- ---- what is formed
module _ (m : IndexingMap) (f : Formed m) where
  pub counts : Counts m
  counts = counts-of m f.counts

  -- no run is cut off, and each is a tree
  pub held_at : (i : ℕ) → i < runs m → is_held m i ≡ true
  held_at i h =
      le-leb (start_of (count_of m) (suc i)) max_nodes
      (omega (arith, start-le (count_of m) (suc i) (runs m) (omega arith), counts.nodes))

  pub tree-at : (i : ℕ) → i < runs m → is_tree (tree_at m i) ≡ true
  unfolding good_trees
  tree-at i h = rw (held_at i h) at (every-at (good_tree m) (runs m) (trees-good m f.parts) i h)

  -- the bounds of the variables are within the limit
  small-ends : (SmallTo m.dims m.ranges m.lower) × (SmallTo m.dims m.ranges m.upper)
  unfolding good_bounds
  small-ends =
      let b = bounds-good m f.parts in
      let p = ends-small max_bound m.lower m.upper 0 (min m.dims max_variables) (and_left _ _ b) in
      let q = ends-small max_bound m.lower m.upper max_variables (min m.ranges max_variables) (and_right (good_intervals max_bound m.lower m.upper 0 (min m.dims max_variables)) _ b) in
      let c = counts in (
        record {
          dimension = λ k h. let z : 0 + k ≡ k = omega arith in let r = rw z at (p k (omega arith)) in omega (arith, r.0);
          range = λ k h. omega (arith, ap nat_abs (get_or-drop max_variables m.lower k (pos 0)), (q k (omega arith)).0);
        },
        record {
          dimension = λ k h. let z : 0 + k ≡ k = omega arith in let r = rw z at (p k (omega arith)) in omega (arith, r.1);
          range = λ k h. omega (arith, ap nat_abs (get_or-drop max_variables m.upper k (pos 0)), (q k (omega arith)).1);
        },
      )

  pub small-lower : SmallTo m.dims m.ranges m.lower
  small-lower = small-ends.0

  pub small-upper : SmallTo m.dims m.ranges m.upper
  small-upper = small-ends.1

-- a run that is held lies inside the nodes
pub run_in : (m : IndexingMap) (i : ℕ) → length m.kinds ≡ max_nodes → length m.values ≡ max_nodes → is_held m i ≡ true
    → RunIn m.kinds m.values (start_of (count_of m) i) (count_of m i)
run_in m i k v e =
    let h = leb-true (start_of (count_of m) (suc i)) max_nodes e in
    let n = start-suc (count_of m) i in
    record { in-kinds = omega arith; in-values = omega arith; few = omega arith }

-- ---- where a run stands, by what the code answers

-- at a, with b nodes
abbrev pub stands : ℕ → ℕ → Option (ℕ × ℕ)
stands a b = Some (a, b)

held_by : (h : Bool) (a b x y : ℕ) → stands a b ≡ cond h (stands x y) None → (h ≡ true) × ((a ≡ x) × (b ≡ y))
held_by true a b x y e = let p = some_pair_parts a x b y e in (refl, (p.0, p.1))
held_by false a b x y e = let z : ◌≡◌ {A = ℕ} 0 1 = cc in absurd (omega arith)

pub held-is : (m : IndexingMap) (i a b : ℕ) → stands a b ≡ run_of m i → (is_held m i ≡ true) × ((a ≡ start_of (count_of m) i) × (b ≡ count_of m i))
held-is m i a b e = held_by (is_held m i) a b (start_of (count_of m) i) (count_of m i) e

module _ (m : IndexingMap) (i a b : ℕ) (e : stands a b ≡ run_of m i) where
  pub held-here : is_held m i ≡ true
  held-here = (held-is m i a b e).0

  pub run-here : length m.kinds ≡ max_nodes → length m.values ≡ max_nodes → RunIn m.kinds m.values a b
  run-here k v = let h = held-is m i a b e in rw (h.1.0, h.1.1) (run_in m i k v held-here)

  pub nodes-here : (dims ranges : ℕ)
      → nodes_at dims ranges m.kinds m.values a b ≡ nodes_at dims ranges m.kinds m.values (start_of (count_of m) i) (count_of m i)
  nodes-here dims ranges = let h = held-is m i a b e in rw (h.1.0, h.1.1)

  pub tree-here : decode (nodes_at m.dims m.ranges m.kinds m.values a b) ≡ tree_at m i
  unfolding tree_at
  tree-here = ap decode (nodes-here m.dims m.ranges)

cut_by : (h : Bool) (x y : ℕ) → None ≡ cond h (stands x y) None → h ≡ false
cut_by true x y e = let z : ◌≡◌ {A = ℕ} 0 1 = cc in absurd (omega arith)
cut_by false x y e = refl

pub cut-is : (m : IndexingMap) (i : ℕ) → None ≡ run_of m i → is_held m i ≡ false
cut-is m i e = cut_by (is_held m i) (start_of (count_of m) i) (count_of m i) e

-- in a map that is formed none is cut off
pub never-cut : (m : IndexingMap) (i : ℕ) → Formed m → i < runs m → None ≡ run_of m i → ⊥
never-cut m i f h e =
    let p = cut-is m i e in
    let q = held_at m f i h in
    let z : ◌≡◌ {A = ℕ} 0 1 = cc in omega arith

-- ---- a point inside the bounds
pub in-interval : (zs los his : List ℤ) (i n : ℕ) → are_in zs los his i n ≡ true → (k : ℕ) → k < n
    → LeIn (get_or zs k (pos 0)) (span (get_or los (i + k) (pos 0)) (get_or his (i + k) (pos 0)))
unfolding are_in
in-interval zs los his i n e k h =
    let z = get_or zs k (pos 0) in
    let a = get_or los (i + k) (pos 0) in
    let t = every-at (in_at zs los his i) n e k h in
    record { low = le-fact a z (and_left _ _ t); high = le-fact z _ (and_right (le_z a z) _ t) }

-- every node of an accepted map's trees has its range within the limit
pub small_at : (m : IndexingMap) → Accepted m → (i : ℕ) → i < runs m → (e : Expr) → tree_at m i ≡ tree e → small_ranges (bounds m.lower m.upper) e ≡ true
unfolding good_ranges
small_at m w i h e t = go (small_ranges (bounds m.lower m.upper) e) refl
  where
    go : (b : Bool) → small_ranges (bounds m.lower m.upper) e ≡ b → b ≡ true
    go true q = refl
    go false q = rw (t, q) at (every-at (kept_at m) (runs m) w.ranges i h)

module _ (m : IndexingMap) (ds ss : List ℤ) (p : Bounded m ds ss) where
  pub inside : Inside (length ds) (length ss) (bounds m.lower m.upper) (point_of ds ss)
  unfolding in_bounds bounds point_of
  inside =
      let w = p.measured in
      let a = and_left (are_in ds m.lower m.upper 0 m.dims) _ p.inside in
      let b = and_right (are_in ds m.lower m.upper 0 m.dims) _ p.inside in
      record {
        dims = λ n h.
            let z : 0 + n ≡ n = omega arith in
            rw z at (in-interval ds m.lower m.upper 0 m.dims a n (rw w.long-dims at h));
        ranges = λ n h.
            let l = get_or-drop max_variables m.lower n (pos 0) in
            let u = get_or-drop max_variables m.upper n (pos 0) in
            rw (l, u) (in-interval ss m.lower m.upper max_variables m.ranges b n (rw w.long-ranges at h));
      }

  -- the walk of values over run i ends with its value
  pub value-is : (i : ℕ) → i < runs m
      → walk (value_alg ds ss) (nodes_at (length ds) (length ss) m.kinds m.values (start_of (count_of m) i) (count_of m i)) []
      ≡ stack (value_at m ds ss i ∷ [])
  unfolding tree_at
  value-is i h = go (tree_at m i) refl
    where
      w : Accepted m
      w = p.measured.accepted

      nodes : nodes_at (length ds) (length ss) m.kinds m.values (start_of (count_of m) i) (count_of m i) ≡ nodes_at m.dims m.ranges m.kinds m.values (start_of (count_of m) i) (count_of m i)
      nodes = rw (p.measured.long-dims, p.measured.long-ranges)

      go : (t : Tree) → tree_at m i ≡ t
          → walk (value_alg ds ss) (nodes_at (length ds) (length ss) m.kinds m.values (start_of (count_of m) i) (count_of m i)) [] ≡ stack (tree_value ds ss t ∷ [])
      go none q =
          let k = tree-at m w.formed i h in
          let z : ◌≡◌ {A = ℕ} 0 1 = cc in absurd (omega arith)
      go (tree e) q =
          accepted (bounds m.lower m.upper) ds ss m.kinds m.values (start_of (count_of m) i) (count_of m i) e inside (ap decode nodes ∙ q) (small_at m w i h e q)

  pub value-here : (i a b : ℕ) → i < runs m → stands a b ≡ run_of m i
      → walk (value_alg ds ss) (nodes_at (length ds) (length ss) m.kinds m.values a b) [] ≡ stack (value_at m ds ss i ∷ [])
  value-here i a b h e = rw (nodes-here m i a b e (length ds) (length ss)) (value-is i h)

-- ---- what a verdict says
pub accepted-of : (m : IndexingMap) → judge (map_rules m) ≡ Ok tt → Accepted m
accepted-of m e =
    let a = kept (good_parts m) Attribute _ e in
    let f = rest (good_parts m) Attribute _ e in
    let b = kept (good_counts m) CountLimit _ f in
    let g = rest (good_counts m) CountLimit _ f in
    record { formed = record { parts = a; counts = b }; ranges = kept (good_ranges m) WorkingLimit _ g }
