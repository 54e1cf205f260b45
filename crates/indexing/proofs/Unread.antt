-- What a record holds past its counts is not read. Assumes nothing.
use mathlib.Core.Path.{◌≡◌, refl, sym, ap, ap₂, ◌∙◌}
use mathlib.Core.Bool.{Bool, true, false, ◌&&◌}
use mathlib.Core.List.{List, ◌∷◌}
use Prim.Native.Nat.{ℕ, zero, suc, ◌+◌, ◌<◌, ◌≤◌, min}
use native.Mathlib.Omega.{arith}
use borrow.Author.Tests.{leb-true}
use lib.Dec.{eqb}
use lib.IntN.{ℤ, pos}
use lib.ListN.{length, get_or}
use lib.Seq.{get_or-drop}
use Rattle.integer.specs.Exact.{limit}
use Rattle.radix.specs.Radix.{every}
use Rattle.radix.proofs.Tests.{every-agree}
use Rattle.expression.specs.Node.{max_variables, max_nodes, node_of, nodes_at}
use Rattle.expression.specs.declared.Node.{Node}
use Rattle.expression.specs.Decode.{Tree, none, tree, decode, is_tree}
use Rattle.refusal.specs.Judge.{judge}
use Rattle.expression.specs.Expression.{Expr, d, s, rt, Range, span, add_range, mul_range, op_range, range_of, small_range, small_ranges, every_node}
use Rattle.expression.specs.Value.{point_of, bounds, tree_value}
use Rattle.expression.specs.Reckon.{is_kept, low_end, high_end}
use Rattle.expression.proofs.Within.{Proper, tree-ok}
use Rattle.indexing.specs.Ready.{Formed}
use Rattle.indexing.specs.Answers.{front, map_rules, result_ranges, values_of, result_values}
use Rattle.indexing.proofs.Formed.{Counts, counts-of, held_at}
use Rattle.indexing.specs.Map.{value_at, in_at, are_in, in_bounds, holds_at, all_hold, in_domain, SameAt, Alike, range_at, kept_at, good_ranges, max_results, max_bound, good_intervals, start_of, held_constraints, runs, count_of, tree_at, is_held, good_tree, good_bounds, good_ends, good_trees, good_parts, good_counts}
use Rattle.indexing.specs.declared.IndexingMap.{IndexingMap}
use Rattle.indexing.proofs.Starts.{start-suc, start-le}

start-same : (f g : ℕ → ℕ) (i : ℕ) → ((k : ℕ) → k < i → f k ≡ g k) → start_of f i ≡ start_of g i
unfolding start_of
start-same f g zero h = refl
start-same f g (suc i) h = ap₂ (λ (a b : ℕ). a + b) (start-same f g i (λ k l. h k (omega arith))) (h i (omega arith))

nodes-same : (dims ranges : ℕ) (ks ks' : List ℕ) (vs vs' : List ℤ) (i n : ℕ)
    → ((p : ℕ) → p < i + n → node_of dims ranges (get_or ks p 0) (get_or vs p (pos 0)) ≡ node_of dims ranges (get_or ks' p 0) (get_or vs' p (pos 0)))
    → nodes_at dims ranges ks vs i n ≡ nodes_at dims ranges ks' vs' i n
unfolding nodes_at
nodes-same dims ranges ks ks' vs vs' i zero h = refl
nodes-same dims ranges ks ks' vs vs' i (suc n) h =
    ap₂ (λ (x : Node) (l : List Node). x ∷ l) (h i (omega arith)) (nodes-same dims ranges ks ks' vs vs' (i + 1) n (λ p l. h p (omega arith)))

pub front_same : (f g : ℕ → ℤ) (i n : ℕ) → ((k : ℕ) → k < i → f k ≡ g k) → front f i n ≡ front g i n
unfolding front
front_same f g i zero h = refl
front_same f g zero (suc n) h = ap (λ (l : List ℤ). pos 0 ∷ l) (front_same f g zero n h)
front_same f g (suc i) (suc n) h =
    ap₂ (λ (z : ℤ) (l : List ℤ). z ∷ l) (h 0 (omega arith)) (front_same (λ (k : ℕ). f (suc k)) (λ (k : ℕ). g (suc k)) i n (λ k l. h (suc k) (omega arith)))

ends_same : (most : ℕ) (los his los' his' : List ℤ) (i n : ℕ)
    → ((k : ℕ) → k < n → SameAt los his los' his' (i + k))
    → good_intervals most los his i n ≡ good_intervals most los' his' i n
unfolding good_intervals
ends_same most los his los' his' i n h =
    every-agree _ _ n (λ k l. let a = h k l in rw (a.0, a.1))

-- from place 0 on
first : (los his los' his' : List ℤ) (k : ℕ) → SameAt los his los' his' k → SameAt los his los' his' (0 + k)
first los his los' his' k h = let z : 0 + k ≡ k = omega arith in rw z h

module _ (m n : IndexingMap) (a : Alike m n) where
  runs_same : runs m ≡ runs n
  runs_same = rw (a.results, a.constraints)

  start-at : (i : ℕ) → i ≤ runs m → start_of (count_of m) i ≡ start_of (count_of n) i
  start-at i h = start-same (count_of m) (count_of n) i (λ k l. a.counts k (omega arith))

  held_same : (i : ℕ) → i < runs m → is_held m i ≡ is_held n i
  held_same i h = rw (start-at (suc i) h)

  -- the same node, read with the counts of m
  node-same : (p : ℕ) → p < start_of (count_of m) (runs m) → p < max_nodes
      → node_of m.dims m.ranges (get_or m.kinds p 0) (get_or m.values p (pos 0)) ≡ node_of m.dims m.ranges (get_or n.kinds p 0) (get_or n.values p (pos 0))
  node-same p h k = a.nodes p h k ∙ ap₂ (λ (x y : ℕ). node_of x y (get_or n.kinds p 0) (get_or n.values p (pos 0))) (sym a.dims) (sym a.ranges)

  -- a run that is held is the same tree
  pub tree-same : (i : ℕ) → i < runs m → is_held m i ≡ true → tree_at m i ≡ tree_at n i
  unfolding tree_at
  tree-same i h e =
      let q = leb-true (start_of (count_of m) (suc i)) max_nodes e in
      let s = start-suc (count_of m) i in
      let t = start-le (count_of m) (suc i) (runs m) h in
      rw (← a.dims, ← a.ranges, ← start-at i (omega arith), ← a.counts i h)
      (ap decode (nodes-same m.dims m.ranges m.kinds n.kinds m.values n.values (start_of (count_of m) i) (count_of m i) (λ p l. node-same p (omega arith) (omega arith))))

  good-same : (i : ℕ) → i < runs m → good_tree m i ≡ good_tree n i
  good-same i h = go (is_held m i) refl
    where
      go : (b : Bool) → is_held m i ≡ b → good_tree m i ≡ good_tree n i
      go true e = rw (sym (held_same i h) ∙ e, e) (ap is_tree (tree-same i h e))
      go false e = rw (sym (held_same i h) ∙ e, e)

  bounds-same : good_bounds m ≡ good_bounds n
  unfolding good_bounds
  bounds-same =
      let p = ends_same max_bound m.lower m.upper n.lower n.upper 0 (min m.dims max_variables) (λ k l. first m.lower m.upper n.lower n.upper k (a.dimension k l)) in
      let q = ends_same max_bound m.lower m.upper n.lower n.upper max_variables (min m.ranges max_variables) a.range in
      rw (p, q, a.dims, a.ranges)

  constraints-same : good_ends m ≡ good_ends n
  unfolding good_ends
  constraints-same =
      let p = ends_same limit m.constraint_lower m.constraint_upper n.constraint_lower n.constraint_upper 0 (held_constraints m) (λ k l. first m.constraint_lower m.constraint_upper n.constraint_lower n.constraint_upper k (a.ends k l)) in
      rw (p, a.constraints)

  trees-same : good_trees m ≡ good_trees n
  unfolding good_trees
  trees-same = let p = every-agree (good_tree m) (good_tree n) (runs m) good-same in p ∙ ap (every (good_tree n)) runs_same

  -- number 2 is the same
  pub parts_same : good_parts m ≡ good_parts n
  unfolding good_parts
  parts_same = rw (bounds-same, constraints-same, trees-same)

  -- number 7 is the same
  pub counts_same : good_counts m ≡ good_counts n
  unfolding good_counts
  counts_same = rw (a.dims, a.ranges, start-at (runs m) (omega arith)) (rw (a.results, a.constraints))

  -- ---- the ranges, where 2 and 7 do not apply
  module _ (f : Formed m) where
    wide : Counts m
    wide = counts-of m f.counts

    bounds-d : (k : ℕ) → k < m.dims → bounds m.lower m.upper d k ≡ bounds n.lower n.upper d k
    unfolding bounds point_of
    bounds-d k l =
        let w = wide in
        let q = a.dimension k (omega arith) in
        ap₂ span q.0 q.1

    bounds-s : (k : ℕ) → k < m.ranges → bounds m.lower m.upper s k ≡ bounds n.lower n.upper s k
    unfolding bounds point_of
    bounds-s k l =
        let w = wide in
        let q = a.range k (omega arith) in
        ap₂ span
        (get_or-drop max_variables m.lower k (pos 0) ∙ q.0 ∙ sym (get_or-drop max_variables n.lower k (pos 0)))
        (get_or-drop max_variables m.upper k (pos 0) ∙ q.1 ∙ sym (get_or-drop max_variables n.upper k (pos 0)))

    range_same : (e : Expr) → Proper m.dims m.ranges e → range_of (bounds m.lower m.upper) e ≡ range_of (bounds n.lower n.upper) e
    unfolding Proper range_of
    range_same (Expr.var d k) h = bounds-d k h
    range_same (Expr.var s k) h = bounds-s k h
    range_same (Expr.var rt k) h = absurd h
    range_same (Expr.const z) h = refl
    range_same (Expr.add x y) h = ap₂ add_range (range_same x h.0) (range_same y h.1)
    range_same (Expr.mul z x) h = ap (mul_range z) (range_same x h)
    range_same (Expr.op o x c) h = ap (λ (r : Range). op_range o r c) (range_same x h.1)

    small_same : (e : Expr) → Proper m.dims m.ranges e → small_ranges (bounds m.lower m.upper) e ≡ small_ranges (bounds n.lower n.upper) e
    unfolding Proper small_ranges every_node
    small_same (Expr.var k x) h = ap small_range (range_same (Expr.var k x) h)
    small_same (Expr.const z) h = ap small_range (range_same (Expr.const z) h)
    small_same (Expr.add x y) h =
        ap₂ (λ (u v : Bool). u && v) (ap₂ (λ (u v : Bool). u && v) (small_same x h.0) (small_same y h.1)) (ap small_range (range_same (Expr.add x y) h))
    small_same (Expr.mul z x) h = ap₂ (λ (u v : Bool). u && v) (small_same x h) (ap small_range (range_same (Expr.mul z x) h))
    small_same (Expr.op o x c) h = ap₂ (λ (u v : Bool). u && v) (small_same x h.1) (ap small_range (range_same (Expr.op o x c) h))

    pub range-at-same : (i : ℕ) → i < runs m → range_at m i ≡ range_at n i
    unfolding tree_at
    range-at-same i h = go (tree_at m i) refl
      where
        go : (t : Tree) → tree_at m i ≡ t → range_at m i ≡ range_at n i
        go none q = rw (sym (tree-same i h (held_at m f i h)) ∙ q, q)
        go (tree e) q =
            let o = tree-ok m.dims m.ranges m.kinds m.values (start_of (count_of m) i) (count_of m i) e q in
            rw (sym (tree-same i h (held_at m f i h)) ∙ q, q, range_same e o, small_same e o)

    -- number 8 is the same
    pub ranges-same : good_ranges m ≡ good_ranges n
    unfolding good_ranges
    ranges-same = every-agree (kept_at m) (kept_at n) (runs m) (λ i h. ap is_kept (range-at-same i h)) ∙ ap (every (kept_at n)) runs_same

  -- What a map holds past its counts alters no verdict.
  pub judged-same : judge (map_rules m) ≡ judge (map_rules n)
  judged-same = go (good_parts m) (good_counts m) refl refl
    where
      go : (x y : Bool) → good_parts m ≡ x → good_counts m ≡ y → judge (map_rules m) ≡ judge (map_rules n)
      go true true p q = rw (ranges-same (record { parts = p; counts = q }), parts_same, counts_same)
      go true false p q = rw (p, q, sym parts_same ∙ p, sym counts_same ∙ q)
      go false y p q = rw (p, sym parts_same ∙ p)

  -- ---- the answers

  module _ (f : Formed m) (ds ss : List ℤ) where
    all : Counts m
    all = counts-of m f.counts

    value_same : (i : ℕ) → i < runs m → value_at m ds ss i ≡ value_at n ds ss i
    value_same i h = ap (tree_value ds ss) (tree-same i h (held_at m f i h))

    in-same : in_bounds m ds ss ≡ in_bounds n ds ss
    unfolding in_bounds are_in
    in-same =
        let w = all in
        let p = every-agree (in_at ds m.lower m.upper 0) (in_at ds n.lower n.upper 0) m.dims (λ k l. let q = first m.lower m.upper n.lower n.upper k (a.dimension k (omega arith)) in rw (q.0, q.1)) in
        let r = every-agree (in_at ss m.lower m.upper max_variables) (in_at ss n.lower n.upper max_variables) m.ranges (λ k l. let q = a.range k (omega arith) in rw (q.0, q.1)) in
        rw (p, r, a.dims, a.ranges)

    holds_same : all_hold m ds ss ≡ all_hold n ds ss
    unfolding all_hold
    holds_same =
        every-agree (holds_at m ds ss) (holds_at n ds ss) m.constraints each ∙ ap (every (holds_at n ds ss)) a.constraints
      where
        each : (k : ℕ) → k < m.constraints → holds_at m ds ss k ≡ holds_at n ds ss k
        each k l =
            let w = all in
            let q = a.ends k (omega arith) in
            let v = value_same (m.results + k) (omega arith) in
            rw (v, q.0, q.1, a.results)

    domain-same : in_domain m ds ss ≡ in_domain n ds ss
    unfolding in_domain
    domain-same = rw (in-same, holds_same, a.dims, a.ranges)

    values-front : values_of m ds ss m.results ≡ values_of n ds ss m.results
    values-front = let w = all in front_same (value_at m ds ss) (value_at n ds ss) m.results max_results (λ k l. value_same k (omega arith))

  -- It alters none of the ranges handed out,
  pub ranges-unread : result_ranges m ≡ result_ranges n
  unfolding result_ranges
  ranges-unread = go (good_parts m) (good_counts m) refl refl
    where
      go : (x y : Bool) → good_parts m ≡ x → good_counts m ≡ y → result_ranges m ≡ result_ranges n
      go true true p q =
          let f : Formed m = record { parts = p; counts = q } in
          let w = counts-of m q in
          let lo = front_same (λ (k : ℕ). low_end (range_at m k)) (λ (k : ℕ). low_end (range_at n k)) m.results max_results (λ k l. ap low_end (range-at-same f k (omega arith))) in
          let hi = front_same (λ (k : ℕ). high_end (range_at m k)) (λ (k : ℕ). high_end (range_at n k)) m.results max_results (λ k l. ap high_end (range-at-same f k (omega arith))) in
          rw (ranges-same f, parts_same, counts_same, lo, hi, a.results)
      go true false p q = rw (p, q, sym parts_same ∙ p, sym counts_same ∙ q)
      go false y p q = rw (p, sym parts_same ∙ p)

  -- and none of the values at a point.
  pub values-unread : (ds ss : List ℤ) → result_values m ds ss ≡ result_values n ds ss
  unfolding result_values
  values-unread ds ss = go (good_parts m) (eqb (length ds) m.dims && eqb (length ss) m.ranges) (good_counts m) refl refl refl
    where
      go : (x l y : Bool) → good_parts m ≡ x → (eqb (length ds) m.dims && eqb (length ss) m.ranges) ≡ l → good_counts m ≡ y → result_values m ds ss ≡ result_values n ds ss
      go true true true p w q =
          let f : Formed m = record { parts = p; counts = q } in
          rw (ranges-same f, domain-same f ds ss, values-front f ds ss, parts_same, counts_same, a.results, a.dims, a.ranges)
      go true true false p w q = rw (p, w, q, sym parts_same ∙ p, rw (a.dims, a.ranges) at w, sym counts_same ∙ q)
      go true false y p w q = rw (p, w, sym parts_same ∙ p, rw (a.dims, a.ranges) at w)
      go false l y p w q = rw (p, sym parts_same ∙ p)
