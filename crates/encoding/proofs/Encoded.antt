-- A record made of trees gives them back, and keeps the rules of maps where they do. Assumes nothing.
use Rattle.std.specs.Prelude.{None}
use mathlib.Core.Path.{◌≡◌, refl, sym, ap, ap₂, ◌∙◌, subst}
use mathlib.Core.Bool.{Bool, true, false, cond, ◌&&◌}
use mathlib.Core.List.{List, [], ◌∷◌, ◌++◌, map, append_assoc}
use Prim.Native.Nat.{ℕ, zero, suc, ◌+◌, ◌-◌, ◌<◌, ◌≤◌, min}
use native.Mathlib.Nat.{zero-add}
use native.Mathlib.Omega.{arith}
use native.Mathlib.Decide.{dec_lt}
use borrow.Author.Tests.{lt-ltb, le-ltb, le-leb}
use lib.Dec.{ltb}
use lib.IntN.{ℤ, pos}
use lib.ListN.{length, get_or, take, drop, replicate, length-append, length-map, get_or-append}
use lib.Seq.{take-suc, take-length, split_at, drop_at, get_or-append-add, get_or-drop}
use Rattle.integer.specs.Exact.{limit}
use Rattle.radix.specs.Radix.{every}
use Rattle.radix.proofs.Tests.{every-agree, and-true, every-all}
use Rattle.expression.specs.Expression.{Expr, node_count, Range, span, small_ranges}
use Rattle.expression.specs.Node.{max_variables, max_nodes, nodes_at}
use Rattle.expression.specs.Decode.{Tree, tree, decode, is_tree}
use Rattle.expression.specs.Value.{point_of, bounds}
use Rattle.expression.specs.Reckon.{range_in, is_kept}
use Rattle.expression.specs.declared.Node.{Node}
use Rattle.expression.proofs.Ends.{kept}
use Rattle.indexing.specs.Map.{max_results, max_constraints, max_bound, good_interval, good_ends_at, good_intervals, start_of, count_in, runs, count_of, tree_at, is_held, good_tree, good_bounds, good_ends, good_trees, good_parts, good_counts, kept_at, good_ranges, SameAt}
use Rattle.indexing.specs.declared.IndexingMap.{IndexingMap}
use Rattle.folding.specs.Map.{Constraint}
use Rattle.encoding.specs.Postfix.{postfix, kind_of, value_of, Encodable}
use Rattle.encoding.specs.Encode.{trees_of, nodes_of, filled, encode_map, AllEncodable, Fitting, all_of, intervals_good, all_small}
use Rattle.encoding.proofs.Reading.{postfix-length, tree-stands}
use Rattle.encoding.proofs.Lists.{map-append, map_at}
use Rattle.encoding.proofs.Bounds.{bound-dimension, bound-range, small_same}
use Rattle.encoding.proofs.Filled.{filled_at, filled_is}

-- ---- tests

and_assoc : (a b c : Bool) → ((a && b) && c) ≡ (a && (b && c))
and_assoc true b c = refl
and_assoc false b c = refl

and-id : (a : Bool) → (a && true) ≡ a
and-id true = refl
and-id false = refl

every_front : (f : ℕ → Bool) (n : ℕ) → every f (suc n) ≡ (f 0 && every (λ (k : ℕ). f (suc k)) n)
every_front f zero = sym (and-id (f 0))
every_front f (suc n) =
    ap (λ (b : Bool). b && f (suc n)) (every_front f n) ∙ and_assoc (f 0) (every (λ (k : ℕ). f (suc k)) n) (f (suc n))

-- a test at every place of a list is a test of every one of it
every_of : {A : Type 0} (f : ℕ → Bool) (p : A → Bool) (xs : List A) (z : A) → ((k : ℕ) → k < length xs → f k ≡ p (get_or xs k z))
    → every f (length xs) ≡ all_of p xs
every_of f p [] z h = refl
every_of f p (x ∷ xs) z h =
    every_front f (length xs)
    ∙ ap₂ (λ (a b : Bool). a && b) (h 0 (omega arith)) (every_of (λ (k : ℕ). f (suc k)) p xs z (λ k l. h (suc k) (omega arith)))

-- ---- the nodes of trees

pub nodes-append : (xs ys : List Expr) → nodes_of (xs ++ ys) ≡ nodes_of xs ++ nodes_of ys
nodes-append [] ys = refl
nodes-append (x ∷ xs) ys = ap (λ (l : List Node). postfix x ++ l) (nodes-append xs ys) ∙ sym (append_assoc (postfix x) (nodes_of xs) (nodes_of ys))

-- those before a tree, its own, and those after it
nodes-split : (es : List Expr) (k : ℕ) (z : Expr) → k < length es
    → nodes_of es ≡ nodes_of (take k es) ++ (postfix (get_or es k z) ++ nodes_of (drop (suc k) es))
nodes-split es k z h = ap nodes_of (split_at es k z h) ∙ nodes-append (take k es) (get_or es k z ∷ drop (suc k) es)

-- the nodes of a tree start behind those of the trees before it
start-nodes : (f : ℕ → ℕ) (es : List Expr) (z : Expr) → ((k : ℕ) → k < length es → f k ≡ node_count (get_or es k z))
    → (i : ℕ) → i ≤ length es → start_of f i ≡ length (nodes_of (take i es))
unfolding start_of
start-nodes f es z h zero l = refl
start-nodes f es z h (suc i) l =
    let e = get_or es i z in
    let n : nodes_of (take (suc i) es) ≡ nodes_of (take i es) ++ (postfix e ++ []) =
    ap nodes_of (take-suc es i z l) ∙ nodes-append (take i es) (e ∷ []) in
    omega (
      arith,
      start-nodes f es z h i (omega arith),
      h i l,
      ap (λ (x : List Node). length x) n,
      length-append (nodes_of (take i es)) (postfix e ++ []),
      length-append (postfix e) [],
      postfix-length e,
    )

encodable-at : (dims ranges : ℕ) (es : List Expr) (k : ℕ) (z : Expr) → AllEncodable dims ranges es → k < length es → Encodable dims ranges (get_or es k z)
encodable-at dims ranges [] k z a h = absurd (omega arith)
encodable-at dims ranges (e ∷ es) zero z a h = a.0
encodable-at dims ranges (e ∷ es) (suc k) z a h = encodable-at dims ranges es k z a.1 (omega arith)

-- some nodes in an array of all
part-stands : {B : Type 0} (f : Node → B) (n : ℕ) (z : B) (all before part after : List Node) → all ≡ before ++ (part ++ after) → length all ≤ n
    → drop (length before) (filled n z (map f all)) ≡ map f part ++ (map f after ++ drop (length all) (replicate n z))
part-stands {B} f n z all before part after e h =
    let rest = drop (length all) (replicate n z) in
    let l : length (map f all) ≡ length all = length-map all f in
    let q : filled n z (map f all) ≡ map f before ++ (map f part ++ (map f after ++ rest)) =
    filled_is n z (map f all) (omega arith)
    ∙ ap (λ (k : ℕ). map f all ++ drop k (replicate n z)) l
    ∙ ap (λ (x : List B). x ++ rest)
    (ap (map f) e ∙ map-append f before (part ++ after) ∙ ap (λ (x : List B). map f before ++ x) (map-append f part after))
    ∙ append_assoc (map f before) (map f part ++ map f after) rest
    ∙ ap (λ (x : List B). map f before ++ x) (append_assoc (map f part) (map f after) rest) in
    ap (λ (x : List B). drop (length before) x) q
    ∙ drop_at (map f before) (map f part ++ (map f after ++ rest)) (length before) (length-map before f)

-- ---- the record

module _ (dims ranges : ℕ) (lower upper : List ℤ) (results : List Expr) (constraints : List Constraint) (w : Fitting dims ranges results constraints) where
  abbrev m : IndexingMap
  m = encode_map dims ranges lower upper results constraints

  abbrev trees : List Expr
  trees = trees_of results constraints

  tree-count : length trees ≡ length results + length constraints
  tree-count = omega (arith, length-append results (map (λ (c : Constraint). c.expr) constraints), length-map constraints (λ (c : Constraint). c.expr))

  -- every tree is a run
  pub encoded-runs : runs m ≡ length trees
  unfolding encode_map
  encoded-runs = omega (arith, tree-count, w.few-results, w.few-constraints)

  -- of its number of nodes
  pub encoded-count : (i : ℕ) (z : Expr) → i < length trees → count_of m i ≡ node_count (get_or trees i z)
  unfolding encode_map count_in
  encoded-count i z h = go (dec_lt i (length results))
    where
      n : min (length results) max_results ≡ length results
      n = omega (arith, w.few-results)

      counts : List ℕ
      counts = map (λ (c : Constraint). node_count c.expr) constraints

      other : Constraint
      other = record { expr = z; interval = span (pos 0) (pos 0) }

      go : Dec (i < length results) → count_of m i ≡ node_count (get_or trees i z)
      go (yes l) =
          ap (λ (b : Bool). cond b (get_or (filled max_results 0 (map node_count results)) i 0) (get_or (filled max_constraints 0 counts) (i - min (length results) max_results) 0))
          (ap (λ (k : ℕ). ltb i k) n ∙ lt-ltb i (length results) l)
          ∙ filled_at max_results 0 (map node_count results) i (omega (arith, w.few-results))
          ∙ map_at node_count results i z 0 l
          ∙ ap node_count (sym (get_or-append results (map (λ (c : Constraint). c.expr) constraints) z i l))
      go (no l) =
          let k = i - length results in
          let e : length results + k ≡ i = omega arith in
          let f : k < length constraints = omega (arith, tree-count) in
          ap (λ (b : Bool). cond b (get_or (filled max_results 0 (map node_count results)) i 0) (get_or (filled max_constraints 0 counts) (i - min (length results) max_results) 0))
          (ap (λ (k : ℕ). ltb i k) n ∙ le-ltb i (length results) (omega arith))
          ∙ ap (λ (j : ℕ). get_or (filled max_constraints 0 counts) (i - j) 0) n
          ∙ filled_at max_constraints 0 counts k (omega (arith, w.few-constraints))
          ∙ map_at (λ (c : Constraint). node_count c.expr) constraints k other 0 f
          ∙ ap node_count
          (sym (map_at (λ (c : Constraint). c.expr) constraints k other z f)
          ∙ sym (get_or-append-add results (map (λ (c : Constraint). c.expr) constraints) k z)
          ∙ ap (λ (j : ℕ). get_or trees j z) e)

  pub encoded-start : (i : ℕ) → i ≤ length trees → start_of (count_of m) i ≡ length (nodes_of (take i trees))
  encoded-start i h = start-nodes (count_of m) trees (Expr.const (pos 0)) (λ k l. encoded-count k (Expr.const (pos 0)) l) i h

  -- each run is its tree
  pub encoded-tree : (i : ℕ) (z : Expr) → i < length trees → tree_at m i ≡ tree (get_or trees i z)
  unfolding tree_at encode_map
  encoded-tree i z h =
      let e = get_or trees i z in
      let before = nodes_of (take i trees) in
      let after = nodes_of (drop (suc i) trees) in
      let all = nodes-split trees i z h in
      ap₂ (λ (a b : ℕ). decode (nodes_at dims ranges m.kinds m.values a b)) (encoded-start i (omega arith)) (encoded-count i z h)
      ∙ tree-stands dims ranges w.few-dims w.few-ranges e m.kinds m.values (length before) _ _
      (encodable-at dims ranges trees i z w.encodable h)
      (part-stands kind_of max_nodes 0 (nodes_of trees) before (postfix e) after all w.few-nodes)
      (part-stands value_of max_nodes (pos 0) (nodes_of trees) before (postfix e) after all w.few-nodes)

  nodes-all : start_of (count_of m) (length trees) ≡ length (nodes_of trees)
  nodes-all = encoded-start (length trees) (omega arith) ∙ ap (λ (l : List Expr). length (nodes_of l)) (take-length trees)

  -- number 7 does not apply
  pub encoded-counts : good_counts m ≡ true
  unfolding good_counts encode_map
  encoded-counts =
      let n : start_of (count_of m) (runs m) ≤ max_nodes = omega (arith, ap (start_of (count_of m)) encoded-runs, nodes-all, w.few-nodes) in
      and-true (le-leb dims max_variables w.few-dims)
      (and-true (le-leb ranges max_variables w.few-ranges)
      (and-true (le-leb (length results) max_results w.few-results)
      (and-true (le-leb (length constraints) max_constraints w.few-constraints) (le-leb (start_of (count_of m) (runs m)) max_nodes n))))

  -- every run is a tree
  pub encoded-trees : good_trees m ≡ true
  unfolding good_trees
  encoded-trees = every-all (good_tree m) (runs m) (λ i h. good (is_held m i) i (subst (λ (n : ℕ). i < n) encoded-runs h))
    where
      good : (b : Bool) (i : ℕ) → i < length trees → cond b (is_tree (tree_at m i)) true ≡ true
      good true i h = ap is_tree (encoded-tree i (Expr.const (pos 0)) h)
      good false i h = refl

  -- ---- bounds and intervals are as given

  pub encoded-dimension : (k : ℕ) → k < dims → SameAt m.lower m.upper lower upper k
  unfolding encode_map
  encoded-dimension k h = (bound-dimension dims ranges lower k h w.few-dims, bound-dimension dims ranges upper k h w.few-dims)

  pub encoded-range : (k : ℕ) → k < ranges → SameAt m.lower m.upper lower upper (max_variables + k)
  unfolding encode_map
  encoded-range k h = (bound-range dims ranges lower k h w.few-ranges, bound-range dims ranges upper k h w.few-ranges)

  pub encoded-interval : (k : ℕ) (z : Constraint) → k < length constraints
      → (get_or m.constraint_lower k (pos 0) ≡ (get_or constraints k z).interval.lo) × (get_or m.constraint_upper k (pos 0) ≡ (get_or constraints k z).interval.hi)
  unfolding encode_map
  encoded-interval k z h =
      let n : k < max_constraints = omega (arith, w.few-constraints) in
      let lows : Constraint → ℤ = λ (c : Constraint). c.interval.lo in
      let highs : Constraint → ℤ = λ (c : Constraint). c.interval.hi in (
        filled_at max_constraints (pos 0) (map lows constraints) k n ∙ map_at lows constraints k z (pos 0) h,
        filled_at max_constraints (pos 0) (map highs constraints) k n ∙ map_at highs constraints k z (pos 0) h,
      )

  same-intervals : (n i : ℕ) → ((k : ℕ) → k < n → SameAt m.lower m.upper lower upper (i + k))
      → good_intervals max_bound m.lower m.upper i n ≡ good_intervals max_bound lower upper i n
  unfolding good_intervals
  same-intervals n i h = every-agree _ _ n (λ k l. let a = h k l in ap₂ (good_interval max_bound) a.0 a.1)

  pub encoded-bounds : good_bounds m ≡ (good_intervals max_bound lower upper 0 dims && good_intervals max_bound lower upper max_variables ranges)
  unfolding good_bounds encode_map
  encoded-bounds =
      let a : min dims max_variables ≡ dims = omega (arith, w.few-dims) in
      let b : min ranges max_variables ≡ ranges = omega (arith, w.few-ranges) in
      ap₂ (λ (x y : Bool). x && y)
      (ap (λ (n : ℕ). good_intervals max_bound m.lower m.upper 0 n) a
      ∙ same-intervals dims 0 (λ k l. subst (λ (i : ℕ). SameAt m.lower m.upper lower upper i) (sym (zero-add k)) (encoded-dimension k l)))
      (ap (λ (n : ℕ). good_intervals max_bound m.lower m.upper max_variables n) b ∙ same-intervals ranges max_variables encoded-range)

  pub encoded-ends : good_ends m ≡ intervals_good constraints
  unfolding good_ends good_intervals encode_map
  encoded-ends =
      let other : Constraint = record { expr = Expr.const (pos 0); interval = span (pos 0) (pos 0) } in
      let n : min (length constraints) max_constraints ≡ length constraints = omega (arith, w.few-constraints) in
      ap (every (λ (k : ℕ). good_ends_at limit m.constraint_lower m.constraint_upper (0 + k))) n
      ∙ every_of _ (λ (c : Constraint). good_interval limit c.interval.lo c.interval.hi) constraints other
      (λ k l.
      let a = encoded-interval k other l in
      ap (good_ends_at limit m.constraint_lower m.constraint_upper) (zero-add k) ∙ ap₂ (good_interval limit) a.0 a.1)

  -- number 2 applies where it does to the bounds or to an interval
  pub encoded-parts : good_parts m
      ≡ ((good_intervals max_bound lower upper 0 dims && good_intervals max_bound lower upper max_variables ranges) && intervals_good constraints)
  unfolding good_parts
  encoded-parts =
      ap₂ (λ (x y : Bool). x && y) encoded-bounds (ap₂ (λ (x y : Bool). x && y) encoded-ends encoded-trees ∙ and-id (intervals_good constraints))

  -- ---- the ranges are those by the bounds given

  same-bounds : (e : Expr) → Encodable dims ranges e → small_ranges (bounds m.lower m.upper) e ≡ small_ranges (bounds lower upper) e
  unfolding bounds point_of
  same-bounds e h =
      small_same dims ranges (bounds m.lower m.upper) (bounds lower upper)
      (λ k l. let a = encoded-dimension k l in ap₂ span a.0 a.1)
      (λ k l.
      let a = encoded-range k l in
      ap₂ span
      (get_or-drop max_variables m.lower k (pos 0) ∙ a.0 ∙ sym (get_or-drop max_variables lower k (pos 0)))
      (get_or-drop max_variables m.upper k (pos 0) ∙ a.1 ∙ sym (get_or-drop max_variables upper k (pos 0))))
      e h

  -- number 8 applies where the range of a node passes the limit
  pub encoded-ranges : good_ranges m ≡ all_small (bounds lower upper) trees
  unfolding good_ranges
  encoded-ranges =
      ap (every (kept_at m)) encoded-runs
      ∙ every_of (kept_at m) (small_ranges (bounds lower upper)) trees zero-tree
      (λ k l.
      ap (λ (t : Tree). is_kept (range_in m.lower m.upper t)) (encoded-tree k zero-tree l)
      ∙ kept-is (small_ranges (bounds m.lower m.upper) (get_or trees k zero-tree)) _
      ∙ same-bounds (get_or trees k zero-tree) (encodable-at dims ranges trees k zero-tree w.encodable l))
    where
      zero-tree : Expr
      zero-tree = Expr.const (pos 0)

      kept-is : (b : Bool) (r : Range) → is_kept (cond b (kept r.lo r.hi) None) ≡ b
      kept-is true r = refl
      kept-is false r = refl
