-- The maps of the operations fit a record: counts within their limits, and trees that their nodes give back. Assumes nothing.
use mathlib.Core.Path.{◌≡◌, refl, sym, ap, ◌∙◌, subst}
use mathlib.Core.Bool.{Bool, true, false, cond}
use mathlib.Core.List.{List, [], ◌∷◌, ◌++◌, map}
use Prim.Native.Nat.{ℕ, zero, suc, ◌+◌, ◌*◌, ◌^◌, ◌<◌, ◌≤◌}
use native.Mathlib.Nat.{mul-le-mul_right, mul-le-mul_left, mul-le-mul}
use native.Mathlib.Omega.{arith}
use borrow.Author.Tests.{ltb-true}
use lib.IntN.{pos, neg_ℤ, nat_abs}
use lib.ListN.{length, get_or, length-append, length-map}
use Rattle.radix.specs.Radix.{prod}
use Rattle.radix.proofs.Pigeonhole.{at_most}
use Rattle.expression.specs.Expression.{d, s, floordiv, modulo, Expr, node_count}
use Rattle.expression.specs.Node.{max_variables, max_nodes}
use Rattle.indexing.specs.Map.{max_results}
use Rattle.folding.specs.Map.{Constraint, constraint_trees}
use Rattle.encoding.specs.Postfix.{postfix, Encodable}
use Rattle.encoding.specs.Encode.{trees_of, nodes_of, AllEncodable, Fitting}
use Rattle.encoding.proofs.Reading.{postfix-length}
use Rattle.encoding.proofs.Encoded.{nodes-append}
use Rattle.encoding.proofs.Lists.{map-append}
use Rattle.encoding.specs.Trees.{listed}
use Rattle.encoding.proofs.Listed.{listed-length}
use Rattle.shape.specs.Dimensions.{place}
use Rattle.shape.specs.Shape.{max_rank}
use Rattle.operation_maps.specs.declared.Axis.{Axis}
use Rattle.operation_maps.specs.declared.Axis.TheVariants.{Keep, Flip, Cut, Shift}
use Rattle.map_builder.specs.Raw.{Fits, up_to, whole_of}
use Rattle.operation_maps.specs.Axes.{Side, side_trees, side_tests, side_map, out_side, in_side, axes_out, axes_in}
use Rattle.operation_maps.specs.Reshape.{linear_from, linear, digit_trees, split_trees, reshape_map, Positive}
use Rattle.operation_maps.specs.Lists.{select, is_listed, others}
use Rattle.operation_maps.specs.Selection.{select_map, variable_for, spread_map, Choice}
use Rattle.operation_maps.proofs.ReshapeNamed.{prod-positive}
use Rattle.operation_maps.proofs.SelectionNamed.{select-length, others-choice, others-at}

-- ---- lists of trees

nodes-of : (es : List Expr) → ℕ
nodes-of es = length (nodes_of es)

module _ (D S : ℕ) where
  join-encodable : (xs ys : List Expr) → AllEncodable D S xs → AllEncodable D S ys → AllEncodable D S (xs ++ ys)
  join-encodable [] ys h k = k
  join-encodable (x ∷ xs) ys h k = (h.0, join-encodable xs ys h.1 k)

pub nodes-join : (xs ys : List Expr) → length (nodes_of (xs ++ ys)) ≡ length (nodes_of xs) + length (nodes_of ys)
nodes-join xs ys = ap length (nodes-append xs ys) ∙ length-append (nodes_of xs) (nodes_of ys)

pub nodes-more : (x : Expr) (xs : List Expr) → length (nodes_of (x ∷ xs)) ≡ node_count x + length (nodes_of xs)
nodes-more x xs = length-append (postfix x) (nodes_of xs) ∙ ap (λ (n : ℕ). n + length (nodes_of xs)) (postfix-length x)

-- ---- operations that treat each dimension by itself

-- the numbers of a dimension are at most 2^40
abbrev pub Small : Axis → Type 0
Small (Keep n) = Unit {0}
Small (Flip n) = n ≤ 2 ^ 40
Small (Cut start _ stride) = (start ≤ 2 ^ 40) × ((0 < stride) × (stride ≤ 2 ^ 40))
Small (Shift by n) = by ≤ 2 ^ 40

abbrev pub AllSmall : List Axis → Type 0
AllSmall [] = Unit {0}
AllSmall (a ∷ axs) = Small a × AllSmall axs

record Fit (x : Side) : Type 0 where
  tree : (D k : ℕ) → k < D → Encodable D 0 (x.tree (Expr.var d k))
  tests : (D k : ℕ) → k < D → AllEncodable D 0 (constraint_trees (x.tests (Expr.var d k)))
  tree-nodes : (k : ℕ) → node_count (x.tree (Expr.var d k)) ≤ 4
  few-tests : (k : ℕ) → length (x.tests (Expr.var d k)) ≤ 1
  test-nodes : (k : ℕ) → length (nodes_of (constraint_trees (x.tests (Expr.var d k)))) ≤ 4

pub negative : (n : ℕ) → nat_abs (neg_ℤ (pos n)) ≡ n
negative zero = refl
negative (suc n) = refl

out-fit : (a : Axis) → Small a → Fit (out_side a)
unfolding Encodable node_count
out-fit (Keep n) h =
    record { tree = λ D k l. l; tests = λ D k l. tt; tree-nodes = λ k. omega arith; few-tests = λ k. omega arith; test-nodes = λ k. omega arith }
out-fit (Flip n) h =
    record {
      tree = λ D k l. ((omega arith, l), omega (arith, h));
      tests = λ D k l. tt;
      tree-nodes = λ k. omega arith;
      few-tests = λ k. omega arith;
      test-nodes = λ k. omega arith;
    }
out-fit (Cut start lim stride) h =
    record {
      tree = λ D k l. ((omega (arith, h.1.1), l), omega (arith, h.0));
      tests = λ D k l. tt;
      tree-nodes = λ k. omega arith;
      few-tests = λ k. omega arith;
      test-nodes = λ k. omega arith;
    }
out-fit (Shift by n) h =
    record {
      tree = λ D k l. (l, omega (arith, h, negative by));
      tests = λ D k l. tt;
      tree-nodes = λ k. omega arith;
      few-tests = λ k. omega arith;
      test-nodes = λ k. omega arith;
    }

in-fit : (a : Axis) → Small a → Fit (in_side a)
unfolding Encodable node_count postfix
in-fit (Keep n) h = out-fit (Keep n) h
in-fit (Flip n) h = out-fit (Flip n) h
in-fit (Cut start lim stride) h =
    record {
      tree = λ D k l. (h.1.0, (h.1.1, (l, omega (arith, h.0, negative start))));
      tests = λ D k l. ((h.1.0, (h.1.1, (l, omega (arith, h.0, negative start)))), tt);
      tree-nodes = λ k. omega arith;
      few-tests = λ k. omega arith;
      test-nodes = λ k. omega arith;
    }
in-fit (Shift by n) h =
    record {
      tree = λ D k l. (l, omega (arith, h));
      tests = λ D k l. tt;
      tree-nodes = λ k. omega arith;
      few-tests = λ k. omega arith;
      test-nodes = λ k. omega arith;
    }

module _ (f : Axis → Side) (fit : (a : Axis) → Small a → Fit (f a)) where
  record Sides (D k : ℕ) (axs : List Axis) : Type 0 where
    trees : AllEncodable D 0 (side_trees (map f axs) k)
    tests : AllEncodable D 0 (constraint_trees (side_tests (map f axs) k))
    many : length (side_trees (map f axs) k) ≡ length axs
    few : length (side_tests (map f axs) k) ≤ length axs
    tree-nodes : length (nodes_of (side_trees (map f axs) k)) ≤ 4 * length axs
    test-nodes : length (nodes_of (constraint_trees (side_tests (map f axs) k))) ≤ 4 * length axs

  sides : (D k : ℕ) (axs : List Axis) → AllSmall axs → k + length axs ≤ D → Sides D k axs
  sides D k [] h l = record { trees = tt; tests = tt; many = refl; few = omega arith; tree-nodes = omega arith; test-nodes = omega arith }
  sides D k (a ∷ axs) h l =
      let t = fit a h.0 in
      let r = sides D (suc k) axs h.1 (omega arith) in
      let x = (f a).tests (Expr.var d k) in
      let y = side_tests (map f axs) (suc k) in
      let e = map-append (λ (c : Constraint). c.expr) x y in
      record {
        trees = (t.tree D k (omega arith), r.trees);
        tests = subst (AllEncodable D 0) (sym e) (join-encodable D 0 (constraint_trees x) (constraint_trees y) (t.tests D k (omega arith)) r.tests);
        many = ap suc r.many;
        few = omega (arith, length-append x y, t.few-tests k, r.few);
        tree-nodes = omega (arith, nodes-more ((f a).tree (Expr.var d k)) (side_trees (map f axs) (suc k)), t.tree-nodes k, r.tree-nodes);
        test-nodes = omega (arith, ap (λ (es : List Expr). length (nodes_of es)) e, nodes-join (constraint_trees x) (constraint_trees y), t.test-nodes k, r.test-nodes);
      }

  sides-fit : (axs : List Axis) → AllSmall axs → length axs ≤ max_rank → Fits (side_map (map f axs))
  sides-fit axs h n =
      let e : length (map (λ (x : Side). x.bound) (map f axs)) ≡ length axs = length-map (map f axs) (λ (x : Side). x.bound) ∙ length-map axs f in
      let w = sides (length (map (λ (x : Side). x.bound) (map f axs))) 0 axs h (omega arith) in
      record {
        few-dims = omega arith;
        few-ranges = omega arith;
        few-results = omega (arith, w.many);
        few-constraints = omega (arith, w.few);
        few-nodes = omega (arith, nodes-join (side_trees (map f axs) 0) (constraint_trees (side_tests (map f axs) 0)), w.tree-nodes, w.test-nodes);
        encodable = join-encodable (length (map (λ (x : Side). x.bound) (map f axs))) 0 (side_trees (map f axs) 0) (constraint_trees (side_tests (map f axs) 0)) w.trees w.tests;
      }

pub axes-out-fit : (axs : List Axis) → AllSmall axs → length axs ≤ max_rank → Fits (axes_out axs)
unfolding axes_out
axes-out-fit = sides-fit out_side out-fit

pub axes-in-fit : (axs : List Axis) → AllSmall axs → length axs ≤ max_rank → Fits (axes_in axs)
unfolding axes_in
axes-in-fit = sides-fit in_side in-fit

-- ---- operations that select coordinates

-- a list without repeats is no longer than there are numbers in range
pub choice-few : (l : List ℕ) (n : ℕ) → Choice l n → length l ≤ n
choice-few l n c = at_most (length l) n (λ (k : ℕ). get_or l k 0) c.inside c.apart

variables-encodable : (D S : ℕ) (l : List ℕ) → ((k : ℕ) → k < length l → get_or l k 0 < D) → AllEncodable D S (map (λ (k : ℕ). Expr.var d k) l)
unfolding Encodable
variables-encodable D S [] h = tt
variables-encodable D S (j ∷ l) h = (h 0 (omega arith), variables-encodable D S l (λ k g. h (suc k) (omega arith)))

variables-nodes : (l : List ℕ) → length (nodes_of (map (λ (k : ℕ). Expr.var d k) l)) ≡ length l
unfolding node_count
variables-nodes [] = refl
variables-nodes (j ∷ l) = omega (arith, nodes-more (Expr.var d j) (map (λ (k : ℕ). Expr.var d k) l), variables-nodes l)

pub no-constraints : (es : List Expr) → trees_of es [] ≡ es
no-constraints [] = refl
no-constraints (e ∷ es) = ap (λ (l : List Expr). e ∷ l) (no-constraints es)

-- trees alone
plain-fit : (D S : ℕ) (es : List Expr) → D ≤ max_variables → S ≤ max_variables → length es ≤ max_results → length (nodes_of es) ≤ max_nodes → AllEncodable D S es → Fitting D S es []
plain-fit D S es a b c n e =
    record {
      few-dims = a;
      few-ranges = b;
      few-results = c;
      few-constraints = omega arith;
      few-nodes = omega (arith, n, ap (λ (l : List Expr). length (nodes_of l)) (no-constraints es));
      encodable = subst (AllEncodable D S) (sym (no-constraints es)) e;
    }

pub whole_length : (ns : List ℕ) → length (whole_of ns) ≡ length ns
whole_length ns = length-map ns up_to

pub select-fit : (l ns : List ℕ) → length ns ≤ max_rank → Choice l (length ns) → Fits (select_map l ns)
unfolding select_map
select-fit l ns n c =
    let f = choice-few l (length ns) c in
    let e = whole_length ns in
    let m : length (map (λ (k : ℕ). Expr.var d k) l) ≡ length l = length-map l (λ (k : ℕ). Expr.var d k) in
    plain-fit (length (whole_of ns)) 0 (map (λ (k : ℕ). Expr.var d k) l) (omega arith) (omega arith) (omega arith) (omega (arith, variables-nodes l))
    (variables-encodable (length (whole_of ns)) 0 l (λ k h. omega (arith, c.inside k h)))

module _ (D S : ℕ) (f : ℕ → Expr) where
  listed-encodable : (n : ℕ) → ((k : ℕ) → k < n → Encodable D S (f k)) → AllEncodable D S (listed f n)
  unfolding listed
  listed-encodable zero h = tt
  listed-encodable (suc n) h = join-encodable D S (listed f n) (f n ∷ []) (listed-encodable n (λ k l. h k (omega arith))) (h n (omega arith), tt)

listed-nodes : (f : ℕ → Expr) (n : ℕ) → ((k : ℕ) → node_count (f k) ≡ 1) → length (nodes_of (listed f n)) ≡ n
unfolding listed
listed-nodes f zero h = refl
listed-nodes f (suc n) h = omega (arith, nodes-join (listed f n) (f n ∷ []), listed-nodes f n h, nodes-more (f n) [], h n)

variable-nodes : (l : List ℕ) (j : ℕ) → node_count (variable_for l j) ≡ 1
unfolding node_count
variable-nodes l j = go (is_listed l j)
  where
    go : (b : Bool) → node_count (cond b (Expr.var d (place j l)) (Expr.var s (length (others l j)))) ≡ 1
    go true = refl
    go false = refl

variable-encodable : (l : List ℕ) (n j : ℕ) → j < n → Encodable (length l) (length (others l n)) (variable_for l j)
unfolding Encodable
variable-encodable l n j h = go (is_listed l j) refl
  where
    go : (b : Bool) → is_listed l j ≡ b → Encodable (length l) (length (others l n)) (cond b (Expr.var d (place j l)) (Expr.var s (length (others l j))))
    go true e = ltb-true (place j l) (length l) e
    go false e = (others-at l n j h e).0

pub spread-fit : (l ns : List ℕ) → length ns ≤ max_rank → Choice l (length ns) → Fits (spread_map l ns)
unfolding spread_map
spread-fit l ns n c =
    let f = choice-few l (length ns) c in
    let g = choice-few (others l (length ns)) (length ns) (others-choice l (length ns)) in
    let a : length (whole_of (select l ns)) ≡ length l = whole_length (select l ns) ∙ select-length l ns in
    let b : length (whole_of (select (others l (length ns)) ns)) ≡ length (others l (length ns)) = whole_length (select (others l (length ns)) ns) ∙ select-length (others l (length ns)) ns in
    plain-fit (length (whole_of (select l ns))) (length (whole_of (select (others l (length ns)) ns))) (listed (variable_for l) (length ns))
    (omega arith) (omega arith) (omega (arith, listed-length (variable_for l) (length ns))) (omega (arith, listed-nodes (variable_for l) (length ns) (variable-nodes l)))
    (subst (λ (D : ℕ). AllEncodable D (length (whole_of (select (others l (length ns)) ns))) (listed (variable_for l) (length ns))) (sym a)
    (subst (λ (S : ℕ). AllEncodable (length l) S (listed (variable_for l) (length ns))) (sym b)
    (listed-encodable (length l) (length (others l (length ns))) (variable_for l) (length ns) (λ k h. variable-encodable l (length ns) k h))))

-- ---- reshape

pub tail-le : (n : ℕ) (ns : List ℕ) → 0 < n → prod ns ≤ prod (n ∷ ns)
tail-le n ns h = omega (arith, mul-le-mul_right (prod ns) h)

linear-from-encodable : (D : ℕ) (e : Expr) (k : ℕ) (ns : List ℕ) → Positive ns → prod ns ≤ 2 ^ 40 → k + length ns ≤ D → Encodable D 0 e → Encodable D 0 (linear_from e k ns)
unfolding linear_from Encodable
linear-from-encodable D e k [] g m l h = h
linear-from-encodable D e k (n ∷ ns) g m l h =
    let t = tail-le n ns g.0 in
    let p : prod ns ≤ 2 ^ 40 = omega arith in
    linear-from-encodable D (Expr.add e (Expr.mul (pos (prod ns)) (Expr.var d k))) (suc k) ns g.1 p (omega arith) (h, (omega arith, omega arith))

linear-encodable : (D : ℕ) (ns : List ℕ) → Positive ns → prod ns ≤ 2 ^ 40 → length ns ≤ D → Encodable D 0 (linear ns)
unfolding linear Encodable
linear-encodable D [] g m l = omega arith
linear-encodable D (n ∷ ns) g m l =
    let t = tail-le n ns g.0 in
    let p : prod ns ≤ 2 ^ 40 = omega arith in
    linear-from-encodable D (Expr.mul (pos (prod ns)) (Expr.var d 0)) 1 ns g.1 p (omega arith) (omega arith, omega arith)

linear-from-nodes : (e : Expr) (k : ℕ) (ns : List ℕ) → node_count (linear_from e k ns) ≡ node_count e + 3 * length ns
unfolding linear_from node_count
linear-from-nodes e k [] = omega arith
linear-from-nodes e k (n ∷ ns) = omega (arith, linear-from-nodes (Expr.add e (Expr.mul (pos (prod ns)) (Expr.var d k))) (suc k) ns)

linear-nodes : (ns : List ℕ) → length ns ≤ max_rank → node_count (linear ns) ≤ 17
unfolding linear node_count
linear-nodes [] l = omega arith
linear-nodes (n ∷ ns) l = omega (arith, linear-from-nodes (Expr.mul (pos (prod ns)) (Expr.var d 0)) 1 ns)

module _ (D : ℕ) (e : Expr) (h : Encodable D 0 e) where
  digits-encodable : (ns : List ℕ) → Positive ns → prod ns ≤ 2 ^ 40 → AllEncodable D 0 (digit_trees ns e)
  unfolding digit_trees Encodable
  digits-encodable [] g m = tt
  digits-encodable (n ∷ ns) g m =
      let t = tail-le n ns g.0 in
      let q = prod-positive ns g.1 in
      let p : prod ns ≤ 2 ^ 40 = omega arith in
      let r : n ≤ 2 ^ 40 = omega (arith, mul-le-mul_left n q) in
      ((g.0, (r, (q, (p, h)))), digits-encodable ns g.1 p)

  split-encodable : (ns : List ℕ) → Positive ns → prod ns ≤ 2 ^ 40 → AllEncodable D 0 (split_trees ns e)
  unfolding split_trees Encodable
  split-encodable [] g m = tt
  split-encodable (n ∷ ns) g m =
      let t = tail-le n ns g.0 in
      let p : prod ns ≤ 2 ^ 40 = omega arith in
      ((prod-positive ns g.1, (p, h)), digits-encodable ns g.1 p)

digits-nodes : (e : Expr) (ns : List ℕ) → (length (digit_trees ns e) ≡ length ns) × (length (nodes_of (digit_trees ns e)) ≡ length ns * (node_count e + 2))
unfolding digit_trees node_count
digits-nodes e [] = (refl, omega arith)
digits-nodes e (n ∷ ns) =
    let r = digits-nodes e ns in
    (ap suc r.0, omega (arith, nodes-more (Expr.op modulo (Expr.op floordiv e (prod ns)) n) (digit_trees ns e), r.1))

pub split-nodes : (e : Expr) (ns : List ℕ) → (length (split_trees ns e) ≡ length ns) × (length (nodes_of (split_trees ns e)) ≤ length ns * (node_count e + 2))
unfolding split_trees node_count
split-nodes e [] = (refl, omega arith)
split-nodes e (n ∷ ns) =
    let r = digits-nodes e ns in
    (ap suc r.0, omega (arith, nodes-more (Expr.op floordiv e (prod ns)) (digit_trees ns e), r.1))

pub reshape-fit : (src dst : List ℕ) → length src ≤ max_rank → length dst ≤ max_rank → Positive src → Positive dst → prod src ≤ 2 ^ 40 → prod dst ≤ 2 ^ 40 → Fits (reshape_map src dst)
unfolding reshape_map
reshape-fit src dst a b gs gd ms md =
    let e = whole_length src in
    let n = split-nodes (linear src) dst in
    let l = linear-nodes src a in
    let u : node_count (linear src) + 2 ≤ 19 = omega arith in
    let c : length dst * (node_count (linear src) + 2) ≤ 6 * 19 = mul-le-mul b u in
    plain-fit (length (whole_of src)) 0 (split_trees dst (linear src)) (omega arith) (omega arith) (omega arith) (omega arith)
    (split-encodable (length (whole_of src)) (linear src) (linear-encodable (length (whole_of src)) src gs ms (omega arith)) dst gd md)
