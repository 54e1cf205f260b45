-- What a map under way means: the record of its parts, and the nodes of a tree not ended yet. Assumes nothing.
use mathlib.Core.Path.{◌≡◌, refl, sym, ap, ap₂, ◌∙◌}
use mathlib.Core.Bool.{Bool, cond}
use mathlib.Core.List.{List, [], ◌∷◌, ◌++◌, map, append_assoc, append-nil}
use Prim.Native.Nat.{ℕ, suc, ◌+◌, ◌<◌, ◌≤◌}
use native.Mathlib.Omega.{arith}
use native.Mathlib.Nat.{zero-add}
use borrow.Author.Tests.{lt-ltb}
use lib.Dec.{ltb}
use lib.IntN.{ℤ, pos}
use lib.ListN.{length, take, drop, set, replicate, length-append, length-map}
use lib.Seq.{take_at, take-length, drop_at, set-append_left}
use Rattle.expression.specs.Expression.{d, s, Expr, node_count, Range}
use Rattle.expression.specs.Node.{max_variables, max_nodes}
use Rattle.expression.specs.declared.Node.{Node}
use Rattle.indexing.specs.Map.{max_results, max_constraints}
use Rattle.indexing.specs.declared.IndexingMap.{IndexingMap}
use Rattle.folding.specs.Map.{Constraint, constraint_trees}
use Rattle.encoding.specs.Postfix.{variable_of, postfix, kind_of, value_of, no_place}
use Rattle.encoding.specs.Encode.{trees_of, nodes_of, filled, bounds_of, encode_map}
use Rattle.encoding.proofs.Lists.{map-append}
use Rattle.encoding.proofs.Filled.{filled-length, filled_is, filled_next}
use Rattle.encoding.proofs.Encoded.{nodes-append}
use Rattle.encoding.proofs.Reading.{postfix-length}
use Rattle.map_builder.specs.Raw.{Raw, lows, highs, places_of, encoded}
use Rattle.map_builder.specs.Draft.{empty_draft, add_dimension, add_range, push_node, end_result, end_constraint}
use Rattle.map_builder.specs.declared.Draft.{Draft}

-- ---- arrays

front : (ds ss : List ℤ) → length ds ≤ max_variables → take (length ds) (places_of ds ss) ≡ ds
front ds ss h =
    let rest = drop (length ds) (replicate max_variables (pos 0)) in
    ap (λ (l : List ℤ). take (length ds) (l ++ ss)) (filled_is max_variables (pos 0) ds h)
    ∙ ap (take (length ds)) (append_assoc ds rest ss)
    ∙ take_at ds (rest ++ ss) (length ds) refl

-- bounds by their places
abbrev pub lay_out : List ℤ → List ℤ → List ℤ
lay_out ds ss = filled max_variables (pos 0) ds ++ (filled max_variables (pos 0) ss ++ replicate max_variables (pos 0))

places-bounds : (ds ss : List ℤ) (n m : ℕ) → n ≡ length ds → m ≡ length ss → length ds ≤ max_variables → lay_out ds ss ≡ bounds_of n m (places_of ds ss)
places-bounds ds ss n m e f h =
    ap₂ (λ (x y : List ℤ). filled max_variables (pos 0) x ++ (filled max_variables (pos 0) y ++ replicate max_variables (pos 0)))
    (sym (ap (λ (k : ℕ). take k (places_of ds ss)) e ∙ front ds ss h))
    (sym (ap₂ take f (drop_at (filled max_variables (pos 0) ds) ss max_variables (filled-length max_variables (pos 0) ds)) ∙ take-length ss))

layout-next : (ds ss : List ℤ) (n : ℕ) (z : ℤ) → n ≡ length ds → n < max_variables → set (lay_out ds ss) n z ≡ lay_out (ds ++ (z ∷ [])) ss
layout-next ds ss n z e h =
    let rest = filled max_variables (pos 0) ss ++ replicate max_variables (pos 0) in
    set-append_left (filled max_variables (pos 0) ds) rest n z (omega (arith, filled-length max_variables (pos 0) ds))
    ∙ ap (λ (l : List ℤ). l ++ rest) (ap (λ (k : ℕ). set (filled max_variables (pos 0) ds) k z) e ∙ sym (filled_next max_variables (pos 0) ds z))

array-next : {A B : Type 0} (f : A → B) (n : ℕ) (z : B) (xs : List A) (x : A) (v : B) (k : ℕ) → v ≡ f x → k ≡ length xs
    → set (filled n z (map f xs)) k v ≡ filled n z (map f (xs ++ (x ∷ [])))
array-next {A} {B} f n z xs x v k e h =
    ap₂ (set (filled n z (map f xs))) (h ∙ sym (length-map xs f)) e
    ∙ sym (filled_next n z (map f xs) (f x))
    ∙ ap (filled n z) (sym (map-append f xs (x ∷ [])))

-- ---- a draft: the parts of a map, and the nodes of a tree under way

abbrev map_with : ℕ → ℕ → List ℤ → List ℤ → ℕ → List ℕ → List Constraint → List ℕ → List ℤ → IndexingMap
map_with dims ranges lower upper results counts cs kinds values =
    record {
      dims = dims;
      ranges = ranges;
      lower = lower;
      upper = upper;
      results = results;
      result_nodes = counts;
      constraints = length cs;
      constraint_nodes = filled max_constraints 0 (map (λ (c : Constraint). node_count c.expr) cs);
      constraint_lower = filled max_constraints (pos 0) (map (λ (c : Constraint). c.interval.lo) cs);
      constraint_upper = filled max_constraints (pos 0) (map (λ (c : Constraint). c.interval.hi) cs);
      kinds = kinds;
      values = values;
    }

abbrev all_nodes : Raw → List Node → List Node
all_nodes x ns = nodes_of (trees_of x.results x.constraints) ++ ns

abbrev map_of : Raw → List Node → IndexingMap
map_of x ns =
    map_with (length x.dims) (length x.ranges) (lay_out (lows x.dims) (lows x.ranges)) (lay_out (highs x.dims) (highs x.ranges))
    (length x.results) (filled max_results 0 (map node_count x.results)) x.constraints
    (filled max_nodes 0 (map kind_of (all_nodes x ns))) (filled max_nodes (pos 0) (map value_of (all_nodes x ns)))

pub record Drafted (x : Raw) (ns : List Node) (y : Draft) : Type 0 where
  pub map : y.map ≡ map_of x ns
  pub at : y.at ≡ length (all_nodes x ns)
  pub under : y.under ≡ length ns

-- with no tree under way it is the record
pub drafted-encoded : (x : Raw) (y : Draft) → length x.dims ≤ max_variables → Drafted x [] y → y.map ≡ encoded x
unfolding encoded encode_map
drafted-encoded x y h w =
    let n : length x.dims ≡ length (lows x.dims) = sym (length-map x.dims (λ (r : Range). r.lo)) in
    let m : length x.ranges ≡ length (lows x.ranges) = sym (length-map x.ranges (λ (r : Range). r.lo)) in
    let n' : length x.dims ≡ length (highs x.dims) = sym (length-map x.dims (λ (r : Range). r.hi)) in
    let m' : length x.ranges ≡ length (highs x.ranges) = sym (length-map x.ranges (λ (r : Range). r.hi)) in
    w.map
    ∙ ap₂ (λ (lo hi : List ℤ). map_with (length x.dims) (length x.ranges) lo hi (length x.results) (filled max_results 0 (map node_count x.results)) x.constraints
    (filled max_nodes 0 (map kind_of (all_nodes x []))) (filled max_nodes (pos 0) (map value_of (all_nodes x []))))
    (places-bounds (lows x.dims) (lows x.ranges) (length x.dims) (length x.ranges) n m (omega arith))
    (places-bounds (highs x.dims) (highs x.ranges) (length x.dims) (length x.ranges) n' m' (omega arith))
    ∙ ap (λ (l : List Node).
    map_with (length x.dims) (length x.ranges) (bounds_of (length x.dims) (length x.ranges) (places_of (lows x.dims) (lows x.ranges))) (bounds_of (length x.dims) (length x.ranges) (places_of (highs x.dims) (highs x.ranges))) (length x.results) (filled max_results 0 (map node_count x.results)) x.constraints
    (filled max_nodes 0 (map kind_of l)) (filled max_nodes (pos 0) (map value_of l)))
    (append-nil (nodes_of (trees_of x.results x.constraints)))

abbrev pub no_raw : Raw
no_raw = record { dims = []; ranges = []; results = []; constraints = [] }

pub empty-drafted : Drafted no_raw [] empty_draft
empty-drafted = record { map = refl; at = refl; under = refl }

-- one dimension more
abbrev pub with_dimension : Raw → Range → Raw
with_dimension x r = record { dims = x.dims ++ (r ∷ []); ranges = x.ranges; results = x.results; constraints = x.constraints }

pub dimension-drafted : (x : Raw) (ns : List Node) (y : Draft) (r : Range) → length x.dims < max_variables → Drafted x ns y → Drafted (with_dimension x r) ns (add_dimension y r.lo r.hi)
dimension-drafted x ns y r h w = record { map = whole; at = w.at; under = w.under }
  where
    lo-next : set (lay_out (lows x.dims) (lows x.ranges)) (length x.dims) r.lo ≡ lay_out (lows (x.dims ++ (r ∷ []))) (lows x.ranges)
    lo-next =
        layout-next (lows x.dims) (lows x.ranges) (length x.dims) r.lo (sym (length-map x.dims (λ (r : Range). r.lo))) h
        ∙ ap (λ (l : List ℤ). lay_out l (lows x.ranges)) (sym (map-append (λ (r : Range). r.lo) x.dims (r ∷ [])))

    hi-next : set (lay_out (highs x.dims) (highs x.ranges)) (length x.dims) r.hi ≡ lay_out (highs (x.dims ++ (r ∷ []))) (highs x.ranges)
    hi-next =
        layout-next (highs x.dims) (highs x.ranges) (length x.dims) r.hi (sym (length-map x.dims (λ (r : Range). r.hi))) h
        ∙ ap (λ (l : List ℤ). lay_out l (highs x.ranges)) (sym (map-append (λ (r : Range). r.hi) x.dims (r ∷ [])))

    whole : (add_dimension y r.lo r.hi).map ≡ map_of (with_dimension x r) ns
    whole =
        ap (λ (m : IndexingMap). (add_dimension (record { map = m; at = y.at; under = y.under }) r.lo r.hi).map) w.map
        ∙ ap₂ (λ (lo hi : List ℤ). map_with (length x.dims + 1) (length x.ranges) lo hi (length x.results) (filled max_results 0 (map node_count x.results)) x.constraints
        (filled max_nodes 0 (map kind_of (all_nodes x ns))) (filled max_nodes (pos 0) (map value_of (all_nodes x ns)))) lo-next hi-next
        ∙ ap (λ (n : ℕ). map_with n (length x.ranges) (lay_out (lows (x.dims ++ (r ∷ []))) (lows x.ranges)) (lay_out (highs (x.dims ++ (r ∷ []))) (highs x.ranges)) (length x.results) (filled max_results 0 (map node_count x.results)) x.constraints
        (filled max_nodes 0 (map kind_of (all_nodes x ns))) (filled max_nodes (pos 0) (map value_of (all_nodes x ns)))) (sym (length-append x.dims (r ∷ [])))

-- one node more
pub node-drafted : (x : Raw) (ns : List Node) (y : Draft) (n : Node) (kind : ℕ) (value : ℤ) → kind ≡ kind_of n → value ≡ value_of n → Drafted x ns y → Drafted x (ns ++ (n ∷ [])) (push_node y kind value)
node-drafted x ns y n kind value ek ev w = record { map = whole; at = places; under = ap (λ (k : ℕ). k + 1) w.under ∙ sym (length-append ns (n ∷ [])) }
  where
    more : all_nodes x ns ++ (n ∷ []) ≡ all_nodes x (ns ++ (n ∷ []))
    more = append_assoc (nodes_of (trees_of x.results x.constraints)) ns (n ∷ [])

    places : y.at + 1 ≡ length (all_nodes x (ns ++ (n ∷ [])))
    places = ap (λ (k : ℕ). k + 1) w.at ∙ sym (length-append (all_nodes x ns) (n ∷ [])) ∙ ap length more

    whole : (push_node y kind value).map ≡ map_of x (ns ++ (n ∷ []))
    whole =
        ap (λ (m : IndexingMap). (push_node (record { map = m; at = y.at; under = y.under }) kind value).map) w.map
        ∙ ap₂ (λ (ks : List ℕ) (vs : List ℤ). map_with (length x.dims) (length x.ranges) (lay_out (lows x.dims) (lows x.ranges)) (lay_out (highs x.dims) (highs x.ranges)) (length x.results) (filled max_results 0 (map node_count x.results)) x.constraints ks vs)
        (array-next kind_of max_nodes 0 (all_nodes x ns) n kind y.at ek w.at ∙ ap (λ (l : List Node). filled max_nodes 0 (map kind_of l)) more)
        (array-next value_of max_nodes (pos 0) (all_nodes x ns) n value y.at ev w.at ∙ ap (λ (l : List Node). filled max_nodes (pos 0) (map value_of l)) more)

-- the tree under way is the next result; there are no constraints yet
abbrev pub with_result : Raw → Expr → Raw
with_result x e = record { dims = x.dims; ranges = x.ranges; results = x.results ++ (e ∷ []); constraints = [] }

pub result-drafted : (x : Raw) (y : Draft) (e : Expr) → x.constraints ≡ [] → Drafted x (postfix e) y → Drafted (with_result x e) [] (end_result y)
result-drafted x y e c w = record { map = whole; at = w.at ∙ ap length ended; under = refl }
  where
    trees : (cs : List Constraint) → cs ≡ [] → trees_of x.results cs ≡ x.results
    trees cs q = ap (trees_of x.results) q ∙ append-nil x.results

    ended : all_nodes x (postfix e) ≡ all_nodes (with_result x e) []
    ended =
        ap (λ (l : List Expr). nodes_of l ++ postfix e) (trees x.constraints c)
        ∙ sym
        (append-nil (nodes_of ((x.results ++ (e ∷ [])) ++ []))
        ∙ ap nodes_of (append-nil (x.results ++ (e ∷ [])))
        ∙ nodes-append x.results (e ∷ [])
        ∙ ap (λ (l : List Node). nodes_of x.results ++ l) (append-nil (postfix e)))

    whole : (end_result y).map ≡ map_of (with_result x e) []
    whole =
        ap (λ (m : IndexingMap). (end_result (record { map = m; at = y.at; under = y.under })).map) w.map
        ∙ ap₂ (λ (n : ℕ) (counts : List ℕ). map_with (length x.dims) (length x.ranges) (lay_out (lows x.dims) (lows x.ranges)) (lay_out (highs x.dims) (highs x.ranges)) n counts x.constraints
        (filled max_nodes 0 (map kind_of (all_nodes x (postfix e)))) (filled max_nodes (pos 0) (map value_of (all_nodes x (postfix e)))))
        (sym (length-append x.results (e ∷ [])))
        (array-next node_count max_results 0 x.results e y.under (length x.results) (w.under ∙ postfix-length e) refl)
        ∙ ap₂ (λ (cs : List Constraint) (l : List Node). map_with (length x.dims) (length x.ranges) (lay_out (lows x.dims) (lows x.ranges)) (lay_out (highs x.dims) (highs x.ranges)) (length (x.results ++ (e ∷ []))) (filled max_results 0 (map node_count (x.results ++ (e ∷ [])))) cs
        (filled max_nodes 0 (map kind_of l)) (filled max_nodes (pos 0) (map value_of l))) c ended

-- one range variable more
set-right : {A : Type 0} (xs ys : List A) (k : ℕ) (v : A) → set (xs ++ ys) (length xs + k) v ≡ xs ++ set ys k v
set-right {A} [] ys k v = ap (λ (i : ℕ). set ys i v) (zero-add k)
set-right {A} (x ∷ xs) ys k v =
    let q : suc (length xs) + k ≡ suc (length xs + k) = omega arith in
    ap (λ (i : ℕ). set (x ∷ (xs ++ ys)) i v) q ∙ ap (λ (l : List A). x ∷ l) (set-right xs ys k v)

layout-range : (ds ss : List ℤ) (n : ℕ) (z : ℤ) → n ≡ length ss → n < max_variables → set (lay_out ds ss) (max_variables + n) z ≡ lay_out ds (ss ++ (z ∷ []))
layout-range ds ss n z e h =
    let front = filled max_variables (pos 0) ds in
    let rest = replicate max_variables (pos 0) in
    ap (λ (k : ℕ). set (lay_out ds ss) (k + n) z) (sym (filled-length max_variables (pos 0) ds))
    ∙ set-right front (filled max_variables (pos 0) ss ++ rest) n z
    ∙ ap (λ (l : List ℤ). front ++ l)
    (set-append_left (filled max_variables (pos 0) ss) rest n z (omega (arith, filled-length max_variables (pos 0) ss))
    ∙ ap (λ (l : List ℤ). l ++ rest) (ap (λ (k : ℕ). set (filled max_variables (pos 0) ss) k z) e ∙ sym (filled_next max_variables (pos 0) ss z)))

abbrev pub with_range : Raw → Range → Raw
with_range x r = record { dims = x.dims; ranges = x.ranges ++ (r ∷ []); results = x.results; constraints = x.constraints }

pub range-drafted : (x : Raw) (ns : List Node) (y : Draft) (r : Range) → length x.ranges < max_variables → Drafted x ns y → Drafted (with_range x r) ns (add_range y r.lo r.hi)
range-drafted x ns y r h w = record { map = whole; at = w.at; under = w.under }
  where
    lo-next : set (lay_out (lows x.dims) (lows x.ranges)) (max_variables + length x.ranges) r.lo ≡ lay_out (lows x.dims) (lows (x.ranges ++ (r ∷ [])))
    lo-next =
        layout-range (lows x.dims) (lows x.ranges) (length x.ranges) r.lo (sym (length-map x.ranges (λ (r : Range). r.lo))) h
        ∙ ap (lay_out (lows x.dims)) (sym (map-append (λ (r : Range). r.lo) x.ranges (r ∷ [])))

    hi-next : set (lay_out (highs x.dims) (highs x.ranges)) (max_variables + length x.ranges) r.hi ≡ lay_out (highs x.dims) (highs (x.ranges ++ (r ∷ [])))
    hi-next =
        layout-range (highs x.dims) (highs x.ranges) (length x.ranges) r.hi (sym (length-map x.ranges (λ (r : Range). r.hi))) h
        ∙ ap (lay_out (highs x.dims)) (sym (map-append (λ (r : Range). r.hi) x.ranges (r ∷ [])))

    whole : (add_range y r.lo r.hi).map ≡ map_of (with_range x r) ns
    whole =
        ap (λ (m : IndexingMap). (add_range (record { map = m; at = y.at; under = y.under }) r.lo r.hi).map) w.map
        ∙ ap₂ (λ (lo hi : List ℤ). map_with (length x.dims) (length x.ranges + 1) lo hi (length x.results) (filled max_results 0 (map node_count x.results)) x.constraints
        (filled max_nodes 0 (map kind_of (all_nodes x ns))) (filled max_nodes (pos 0) (map value_of (all_nodes x ns)))) lo-next hi-next
        ∙ ap (λ (n : ℕ). map_with (length x.dims) n (lay_out (lows x.dims) (lows (x.ranges ++ (r ∷ [])))) (lay_out (highs x.dims) (highs (x.ranges ++ (r ∷ [])))) (length x.results) (filled max_results 0 (map node_count x.results)) x.constraints
        (filled max_nodes 0 (map kind_of (all_nodes x ns))) (filled max_nodes (pos 0) (map value_of (all_nodes x ns)))) (sym (length-append x.ranges (r ∷ [])))

-- the tree under way is the next constraint
abbrev pub with_constraint : Raw → Constraint → Raw
with_constraint x c = record { dims = x.dims; ranges = x.ranges; results = x.results; constraints = x.constraints ++ (c ∷ []) }

abbrev constrained : Raw → ℕ → List ℕ → List ℤ → List ℤ → List Node → IndexingMap
constrained x n counts los his l =
    record {
      dims = length x.dims;
      ranges = length x.ranges;
      lower = lay_out (lows x.dims) (lows x.ranges);
      upper = lay_out (highs x.dims) (highs x.ranges);
      results = length x.results;
      result_nodes = filled max_results 0 (map node_count x.results);
      constraints = n;
      constraint_nodes = counts;
      constraint_lower = los;
      constraint_upper = his;
      kinds = filled max_nodes 0 (map kind_of l);
      values = filled max_nodes (pos 0) (map value_of l);
    }

abbrev counts_of : List Constraint → List ℕ
counts_of cs = filled max_constraints 0 (map (λ (c : Constraint). node_count c.expr) cs)

pub constraint-drafted : (x : Raw) (y : Draft) (c : Constraint) → Drafted x (postfix c.expr) y → Drafted (with_constraint x c) [] (end_constraint y c.interval.lo c.interval.hi)
constraint-drafted x y c w = record { map = whole; at = w.at ∙ ap length ended; under = refl }
  where
    trees : trees_of x.results (x.constraints ++ (c ∷ [])) ≡ trees_of x.results x.constraints ++ (c.expr ∷ [])
    trees =
        ap (λ (l : List Expr). x.results ++ l) (map-append (λ (c : Constraint). c.expr) x.constraints (c ∷ []))
        ∙ sym (append_assoc x.results (constraint_trees x.constraints) (c.expr ∷ []))

    ended : all_nodes x (postfix c.expr) ≡ all_nodes (with_constraint x c) []
    ended =
        sym
        (append-nil (nodes_of (trees_of x.results (x.constraints ++ (c ∷ []))))
        ∙ ap nodes_of trees
        ∙ nodes-append (trees_of x.results x.constraints) (c.expr ∷ [])
        ∙ ap (λ (l : List Node). nodes_of (trees_of x.results x.constraints) ++ l) (append-nil (postfix c.expr)))

    whole : (end_constraint y c.interval.lo c.interval.hi).map ≡ map_of (with_constraint x c) []
    whole =
        ap (λ (m : IndexingMap). (end_constraint (record { map = m; at = y.at; under = y.under }) c.interval.lo c.interval.hi).map) w.map
        ∙ ap₂ (λ (n : ℕ) (counts : List ℕ). constrained x n counts
        (set (filled max_constraints (pos 0) (map (λ (c : Constraint). c.interval.lo) x.constraints)) (length x.constraints) c.interval.lo)
        (set (filled max_constraints (pos 0) (map (λ (c : Constraint). c.interval.hi) x.constraints)) (length x.constraints) c.interval.hi) (all_nodes x (postfix c.expr)))
        (sym (length-append x.constraints (c ∷ [])))
        (array-next (λ (c : Constraint). node_count c.expr) max_constraints 0 x.constraints c y.under (length x.constraints) (w.under ∙ postfix-length c.expr) refl)
        ∙ ap₂ (λ (los his : List ℤ). constrained x (length (x.constraints ++ (c ∷ []))) (counts_of (x.constraints ++ (c ∷ []))) los his (all_nodes x (postfix c.expr)))
        (array-next (λ (c : Constraint). c.interval.lo) max_constraints (pos 0) x.constraints c c.interval.lo (length x.constraints) refl refl)
        (array-next (λ (c : Constraint). c.interval.hi) max_constraints (pos 0) x.constraints c c.interval.hi (length x.constraints) refl refl)
        ∙ ap (constrained x (length (x.constraints ++ (c ∷ []))) (counts_of (x.constraints ++ (c ∷ [])))
        (filled max_constraints (pos 0) (map (λ (c : Constraint). c.interval.lo) (x.constraints ++ (c ∷ []))))
        (filled max_constraints (pos 0) (map (λ (c : Constraint). c.interval.hi) (x.constraints ++ (c ∷ []))))) ended

-- ---- the values of variables

pub variable-value : (k : ℕ) → k < max_variables → pos k ≡ value_of (variable_of d k)
variable-value k h = ap (λ (b : Bool). pos (cond b k no_place)) (sym (lt-ltb k max_variables h)) ∙ ap (λ (n : ℕ). pos (cond (ltb k max_variables) n no_place)) (sym (zero-add k))

pub range-value : (k : ℕ) → k < max_variables → pos (max_variables + k) ≡ value_of (variable_of s k)
range-value k h = ap (λ (b : Bool). pos (cond b (max_variables + k) no_place)) (sym (lt-ltb k max_variables h))
