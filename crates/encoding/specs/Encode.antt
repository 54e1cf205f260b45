-- A record made of trees: bounds, results and constraints one after another, 0 past them. Assumes nothing.
use Rattle.std.specs.Prelude.{◌≡◌, Bool, true, ◌&&◌, List, [], ◌∷◌, ◌++◌, map, ℕ, ◌≤◌, min, ℤ, pos, length, take, drop, replicate}
use Rattle.std.proofs.lemmas.List.Edits.{sets}
use Rattle.integer.specs.Exact.{limit}
use Rattle.expression.specs.Expression.{Kind, Expr, node_count, Range, small_ranges}
use Rattle.expression.specs.Node.{max_variables, max_places, max_nodes}
use Rattle.expression.specs.declared.Node.{Node}
use Rattle.indexing.specs.Map.{max_results, max_constraints, good_interval}
use Rattle.indexing.specs.declared.IndexingMap.{IndexingMap}
use Rattle.folding.specs.Map.{Constraint}
use Rattle.encoding.specs.Postfix.{postfix, kind_of, value_of, Encodable}
use Rattle.encoding.specs.Written.{counted}

-- ---- the trees of a map

-- the results, then the constraints
abbrev pub trees_of : List Expr → List Constraint → List Expr
trees_of results constraints = results ++ map (λ (c : Constraint). c.expr) constraints

-- the nodes of trees, one tree after another
abbrev pub nodes_of : List Expr → List Node
nodes_of [] = []
nodes_of (e ∷ es) = postfix e ++ nodes_of es

-- ---- the arrays of a record

-- n entries: those given, as far as there is room, and z past them
abbrev pub filled : {A : Type 0} → ℕ → A → List A → List A
filled n z xs = sets (replicate n z) 0 xs

-- the bounds below the counts, of a list laid out by places
abbrev pub bounds_of : ℕ → ℕ → List ℤ → List ℤ
bounds_of dims ranges l =
    filled max_variables (pos 0) (take dims l)
    ++ (filled max_variables (pos 0) (take ranges (drop max_variables l)) ++ replicate max_variables (pos 0))

-- the record made of parts: bounds by places, numbers of nodes, ends and nodes that stand in arrays
abbrev pub record_of : ℕ → ℕ → List ℤ → List ℤ → ℕ → List ℕ → ℕ → List ℕ → List ℤ → List ℤ → List ℕ → List ℤ → IndexingMap
record_of dims ranges lower upper results counts constraints nodes lows highs kinds values =
    record {
      dims = dims;
      ranges = ranges;
      lower = bounds_of dims ranges lower;
      upper = bounds_of dims ranges upper;
      results = results;
      result_nodes = counts;
      constraints = constraints;
      constraint_nodes = nodes;
      constraint_lower = lows;
      constraint_upper = highs;
      kinds = kinds;
      values = values;
    }

-- the record made of trees
unfoldable pub encode_map : ℕ → ℕ → List ℤ → List ℤ → List Expr → List Constraint → IndexingMap
encode_map dims ranges lower upper results constraints =
    record_of dims ranges lower upper
    (length results) (filled max_results 0 (map node_count results))
    (length constraints) (filled max_constraints 0 (map (λ (c : Constraint). node_count c.expr) constraints))
    (filled max_constraints (pos 0) (map (λ (c : Constraint). c.interval.lo) constraints))
    (filled max_constraints (pos 0) (map (λ (c : Constraint). c.interval.hi) constraints))
    (filled max_nodes 0 (map kind_of (nodes_of (trees_of results constraints))))
    (filled max_nodes (pos 0) (map value_of (nodes_of (trees_of results constraints))))

-- ---- what a record gives back

abbrev pub AllEncodable : ℕ → ℕ → List Expr → Type 0
AllEncodable dims ranges [] = Unit {0}
AllEncodable dims ranges (e ∷ es) = Encodable dims ranges e × AllEncodable dims ranges es

-- counts within their limits, and trees that their nodes give back
pub record Fitting (dims ranges : ℕ) (results : List Expr) (constraints : List Constraint) : Type 0 where
  pub few-dims : dims ≤ max_variables
  pub few-ranges : ranges ≤ max_variables
  pub few-results : length results ≤ max_results
  pub few-constraints : length constraints ≤ max_constraints
  pub few-nodes : length (nodes_of (trees_of results constraints)) ≤ max_nodes
  pub encodable : AllEncodable dims ranges (trees_of results constraints)

-- a test of every one of a list
abbrev pub all_of : {A : Type 0} → (A → Bool) → List A → Bool
all_of f [] = true
all_of f (x ∷ xs) = f x && all_of f xs

-- the interval of every constraint: lower <= upper, both within +-2^62
abbrev pub intervals_good : List Constraint → Bool
intervals_good constraints = all_of (λ (c : Constraint). good_interval limit c.interval.lo c.interval.hi) constraints

-- the range of every node of every tree lies within +-2^62
abbrev pub all_small : (Kind → ℕ → Range) → List Expr → Bool
all_small β es = all_of (small_ranges β) es

-- ---- two arrays that hold the nodes of trees, and the place past them
pub record Holds (es : List Expr) (ks : List ℕ) (vs : List ℤ) (at : ℕ) : Type 0 where
  pub kinds : ks ≡ filled max_nodes 0 (map kind_of (nodes_of es))
  pub values : vs ≡ filled max_nodes (pos 0) (map value_of (nodes_of es))
  pub nodes : at ≡ min (length (nodes_of es)) counted

-- arrays that hold nothing yet: numbers of nodes of results, kinds and values
pub record Zeros (counts kinds : List ℕ) (values : List ℤ) : Type 0 where
  pub counts_zero : counts ≡ replicate max_results 0
  pub kinds-zero : kinds ≡ replicate max_nodes 0
  pub values-zero : values ≡ replicate max_nodes (pos 0)

-- numbers of nodes of constraints, and their ends
pub record ConstraintZeros (counts : List ℕ) (lower upper : List ℤ) : Type 0 where
  pub counts_zero : counts ≡ replicate max_constraints 0
  pub lower-zero : lower ≡ replicate max_constraints (pos 0)
  pub upper-zero : upper ≡ replicate max_constraints (pos 0)

-- bounds by places, and counts that keep their limits
pub record Bounded (bounds : List ℤ) (dims ranges : ℕ) : Type 0 where
  pub long : length bounds ≡ max_places
  pub few-dims : dims ≤ max_variables
  pub few-ranges : ranges ≤ max_variables
