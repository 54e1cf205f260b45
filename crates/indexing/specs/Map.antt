-- Indexing maps: what a record holds, the rules of its parts, its domain, and the ranges and values of its results. Assumes nothing.
use Rattle.std.specs.Prelude.{◌≡◌, Bool, true, cond, ◌&&◌, List, ℕ, zero, suc, ◌+◌, ◌-◌, ◌^◌, ◌<◌, min, leb, ltb, eqb, ℤ, pos, nat_abs, length, get_or, Option}
use Rattle.std.specs.Int.Signed.{le_z}
use Rattle.integer.specs.Exact.{limit}
use Rattle.radix.specs.Radix.{every}
use Rattle.expression.specs.Expression.{In, span}
use Rattle.expression.specs.Node.{max_variables, max_nodes, node_of, nodes_at}
use Rattle.expression.specs.Decode.{Tree, decode, is_tree}
use Rattle.expression.specs.Value.{tree_value}
use Rattle.expression.specs.Reckon.{range_in, is_kept}
use Rattle.expression.specs.declared.Node.{Node}
use Rattle.indexing.specs.declared.IndexingMap.{IndexingMap}

-- the most results and constraints, and the largest magnitude of a variable's bound
abbrev pub max_results : ℕ
max_results = 8

abbrev pub max_constraints : ℕ
max_constraints = 32

abbrev pub max_bound : ℕ
max_bound = 2 ^ 40

-- ---- the rules of number 2

-- an interval: lower <= upper, both within most
abbrev pub good_interval : ℕ → ℤ → ℤ → Bool
good_interval most a b = le_z a b && (leb (nat_abs a) most && leb (nat_abs b) most)

-- the interval at place i of the two lists of ends
abbrev pub good_ends_at : ℕ → List ℤ → List ℤ → ℕ → Bool
good_ends_at most los his i = good_interval most (get_or los i (pos 0)) (get_or his i (pos 0))

-- n intervals, from place i on
unfoldable pub good_intervals : ℕ → List ℤ → List ℤ → ℕ → ℕ → Bool
good_intervals most los his i n = every (λ (k : ℕ). good_ends_at most los his (i + k)) n

-- runs stand one after another: where run i starts, by the number of nodes of each
unfoldable pub start_of : (ℕ → ℕ) → ℕ → ℕ
start_of count zero = 0
start_of count (suc i) = start_of count i + count i

-- the number of nodes of run i: of n results first, then of constraints
unfoldable pub count_in : List ℕ → List ℕ → ℕ → ℕ → ℕ
count_in results constraints n i = cond (ltb i n) (get_or results i 0) (get_or constraints (i - n) 0)

-- ---- what a record holds

-- the results and the constraints that it holds, and the runs of both
abbrev pub held_results : IndexingMap → ℕ
held_results m = min m.results max_results

abbrev pub held_constraints : IndexingMap → ℕ
held_constraints m = min m.constraints max_constraints

abbrev pub runs : IndexingMap → ℕ
runs m = held_results m + held_constraints m

-- the number of nodes of run i: those of the results held first, then those of the constraints held
abbrev pub count_of : IndexingMap → ℕ → ℕ
count_of m = count_in m.result_nodes m.constraint_nodes (held_results m)

-- the tree that run i is
unfoldable pub tree_at : IndexingMap → ℕ → Tree
tree_at m i = decode (nodes_at m.dims m.ranges m.kinds m.values (start_of (count_of m) i) (count_of m i))

-- run i lies wholly inside the places of the nodes
abbrev pub is_held : IndexingMap → ℕ → Bool
is_held m i = leb (start_of (count_of m) (suc i)) max_nodes

-- ---- the rules of a map

-- the bounds of the variables held
unfoldable pub good_bounds : IndexingMap → Bool
good_bounds m =
    good_intervals max_bound m.lower m.upper 0 (min m.dims max_variables)
    && good_intervals max_bound m.lower m.upper max_variables (min m.ranges max_variables)

-- the ends of the constraints held
unfoldable pub good_ends : IndexingMap → Bool
good_ends m = good_intervals limit m.constraint_lower m.constraint_upper 0 (held_constraints m)

-- a run that lies wholly inside is one tree; one that is cut off is not judged
abbrev pub good_tree : IndexingMap → ℕ → Bool
good_tree m i = cond (is_held m i) (is_tree (tree_at m i)) true

unfoldable pub good_trees : IndexingMap → Bool
good_trees m = every (good_tree m) (runs m)

-- number 2: the bounds, the ends and the trees
unfoldable pub good_parts : IndexingMap → Bool
good_parts m = good_bounds m && (good_ends m && good_trees m)

-- number 7: no count passes its limit
unfoldable pub good_counts : IndexingMap → Bool
good_counts m =
    leb m.dims max_variables
    && (leb m.ranges max_variables
    && (leb m.results max_results
    && (leb m.constraints max_constraints
    && leb (start_of (count_of m) (runs m)) max_nodes)))

-- the reckoned range of run i
abbrev pub range_at : IndexingMap → ℕ → Option (ℤ × ℤ)
range_at m i = range_in m.lower m.upper (tree_at m i)

abbrev pub kept_at : IndexingMap → ℕ → Bool
kept_at m i = is_kept (range_at m i)

-- number 8: every node's range lies within +-2^62
unfoldable pub good_ranges : IndexingMap → Bool
good_ranges m = every (kept_at m) (runs m)

-- ---- a point: the values ds of the dimensions and ss of the range variables

-- a value for each of them, and no more
abbrev pub right_length : IndexingMap → List ℤ → List ℤ → Bool
right_length m ds ss = eqb (length ds) m.dims && eqb (length ss) m.ranges

-- the value of run i
abbrev pub value_at : IndexingMap → List ℤ → List ℤ → ℕ → ℤ
value_at m ds ss i = tree_value ds ss (tree_at m i)

-- z lies in [a, b]
abbrev pub is_in : ℤ → ℤ → ℤ → Bool
is_in z a b = le_z a z && le_z z b

-- value k lies in the interval at place i + k of the two lists of ends
abbrev pub in_at : List ℤ → List ℤ → List ℤ → ℕ → ℕ → Bool
in_at zs los his i k = is_in (get_or zs k (pos 0)) (get_or los (i + k) (pos 0)) (get_or his (i + k) (pos 0))

-- n values lie in their intervals
unfoldable pub are_in : List ℤ → List ℤ → List ℤ → ℕ → ℕ → Bool
are_in zs los his i n = every (in_at zs los his i) n

-- inside the bounds
unfoldable pub in_bounds : IndexingMap → List ℤ → List ℤ → Bool
in_bounds m ds ss = are_in ds m.lower m.upper 0 m.dims && are_in ss m.lower m.upper max_variables m.ranges

-- constraint k holds
abbrev pub holds_at : IndexingMap → List ℤ → List ℤ → ℕ → Bool
holds_at m ds ss k =
    is_in (value_at m ds ss (m.results + k)) (get_or m.constraint_lower k (pos 0)) (get_or m.constraint_upper k (pos 0))

-- all constraints hold
unfoldable pub all_hold : IndexingMap → List ℤ → List ℤ → Bool
all_hold m ds ss = every (holds_at m ds ss) m.constraints

-- in the domain: of the right length, inside the bounds, and all constraints hold
unfoldable pub in_domain : IndexingMap → List ℤ → List ℤ → Bool
in_domain m ds ss = right_length m ds ss && (in_bounds m ds ss && all_hold m ds ss)

-- the same as a fact: a value for each variable, inside its bounds, and every constraint's value inside its interval
pub record Domain (m : IndexingMap) (ds ss : List ℤ) : Type 0 where
  pub long-dims : length ds ≡ m.dims
  pub long-ranges : length ss ≡ m.ranges
  pub dims : (n : ℕ) → n < m.dims → In (get_or ds n (pos 0)) (span (get_or m.lower n (pos 0)) (get_or m.upper n (pos 0)))
  pub ranges : (n : ℕ) → n < m.ranges
      → In (get_or ss n (pos 0)) (span (get_or m.lower (max_variables + n) (pos 0)) (get_or m.upper (max_variables + n) (pos 0)))
  pub holds : (k : ℕ) → k < m.constraints
      → In (value_at m ds ss (m.results + k)) (span (get_or m.constraint_lower k (pos 0)) (get_or m.constraint_upper k (pos 0)))

-- ---- what is read of a record

-- the same interval at place i of two pairs of lists
abbrev pub SameAt : List ℤ → List ℤ → List ℤ → List ℤ → ℕ → Type 0
SameAt los his los' his' i = (get_or los i (pos 0) ≡ get_or los' i (pos 0)) × (get_or his i (pos 0) ≡ get_or his' i (pos 0))

-- the node at a place
abbrev pub node_at : IndexingMap → ℕ → Node
node_at m p = node_of m.dims m.ranges (get_or m.kinds p 0) (get_or m.values p (pos 0))

-- two records with the same counts that agree in what they hold below them: bounds, ends, numbers of nodes, and nodes
pub record Alike (m n : IndexingMap) : Type 0 where
  pub dims : m.dims ≡ n.dims
  pub ranges : m.ranges ≡ n.ranges
  pub results : m.results ≡ n.results
  pub constraints : m.constraints ≡ n.constraints
  pub dimension : (k : ℕ) → k < min m.dims max_variables → SameAt m.lower m.upper n.lower n.upper k
  pub range : (k : ℕ) → k < min m.ranges max_variables → SameAt m.lower m.upper n.lower n.upper (max_variables + k)
  pub ends : (k : ℕ) → k < held_constraints m
      → SameAt m.constraint_lower m.constraint_upper n.constraint_lower n.constraint_upper k
  pub counts : (i : ℕ) → i < runs m → count_of m i ≡ count_of n i
  pub nodes : (p : ℕ) → p < start_of (count_of m) (runs m) → p < max_nodes → node_at m p ≡ node_at n p
