-- A map made step by step: variables, nodes, results and constraints. Assumes nothing.
use Rattle.std.specs.Prelude.{◌≡◌, cond, List, [], ◌∷◌, ℕ, zero, suc, ◌+◌, ◌-◌, ◌*◌, ◌<◌, ◌≤◌, eqb, ℤ, pos, length, get_or, set}
use Rattle.radix.specs.Radix.{max_size, max_count, prod, Bounded}
use Rattle.expression.specs.Node.{max_variables, max_nodes}
use Rattle.indexing.specs.Map.{max_results}
use Rattle.indexing.specs.Answers.{no_map}
use Rattle.map_builder.specs.declared.Draft.{Draft}

-- ---- the steps

-- nothing yet
abbrev pub empty_draft : Draft
empty_draft = record { map = no_map; at = 0; under = 0 }

-- one more dimension, from lo to hi
abbrev pub add_dimension : Draft → ℤ → ℤ → Draft
add_dimension x lo hi =
    record {
      map =
          record {
            dims = x.map.dims + 1;
            ranges = x.map.ranges;
            lower = set x.map.lower x.map.dims lo;
            upper = set x.map.upper x.map.dims hi;
            results = x.map.results;
            result_nodes = x.map.result_nodes;
            constraints = x.map.constraints;
            constraint_nodes = x.map.constraint_nodes;
            constraint_lower = x.map.constraint_lower;
            constraint_upper = x.map.constraint_upper;
            kinds = x.map.kinds;
            values = x.map.values;
          };
      at = x.at;
      under = x.under;
    }

-- one more range variable
abbrev pub add_range : Draft → ℤ → ℤ → Draft
add_range x lo hi =
    record {
      map =
          record {
            dims = x.map.dims;
            ranges = x.map.ranges + 1;
            lower = set x.map.lower (max_variables + x.map.ranges) lo;
            upper = set x.map.upper (max_variables + x.map.ranges) hi;
            results = x.map.results;
            result_nodes = x.map.result_nodes;
            constraints = x.map.constraints;
            constraint_nodes = x.map.constraint_nodes;
            constraint_lower = x.map.constraint_lower;
            constraint_upper = x.map.constraint_upper;
            kinds = x.map.kinds;
            values = x.map.values;
          };
      at = x.at;
      under = x.under;
    }

-- one more node of the tree under way
abbrev pub push_node : Draft → ℕ → ℤ → Draft
push_node x kind value =
    record {
      map =
          record {
            dims = x.map.dims;
            ranges = x.map.ranges;
            lower = x.map.lower;
            upper = x.map.upper;
            results = x.map.results;
            result_nodes = x.map.result_nodes;
            constraints = x.map.constraints;
            constraint_nodes = x.map.constraint_nodes;
            constraint_lower = x.map.constraint_lower;
            constraint_upper = x.map.constraint_upper;
            kinds = set x.map.kinds x.at kind;
            values = set x.map.values x.at value;
          };
      at = x.at + 1;
      under = x.under + 1;
    }

-- a variable by its place: a dimension, or a range variable from 8 on
abbrev pub push_variable : Draft → ℕ → Draft
push_variable x place = push_node x 0 (pos place)

abbrev pub push_constant : Draft → ℤ → Draft
push_constant x value = push_node x 1 value

-- the sum of the last two trees
abbrev pub push_sum : Draft → Draft
push_sum x = push_node x 2 (pos 0)

-- the last tree times a factor, divided by a divisor, and its remainder
abbrev pub push_product : Draft → ℤ → Draft
push_product x factor = push_node x 3 factor

abbrev pub push_floordiv : Draft → ℕ → Draft
push_floordiv x divisor = push_node x 4 (pos divisor)

abbrev pub push_mod : Draft → ℕ → Draft
push_mod x divisor = push_node x 5 (pos divisor)

-- d_k + by, and d_k * factor + by
abbrev pub push_shifted : Draft → ℕ → ℤ → Draft
push_shifted x k by = push_sum (push_constant (push_variable x k) by)

abbrev pub push_affine : Draft → ℕ → ℤ → ℤ → Draft
push_affine x k factor by = push_sum (push_constant (push_product (push_variable x k) factor) by)

-- the tree under way is the next result
abbrev pub end_result : Draft → Draft
end_result x =
    record {
      map =
          record {
            dims = x.map.dims;
            ranges = x.map.ranges;
            lower = x.map.lower;
            upper = x.map.upper;
            results = x.map.results + 1;
            result_nodes = set x.map.result_nodes x.map.results x.under;
            constraints = x.map.constraints;
            constraint_nodes = x.map.constraint_nodes;
            constraint_lower = x.map.constraint_lower;
            constraint_upper = x.map.constraint_upper;
            kinds = x.map.kinds;
            values = x.map.values;
          };
      at = x.at;
      under = 0;
    }

-- the tree under way is the next constraint, from lo to hi
abbrev pub end_constraint : Draft → ℤ → ℤ → Draft
end_constraint x lo hi =
    record {
      map =
          record {
            dims = x.map.dims;
            ranges = x.map.ranges;
            lower = x.map.lower;
            upper = x.map.upper;
            results = x.map.results;
            result_nodes = x.map.result_nodes;
            constraints = x.map.constraints + 1;
            constraint_nodes = set x.map.constraint_nodes x.map.constraints x.under;
            constraint_lower = set x.map.constraint_lower x.map.constraints lo;
            constraint_upper = set x.map.constraint_upper x.map.constraints hi;
            kinds = x.map.kinds;
            values = x.map.values;
          };
      at = x.at;
      under = 0;
    }

-- ---- one step after another

-- step i for i below n
unfoldable pub steps : (ℕ → Draft → Draft) → ℕ → Draft → Draft
steps f zero x = x
steps f (suc n) x = f n (steps f n x)

-- the dimension of size k of a shape
abbrev pub add_size : List ℕ → ℕ → Draft → Draft
add_size ns k x = add_dimension x (pos 0) (pos (get_or ns k 0 - 1))

-- the dimension of the size at place k of a list
abbrev pub add_selected : List ℕ → List ℕ → ℕ → Draft → Draft
add_selected ns l k x = add_dimension x (pos 0) (pos (get_or ns (get_or l k 0) 0 - 1))

-- the result that is the dimension at place k of a list
abbrev pub add_variable : List ℕ → ℕ → Draft → Draft
add_variable l k x = end_result (push_variable x (get_or l k 0))

-- one term of the linear index: the variable times the product after it, added to what stands before it
abbrev pub push_term : Draft → ℕ → ℕ → Draft
push_term x k factor =
    cond (eqb k 0) (push_product (push_variable x k) (pos factor)) (push_sum (push_product (push_variable x k) (pos factor)))

unfoldable pub push_terms : ℕ → List ℕ → Draft → Draft
push_terms k [] x = x
push_terms k (n ∷ ns) x = push_terms (k + 1) ns (push_term x k (prod ns))

-- the linear index over sizes, or 0 over none
abbrev pub push_linear : List ℕ → Draft → Draft
push_linear [] x = push_constant x (pos 0)
push_linear (n ∷ ns) x = push_terms 0 (n ∷ ns) x

-- ---- room for them

pub record BoundRoom (x : Draft) (low high : ℕ) : Type 0 where
  pub dims : x.map.dims < max_variables
  pub small_low : low ≤ max_count
  pub small-high : high ≤ max_count

pub record RangeRoom (x : Draft) (high : ℕ) : Type 0 where
  pub ranges : x.map.ranges < max_variables
  pub small-high : high ≤ max_count

-- a node, and a node with a number
pub record NodeRoom (x : Draft) : Type 0 where
  pub nodes : x.at < max_nodes
  pub under : x.under ≤ x.at

pub record NumberRoom (x : Draft) (value : ℕ) : Type 0 where
  pub nodes : x.at < max_nodes
  pub under : x.under ≤ x.at
  pub small : value ≤ max_count

-- a tree of at most 4 nodes over dimension k
pub record TreeRoom (x : Draft) (k : ℕ) : Type 0 where
  pub nodes : x.at + 4 ≤ max_nodes
  pub under : x.under ≤ x.at
  pub variable : k < max_variables

-- the dimensions of a shape
pub record WholeRoom (x : Draft) (ns : List ℕ) : Type 0 where
  pub dims : x.map.dims + length ns ≤ max_variables
  pub sized : Bounded max_size ns

pub record SelectedRoom (x : Draft) (ns l : List ℕ) : Type 0 where
  pub dims : x.map.dims + length l ≤ max_variables
  pub sized : Bounded max_size ns
  pub inside : (k : ℕ) → k < length l → get_or l k 0 < length ns

-- results that are dimensions
pub record VariableRoom (x : Draft) (l : List ℕ) : Type 0 where
  pub nodes : x.at + 4 * length l ≤ max_nodes
  pub under : x.under ≡ 0
  pub results : x.map.results + length l ≤ max_results
  pub inside : (k : ℕ) → k < length l → get_or l k 0 < max_variables

-- a term, and the linear index
pub record TermRoom (x : Draft) (k factor : ℕ) : Type 0 where
  pub nodes : x.at + 3 ≤ max_nodes
  pub under : x.under ≤ x.at
  pub variable : k < max_variables
  pub small : factor ≤ max_count

pub record LinearRoom (x : Draft) (ns : List ℕ) : Type 0 where
  pub nodes : x.at + 3 * max_variables ≤ max_nodes
  pub under : x.under ≤ x.at
  pub few : length ns ≤ max_variables
  pub sized : Bounded max_size ns
  pub counted : prod ns ≤ max_count
