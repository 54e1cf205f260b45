-- A map made step by step, some of the dimensions, and the dimensions that a list leaves. Assumes nothing.
use Rattle.std.specs.Prelude.{◌≡◌, cond, List, [], ℕ, ◌+◌, ◌-◌, ◌<◌, ◌≤◌, pos, length, get_or, set}
use Rattle.radix.specs.Radix.{max_size, Bounded}
use Rattle.shape.specs.Shape.{max_rank}
use Rattle.shape.specs.Dimensions.{place}
use Rattle.expression.specs.Node.{max_variables, max_nodes}
use Rattle.indexing.specs.Map.{max_results}
use Rattle.encoding.specs.Encode.{filled}
use Rattle.map_builder.specs.declared.Draft.{Draft}
use Rattle.map_builder.specs.Draft.{add_range, push_variable, end_result}
use Rattle.operation_maps.specs.Lists.{select, is_listed, others}
use Rattle.operation_maps.specs.Selection.{Choice}
use Rattle.operation_builder.specs.declared.Kept.{Kept}

-- ---- smaller to larger

-- coordinate j of the larger point: the dimension of its place in the list, or a range variable of its own
abbrev pub add_coordinate : List ℕ → List ℕ → ℕ → Draft → Draft
add_coordinate ns l j x =
    cond (is_listed l j)
    (end_result (push_variable x (place j l)))
    (end_result (push_variable (add_range x (pos 0) (pos (get_or ns j 0 - 1))) (max_variables + x.map.ranges)))

-- a shape within its limits and some of its dimensions, each once
pub record Choosable (ns l : List ℕ) : Type 0 where
  pub few : length ns ≤ max_rank
  pub sized : Bounded max_size ns
  pub choice : Choice l (length ns)

pub record CoordinateRoom (x : Draft) (ns l : List ℕ) (j : ℕ) : Type 0 where
  pub nodes : x.at < max_nodes
  pub under : x.under ≡ 0
  pub ranges : x.map.ranges < max_variables
  pub results : x.map.results < max_results
  pub inside : j < length ns
  pub ready : Choosable ns l

pub record CoordinatesRoom (x : Draft) (ns l : List ℕ) : Type 0 where
  pub nodes : x.at ≡ 0
  pub under : x.under ≡ 0
  pub ranges : x.map.ranges ≡ 0
  pub results : x.map.results ≡ 0
  pub ready : Choosable ns l

-- ---- the dimensions that a list leaves, and their sizes

abbrev pub none_kept : Kept
none_kept = record { count = 0; dims = filled max_rank 0 []; sizes = filled max_rank 0 [] }

abbrev pub keep_next : List ℕ → ℕ → ℕ → Kept → Kept
keep_next l j size k =
    cond (is_listed l j) k
    (record { count = k.count + 1; dims = set k.dims k.count j; sizes = set k.sizes k.count size })

-- those below j
pub record KeptAs (l ns : List ℕ) (j : ℕ) (k : Kept) : Type 0 where
  pub count : k.count ≡ length (others l j)
  pub dims : k.dims ≡ filled max_rank 0 (others l j)
  pub sizes : k.sizes ≡ filled max_rank 0 (select (others l j) ns)
