-- A map made step by step, each dimension by itself. Assumes nothing.
use Rattle.std.specs.Prelude.{◌≡◌, Bool, cond, List, ℕ, ◌+◌, ◌-◌, ◌*◌, ◌<◌, ◌≤◌, pos, negsuc, neg_ℤ, length}
use Rattle.shape.specs.Shape.{max_rank}
use Rattle.expression.specs.Node.{max_variables, max_nodes}
use Rattle.indexing.specs.Map.{max_results, max_constraints}
use Rattle.map_builder.specs.declared.Draft.{Draft}
use Rattle.map_builder.specs.Draft.{add_dimension, push_variable, push_floordiv, push_mod, push_shifted, push_affine, end_result, end_constraint}
use Rattle.operation_maps.specs.declared.Axis.{Axis}
use Rattle.operation_maps.specs.declared.Axis.TheVariants.{Keep, Flip, Cut, Shift}
use Rattle.operation_builder.specs.declared.Change.{Change}
use Rattle.operation_builder.specs.Family.{side_of, axis_at, Ready}

-- the tree of dimension k
abbrev pub push_axis : Bool → Axis → ℕ → Draft → Draft
push_axis out (Keep n) k x = push_variable x k
push_axis out (Flip n) k x = push_affine x k (negsuc 0) (pos (n - 1))
push_axis out (Cut start limit stride) k x =
    cond out (push_affine x k (pos stride) (pos start)) (push_floordiv (push_shifted x k (neg_ℤ (pos start))) stride)
push_axis out (Shift by n) k x = cond out (push_shifted x k (neg_ℤ (pos by))) (push_shifted x k (pos by))

-- dimension k: its bounds and its result
abbrev pub add_axis : Bool → Axis → ℕ → Draft → Draft
add_axis out a k x = end_result (push_axis out a k (add_dimension x (side_of out a).bound.lo (side_of out a).bound.hi))

-- its constraint
abbrev pub add_test : Bool → Axis → ℕ → Draft → Draft
add_test out (Keep n) k x = x
add_test out (Flip n) k x = x
add_test out (Cut start limit stride) k x =
    cond out x (end_constraint (push_mod (push_shifted x k (neg_ℤ (pos start))) stride) (pos 0) (pos 0))
add_test out (Shift by n) k x = x

-- of every dimension
abbrev pub add_axes : Bool → Change → List ℕ → List ℕ → List ℕ → List ℕ → ℕ → Draft → Draft
add_axes out change ns a b c k x = add_axis out (axis_at change ns a b c k) k x

abbrev pub add_tests : Bool → Change → List ℕ → List ℕ → List ℕ → List ℕ → ℕ → Draft → Draft
add_tests out change ns a b c k x = add_test out (axis_at change ns a b c k) k x

-- ---- room

pub record AxisRoom (x : Draft) (k : ℕ) (a : Axis) : Type 0 where
  pub nodes : x.at + 4 ≤ max_nodes
  pub under : x.under ≡ 0
  pub variable : k < max_variables
  pub dims : x.map.dims < max_variables
  pub results : x.map.results < max_results
  pub ready : Ready a

pub record TestRoom (x : Draft) (k : ℕ) (a : Axis) : Type 0 where
  pub nodes : x.at + 4 ≤ max_nodes
  pub under : x.under ≡ 0
  pub variable : k < max_variables
  pub constraints : x.map.constraints < max_constraints
  pub ready : Ready a

-- every dimension small, and few of them
pub record AllReady (change : Change) (ns a b c : List ℕ) : Type 0 where
  pub few : length ns ≤ max_rank
  pub ready : (k : ℕ) → k < length ns → Ready (axis_at change ns a b c k)

pub record AxesRoom (x : Draft) (change : Change) (ns a b c : List ℕ) : Type 0 where
  pub nodes : x.at + 4 * max_variables ≤ max_nodes
  pub under : x.under ≡ 0
  pub dims : x.map.dims ≡ 0
  pub results : x.map.results ≡ 0
  pub all : AllReady change ns a b c

pub record TestsRoom (x : Draft) (change : Change) (ns a b c : List ℕ) : Type 0 where
  pub nodes : x.at + 4 * max_variables ≤ max_nodes
  pub under : x.under ≡ 0
  pub constraints : x.map.constraints ≡ 0
  pub all : AllReady change ns a b c
