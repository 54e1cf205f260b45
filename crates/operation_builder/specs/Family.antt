-- The maps of each dimension by itself, and of some of the dimensions, either way by a test. Assumes nothing.
use Rattle.std.specs.Prelude.{◌≡◌, Bool, true, false, cond, List, map, ℕ, ◌<◌, ◌≤◌, eqb, length, get_or}
use Rattle.radix.specs.Radix.{max_size}
use Rattle.shape.specs.Shape.{good_shape}
use Rattle.shape.specs.declared.Shape.{Shape}
use Rattle.encoding.specs.Trees.{listed}
use Rattle.map_builder.specs.Raw.{Raw}
use Rattle.operation_maps.specs.declared.Way.{Way}
use Rattle.operation_maps.specs.declared.Way.TheVariants.{OutputToInput, InputToOutput}
use Rattle.operation_maps.specs.declared.Axis.{Axis}
use Rattle.operation_maps.specs.declared.Axis.TheVariants.{Keep, Flip, Cut, Shift}
use Rattle.operation_maps.specs.Lists.{is_listed}
use Rattle.operation_maps.specs.Axes.{Side, out_side, in_side, side_map}
use Rattle.operation_maps.specs.Selection.{select_map, spread_map, Choice}
use Rattle.operation_maps.specs.Operation.{max_stride, rank_of}
use Rattle.operation_builder.specs.declared.Change.{Change}
use Rattle.operation_builder.specs.declared.Change.TheVariants.{Kept, Reversed, Joined, Sliced}

-- the map starts from the output
abbrev pub is_out : Way → Bool
is_out OutputToInput = true
is_out InputToOutput = false

-- ---- each dimension by itself

abbrev pub side_of : Bool → Axis → Side
side_of true a = out_side a
side_of false a = in_side a

-- what an operation does to dimension k of the sizes ns: keeps it; turns the listed round; shifts the one joined; cuts it
abbrev pub axis_at : Change → List ℕ → List ℕ → List ℕ → List ℕ → ℕ → Axis
axis_at Kept ns a b c k = Keep (get_or ns k 0)
axis_at Reversed ns a b c k = cond (is_listed a k) (Flip (get_or ns k 0)) (Keep (get_or ns k 0))
axis_at (Joined dim by) ns a b c k = cond (eqb k dim) (Shift by (get_or ns k 0)) (Keep (get_or ns k 0))
axis_at Sliced ns a b c k = Cut (get_or a k 0) (get_or b k 0) (get_or c k 0)

abbrev pub axes_raw : Bool → Change → List ℕ → List ℕ → List ℕ → List ℕ → Raw
axes_raw out change ns a b c = side_map (map (side_of out) (listed (axis_at change ns a b c) (length ns)))

-- numbers that the code has room for
abbrev pub Ready : Axis → Type 0
Ready (Keep n) = (0 < n) × (n ≤ max_size)
Ready (Flip n) = (0 < n) × (n ≤ max_size)
Ready (Cut start limit stride) = (start < limit) × ((limit ≤ max_size) × ((0 < stride) × (stride ≤ max_stride)))
Ready (Shift by n) = (by ≤ max_size) × ((0 < n) × (n ≤ max_size))

-- ---- some of the dimensions

-- smaller to larger, or larger to smaller
abbrev pub selection : Bool → List ℕ → List ℕ → Raw
selection true l ns = spread_map l ns
selection false l ns = select_map l ns

-- a shape within its limits and some of its dimensions, each once
pub record Chosen (x : Shape) (l : List ℕ) : Type 0 where
  pub good : good_shape x ≡ true
  pub choice : Choice l (rank_of x)
