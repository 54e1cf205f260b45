-- The operations, both ways: their rules, their two maps, their pairs of points, and the answers. Assumes nothing.
use Rattle.std.specs.Prelude.{Bool, cond, ◌&&◌, ◌||◌, List, [], ◌∷◌, ◌++◌, ℕ, zero, suc, ◌+◌, ◌^◌, leb, ltb, eqb, length, get_or, take, set}
use Rattle.radix.specs.Radix.{max_size, max_count, prod, is_within, every}
use Rattle.refusal.specs.Number.{Answer}
use Rattle.refusal.specs.Judge.{Rule, rule}
use Rattle.refusal.specs.declared.Refusal.TheVariants.{ShapeLimits, Attribute, Repeat}
use Rattle.shape.specs.Shape.{max_rank, sizes_of, good_shape}
use Rattle.shape.specs.Dimensions.{in_range, free, earlier_place, later_place}
use Rattle.shape.specs.declared.Shape.{Shape}
use Rattle.indexing.specs.declared.IndexingMap.{IndexingMap}
use Rattle.indexing.specs.Answers.{map_by}
use Rattle.encoding.specs.Trees.{listed}
use Rattle.fold.specs.FoldMap.{fold_rules, folded_map}
use Rattle.map_builder.specs.Raw.{Raw, encoded}
use Rattle.operation_maps.specs.declared.Axis.{Axis}
use Rattle.operation_maps.specs.declared.Axis.TheVariants.{Keep, Flip, Cut, Shift}
use Rattle.operation_maps.specs.declared.Way.{Way}
use Rattle.operation_maps.specs.declared.Way.TheVariants.{OutputToInput, InputToOutput}
use Rattle.operation_maps.specs.Axes.{axes_out, axes_in, axes_pairs}
use Rattle.operation_maps.specs.Reshape.{reshape_map, reshape_pairs}
use Rattle.operation_maps.specs.Lists.{select, is_listed, others}
use Rattle.operation_maps.specs.Selection.{select_map, spread_map, select_pairs}

-- elementwise: the shape of all operands
-- broadcast: input, output, the output dimension of each input dimension
-- transpose: input, the input dimension of each output dimension
-- reverse: shape, the dimensions that are turned round
-- concatenate: how many operands, the operands held, the dimension joined, the operand asked for
-- reduce: input, the dimensions that go; and the same for the initial value, which has rank 0
-- slice: input, starts, limits, strides
-- reshape: input, output
pub data Operation : Type 0 where
  elementwise : Shape → Operation
  broadcast : Shape → Shape → List ℕ → Operation
  transpose : Shape → List ℕ → Operation
  reverse : Shape → List ℕ → Operation
  concatenate : ℕ → List Shape → ℕ → ℕ → Operation
  reduce : Shape → List ℕ → Operation
  reduce_init : Shape → List ℕ → Operation
  slice : Shape → List ℕ → List ℕ → List ℕ → Operation
  reshape : Shape → Shape → Operation

abbrev pub rank_of : Shape → ℕ
rank_of x = length (sizes_of x)

-- ---- what each operation does to its dimensions

-- elementwise: identity
abbrev pub kept_axes : List ℕ → List Axis
kept_axes ns = listed (λ (k : ℕ). Keep (get_or ns k 0)) (length ns)

-- reverse: size - 1 - d for the dimensions listed
abbrev pub reversed_axes : List ℕ → List ℕ → List Axis
reversed_axes ns l = listed (λ (k : ℕ). cond (is_listed l k) (Flip (get_or ns k 0)) (Keep (get_or ns k 0))) (length ns)

-- concatenate: the dimension joined is shifted by the sizes of the operands before
abbrev pub joined_axes : List ℕ → ℕ → ℕ → List Axis
joined_axes ns dim by = listed (λ (k : ℕ). cond (eqb k dim) (Shift by (get_or ns k 0)) (Keep (get_or ns k 0))) (length ns)

-- slice: start, limit and stride of each dimension
abbrev pub sliced_axes : List ℕ → List ℕ → List ℕ → List ℕ → List Axis
sliced_axes ns starts limits strides =
    listed (λ (k : ℕ). Cut (get_or starts k 0) (get_or limits k 0) (get_or strides k 0)) (length ns)

-- reduce: the dimensions that stay, in their order
abbrev pub kept_dims : Shape → List ℕ → List ℕ
kept_dims x l = others l (rank_of x)

-- ---- the operands of a concatenation

-- 1 to 8 operands
abbrev pub max_operands : ℕ
max_operands = 8

abbrev pub no_shape : Shape
no_shape = record { rank = 0; sizes = [] }

-- the operands that count
abbrev pub operands : ℕ → List Shape → List Shape
operands count held = take count held

-- the sizes of an operand
abbrev pub operand_sizes : ℕ → List Shape → ℕ → List ℕ
operand_sizes count held j = sizes_of (get_or (operands count held) j no_shape)

-- the joined sizes of the first j operands together
unfoldable pub joined_before : ℕ → List Shape → ℕ → ℕ → ℕ
joined_before count held dim zero = 0
joined_before count held dim (suc j) = joined_before count held dim j + get_or (operand_sizes count held j) dim 0

-- alike but for the joined size: one rank, and one size in every other dimension
abbrev pub alike : ℕ → List ℕ → List ℕ → Bool
alike dim xs ys = eqb (length xs) (length ys) && every (λ (k : ℕ). eqb k dim || eqb (get_or xs k 0) (get_or ys k 0)) (length xs)

abbrev pub all_alike : ℕ → List Shape → ℕ → Bool
all_alike count held dim = every (λ (j : ℕ). alike dim (operand_sizes count held 0) (operand_sizes count held j)) count

-- the sizes of the result
abbrev pub joined_sizes : ℕ → List Shape → ℕ → List ℕ
joined_sizes count held dim = set (operand_sizes count held 0) dim (joined_before count held dim count)

-- ---- the rules

-- sizes within the limits of a shape
abbrev pub good_sizes : List ℕ → Bool
good_sizes ns = leb (length ns) max_rank && (is_within max_size ns && leb (prod ns) max_count)

-- the check stops at the first repeat and names both places
abbrev pub no_repeat : List ℕ → Rule
no_repeat l = rule (free l) (Repeat (earlier_place l) (later_place l))

-- shapes within their limits; every other cause of number 2; a list of dimensions free of repeats
abbrev pub list_rules : Bool → Bool → List ℕ → List Rule
list_rules shapes attributes l = rule shapes ShapeLimits ∷ rule attributes Attribute ∷ no_repeat l ∷ []

-- broadcast lists one output dimension of equal size per input dimension
abbrev pub good_broadcast : List ℕ → List ℕ → List ℕ → Bool
good_broadcast inn out l =
    eqb (length l) (length inn)
    && (in_range (length out) l && every (λ (k : ℕ). eqb (get_or inn k 0) (get_or out (get_or l k 0) 0)) (length l))

-- the largest stride
abbrev pub max_stride : ℕ
max_stride = 2 ^ 20

-- 0 <= start < limit <= size, stride 1 to 2^20
abbrev pub good_cut : ℕ → ℕ → ℕ → ℕ → Bool
good_cut n start limit stride = ltb start limit && (leb limit n && (leb 1 stride && leb stride max_stride))

-- one start, limit and stride for each dimension
abbrev pub good_cuts : List ℕ → List ℕ → List ℕ → List ℕ → Bool
good_cuts ns starts limits strides =
    (eqb (length starts) (length ns) && (eqb (length limits) (length ns) && eqb (length strides) (length ns)))
    && every (λ (k : ℕ). good_cut (get_or ns k 0) (get_or starts k 0) (get_or limits k 0) (get_or strides k 0)) (length ns)

-- every operand's shape within its limits
abbrev pub good_operands : ℕ → List Shape → Bool
good_operands count held = every (λ (k : ℕ). good_shape (get_or (operands count held) k no_shape)) (length (operands count held))

-- 1 to 8 operands, all held; the dimension joined and the operand asked for are there; the operands are alike
abbrev pub good_join : ℕ → List Shape → ℕ → ℕ → Bool
good_join count held dim j =
    (leb 1 count && (leb count max_operands && leb count (length held)))
    && (ltb dim (length (operand_sizes count held 0)) && (ltb j count && all_alike count held dim))

-- in the order of the numbers: 1 of the shapes given; 2, the repeat last; 1 of the result's shape
abbrev pub operation_rules : Operation → List Rule
operation_rules (Operation.elementwise x) = rule (good_shape x) ShapeLimits ∷ []
operation_rules (Operation.broadcast x y l) =
    list_rules (good_shape x && good_shape y) (good_broadcast (sizes_of x) (sizes_of y) l) l
operation_rules (Operation.transpose x l) = list_rules (good_shape x) (eqb (length l) (rank_of x) && in_range (rank_of x) l) l
operation_rules (Operation.reverse x l) = list_rules (good_shape x) (in_range (rank_of x) l) l
operation_rules (Operation.concatenate count held dim j) =
    rule (good_operands count held) ShapeLimits
    ∷ rule (good_join count held dim j) Attribute
    ∷ rule (good_sizes (joined_sizes count held dim)) ShapeLimits
    ∷ []
operation_rules (Operation.reduce x l) = list_rules (good_shape x) (in_range (rank_of x) l) l
operation_rules (Operation.reduce_init x l) = list_rules (good_shape x) (in_range (rank_of x) l) l
operation_rules (Operation.slice x starts limits strides) =
    rule (good_shape x) ShapeLimits ∷ rule (good_cuts (sizes_of x) starts limits strides) Attribute ∷ []
-- element counts must agree
operation_rules (Operation.reshape x y) =
    rule (good_shape x && good_shape y) ShapeLimits ∷ rule (eqb (prod (sizes_of x)) (prod (sizes_of y))) Attribute ∷ []

-- ---- the two maps, before folding

-- output to input
abbrev pub output_to_input : Operation → Raw
output_to_input (Operation.elementwise x) = axes_out (kept_axes (sizes_of x))
-- the dimensions listed
output_to_input (Operation.broadcast x y l) = select_map l (sizes_of y)
-- each input dimension at its place in the list
output_to_input (Operation.transpose x l) = spread_map l (sizes_of x)
output_to_input (Operation.reverse x l) = axes_out (reversed_axes (sizes_of x) l)
-- a bound per operand, shifted
output_to_input (Operation.concatenate count held dim j) =
    axes_out (joined_axes (operand_sizes count held j) dim (joined_before count held dim j))
-- a range variable per reduced dimension
output_to_input (Operation.reduce x l) = spread_map (kept_dims x l) (sizes_of x)
-- output to init has no result
output_to_input (Operation.reduce_init x l) = select_map [] (select (kept_dims x l) (sizes_of x))
output_to_input (Operation.slice x starts limits strides) = axes_out (sliced_axes (sizes_of x) starts limits strides)
-- linearise over the output's shape and split over the input's
output_to_input (Operation.reshape x y) = reshape_map (sizes_of y) (sizes_of x)

-- input to output
abbrev pub input_to_output : Operation → Raw
input_to_output (Operation.elementwise x) = axes_in (kept_axes (sizes_of x))
-- each added dimension is a range variable, in order
input_to_output (Operation.broadcast x y l) = spread_map l (sizes_of y)
-- the dimensions listed
input_to_output (Operation.transpose x l) = select_map l (sizes_of x)
input_to_output (Operation.reverse x l) = axes_in (reversed_axes (sizes_of x) l)
input_to_output (Operation.concatenate count held dim j) =
    axes_in (joined_axes (operand_sizes count held j) dim (joined_before count held dim j))
-- the dimensions that stay
input_to_output (Operation.reduce x l) = select_map (kept_dims x l) (sizes_of x)
-- init to output has a range variable per output dimension
input_to_output (Operation.reduce_init x l) = spread_map [] (select (kept_dims x l) (sizes_of x))
input_to_output (Operation.slice x starts limits strides) = axes_in (sliced_axes (sizes_of x) starts limits strides)
-- linearise over the input's shape and split over the output's
input_to_output (Operation.reshape x y) = reshape_map (sizes_of x) (sizes_of y)

-- ---- the meaning: point o of the output and point i of the input belong together

abbrev pub Pairs : Operation → List ℕ → List ℕ → Type 0
Pairs (Operation.elementwise x) o i = axes_pairs (kept_axes (sizes_of x)) o i
-- i has the coordinates of o at the places listed
Pairs (Operation.broadcast x y l) o i = select_pairs l (sizes_of y) o i
-- o has the coordinates of i at the places listed
Pairs (Operation.transpose x l) o i = select_pairs l (sizes_of x) i o
Pairs (Operation.reverse x l) o i = axes_pairs (reversed_axes (sizes_of x) l) o i
Pairs (Operation.concatenate count held dim j) o i =
    axes_pairs (joined_axes (operand_sizes count held j) dim (joined_before count held dim j)) o i
-- o has the coordinates of i in the dimensions that stay
Pairs (Operation.reduce x l) o i = select_pairs (kept_dims x l) (sizes_of x) i o
-- i has no coordinate, and belongs to every o
Pairs (Operation.reduce_init x l) o i = select_pairs [] (select (kept_dims x l) (sizes_of x)) o i
Pairs (Operation.slice x starts limits strides) o i = axes_pairs (sliced_axes (sizes_of x) starts limits strides) o i
-- both have one row-major number
Pairs (Operation.reshape x y) o i = reshape_pairs (sizes_of y) (sizes_of x) o i

-- ---- the answers: the operation's rules, then those of folding; the folded map, or a map of zeros

abbrev pub folded_answer : List Rule → IndexingMap → Answer IndexingMap
folded_answer rules m = map_by (rules ++ fold_rules m) (folded_map m)

unfoldable pub output_to_input_answer : Operation → Answer IndexingMap
output_to_input_answer op = folded_answer (operation_rules op) (encoded (output_to_input op))

unfoldable pub input_to_output_answer : Operation → Answer IndexingMap
input_to_output_answer op = folded_answer (operation_rules op) (encoded (input_to_output op))

-- ---- either way

abbrev pub raw_of : Way → Operation → Raw
raw_of OutputToInput op = output_to_input op
raw_of InputToOutput op = input_to_output op

abbrev pub operation_answer : Way → Operation → Answer IndexingMap
operation_answer OutputToInput op = output_to_input_answer op
operation_answer InputToOutput op = input_to_output_answer op
