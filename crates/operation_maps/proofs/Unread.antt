-- What the records of an operation hold past their counts is not read. Assumes nothing.
use mathlib.Core.Path.{◌≡◌, refl, ap, ap₂, ◌∙◌}
use mathlib.Core.Bool.{Bool, true, false, ◌&&◌}
use mathlib.Core.List.{List, [], ◌∷◌, map}
use Prim.Native.Nat.{ℕ, zero, suc, ◌+◌, ◌≤◌, min}
use native.Mathlib.Omega.{arith}
use borrow.Author.Tests.{leb-true, leb-false, le-leb, lt-leb}
use lib.Dec.{leb, ltb, eqb}
use lib.ListN.{length, get_or, set, length-take, length-map}
use lib.Seq.{take_all, take-take}
use Rattle.radix.specs.Radix.{max_size, max_count, prod, is_within, every}
use Rattle.refusal.specs.Judge.{rule}
use Rattle.refusal.specs.declared.Refusal.TheVariants.{ShapeLimits, Attribute}
use Rattle.shape.specs.Shape.{max_rank, sizes_of, good_shape}
use Rattle.shape.specs.Dimensions.{in_range}
use Rattle.shape.specs.declared.Shape.{Shape}
use Rattle.operation_maps.specs.Axes.{axes_out, axes_in}
use Rattle.operation_maps.specs.Reshape.{reshape_map}
use Rattle.operation_maps.specs.Lists.{select, others}
use Rattle.operation_maps.specs.Selection.{select_map, spread_map}
use Rattle.operation_maps.specs.Operation.{Operation, kept_axes, reversed_axes, joined_axes, sliced_axes, max_operands, no_shape, operands, operand_sizes, joined_before, alike, all_alike, joined_sizes, good_sizes, good_broadcast, good_cuts, good_operands, good_join, list_rules, operation_rules, output_to_input, input_to_output}
use Rattle.operation_maps.specs.Trimmed.{trimmed_shape, trimmed_operands, trimmed}

-- ---- a shape

pub sizes-same : (x : Shape) → sizes_of (trimmed_shape x) ≡ sizes_of x
sizes-same x = take-take x.rank x.rank x.sizes (omega arith)

pub good-same : (x : Shape) → good_shape (trimmed_shape x) ≡ good_shape x
unfolding good_shape
good-same x = ap (λ (ns : List ℕ). leb x.rank max_rank && (is_within max_size ns && leb (prod ns) max_count)) (sizes-same x)

-- ---- the operands of a concatenation

module _ (count : ℕ) (held : List Shape) where
  cut-length : length (operands count held) ≤ count
  cut-length = omega (arith, length-take count held)

  operands_same : operands count (trimmed_operands count held) ≡ map trimmed_shape (operands count held)
  operands_same = take_all count (trimmed_operands count held) (omega (arith, cut-length, length-map (operands count held) trimmed_shape))

  at_same : (xs : List Shape) (k : ℕ) → get_or (map trimmed_shape xs) k no_shape ≡ trimmed_shape (get_or xs k no_shape)
  at_same [] k = refl
  at_same (x ∷ xs) zero = refl
  at_same (x ∷ xs) (suc k) = at_same xs k

  operand_same : (k : ℕ) → get_or (operands count (trimmed_operands count held)) k no_shape ≡ trimmed_shape (get_or (operands count held) k no_shape)
  operand_same k = ap (λ (xs : List Shape). get_or xs k no_shape) operands_same ∙ at_same (operands count held) k

  operand-sizes : (k : ℕ) → operand_sizes count (trimmed_operands count held) k ≡ operand_sizes count held k
  operand-sizes k = ap sizes_of (operand_same k) ∙ sizes-same (get_or (operands count held) k no_shape)

  joined_same : (dim j : ℕ) → joined_before count (trimmed_operands count held) dim j ≡ joined_before count held dim j
  unfolding joined_before
  joined_same dim zero = refl
  joined_same dim (suc j) = ap₂ ◌+◌ (joined_same dim j) (ap (λ (ns : List ℕ). get_or ns dim 0) (operand-sizes j))

  every-same : (f g : ℕ → Bool) → ((k : ℕ) → f k ≡ g k) → (n : ℕ) → every f n ≡ every g n
  every-same f g h zero = refl
  every-same f g h (suc n) = ap₂ ◌&&◌ (every-same f g h n) (h n)

  alike_same : (dim : ℕ) → all_alike count (trimmed_operands count held) dim ≡ all_alike count held dim
  alike_same dim =
      every-same (λ (j : ℕ). alike dim (operand_sizes count (trimmed_operands count held) 0) (operand_sizes count (trimmed_operands count held) j))
      (λ (j : ℕ). alike dim (operand_sizes count held 0) (operand_sizes count held j)) (λ j. ap₂ (alike dim) (operand-sizes 0) (operand-sizes j)) count

  goods-same : good_operands count (trimmed_operands count held) ≡ good_operands count held
  goods-same =
      ap (every (λ (k : ℕ). good_shape (get_or (operands count (trimmed_operands count held)) k no_shape)))
      (ap length operands_same ∙ length-map (operands count held) trimmed_shape)
      ∙ every-same (λ (k : ℕ). good_shape (get_or (operands count (trimmed_operands count held)) k no_shape)) (λ (k : ℕ). good_shape (get_or (operands count held) k no_shape))
      (λ k. ap good_shape (operand_same k) ∙ good-same (get_or (operands count held) k no_shape)) (length (operands count held))

  -- as many are held
  held_same : leb count (length (trimmed_operands count held)) ≡ leb count (length held)
  held_same = go (leb count (length held)) refl
    where
      long : length (trimmed_operands count held) ≡ min count (length held)
      long = length-map (operands count held) trimmed_shape ∙ length-take count held

      go : (b : Bool) → leb count (length held) ≡ b → leb count (length (trimmed_operands count held)) ≡ b
      go true e = le-leb count (length (trimmed_operands count held)) (omega (arith, long, leb-true count (length held) e))
      go false e = lt-leb count (length (trimmed_operands count held)) (omega (arith, long, leb-false count (length held) e))

  join-same : (dim j : ℕ) → good_join count (trimmed_operands count held) dim j ≡ good_join count held dim j
  join-same dim j =
      ap₂ ◌&&◌ (ap (λ (b : Bool). leb 1 count && (leb count max_operands && b)) held_same)
      (ap₂ (λ (ns : List ℕ) (b : Bool). ltb dim (length ns) && (ltb j count && b)) (operand-sizes 0) (alike_same dim))

  result-same : (dim : ℕ) → joined_sizes count (trimmed_operands count held) dim ≡ joined_sizes count held dim
  result-same dim = ap₂ (λ (ns : List ℕ) (n : ℕ). set ns dim n) (operand-sizes 0) (joined_same dim count)

  axes-same : (dim j : ℕ)
      → joined_axes (operand_sizes count (trimmed_operands count held) j) dim (joined_before count (trimmed_operands count held) dim j)
      ≡ joined_axes (operand_sizes count held j) dim (joined_before count held dim j)
  axes-same dim j = ap₂ (λ (ns : List ℕ) (n : ℕ). joined_axes ns dim n) (operand-sizes j) (joined_same dim j)

-- ---- an operation

list_same : (x : Shape) (l : List ℕ) (test : List ℕ → Bool) → list_rules (good_shape (trimmed_shape x)) (test (sizes_of (trimmed_shape x))) l ≡ list_rules (good_shape x) (test (sizes_of x)) l
list_same x l test = ap₂ (λ (s a : Bool). list_rules s a l) (good-same x) (ap test (sizes-same x))

pub rules-same : (op : Operation) → operation_rules (trimmed op) ≡ operation_rules op
rules-same (Operation.elementwise x) = ap (λ (b : Bool). rule b ShapeLimits ∷ []) (good-same x)
rules-same (Operation.broadcast x y l) =
    ap₂ (λ (s a : Bool). list_rules s a l) (ap₂ ◌&&◌ (good-same x) (good-same y))
    (ap₂ (λ (ns ms : List ℕ). good_broadcast ns ms l) (sizes-same x) (sizes-same y))
rules-same (Operation.transpose x l) = list_same x l (λ (ns : List ℕ). eqb (length l) (length ns) && in_range (length ns) l)
rules-same (Operation.reverse x l) = list_same x l (λ (ns : List ℕ). in_range (length ns) l)
rules-same (Operation.concatenate count held dim j) =
    ap₂ (λ (s a : Bool). rule s ShapeLimits ∷ rule a Attribute ∷ rule (good_sizes (joined_sizes count (trimmed_operands count held) dim)) ShapeLimits ∷ [])
    (goods-same count held) (join-same count held dim j)
    ∙ ap (λ (ns : List ℕ). rule (good_operands count held) ShapeLimits ∷ rule (good_join count held dim j) Attribute ∷ rule (good_sizes ns) ShapeLimits ∷ [])
    (result-same count held dim)
rules-same (Operation.reduce x l) = list_same x l (λ (ns : List ℕ). in_range (length ns) l)
rules-same (Operation.reduce_init x l) = list_same x l (λ (ns : List ℕ). in_range (length ns) l)
rules-same (Operation.slice x starts limits strides) =
    ap₂ (λ (s a : Bool). rule s ShapeLimits ∷ rule a Attribute ∷ []) (good-same x)
    (ap (λ (ns : List ℕ). good_cuts ns starts limits strides) (sizes-same x))
rules-same (Operation.reshape x y) =
    ap₂ (λ (s a : Bool). rule s ShapeLimits ∷ rule a Attribute ∷ []) (ap₂ ◌&&◌ (good-same x) (good-same y))
    (ap₂ (λ (ns ms : List ℕ). eqb (prod ns) (prod ms)) (sizes-same x) (sizes-same y))

pub out-same : (op : Operation) → output_to_input (trimmed op) ≡ output_to_input op
out-same (Operation.elementwise x) = ap (λ (ns : List ℕ). axes_out (kept_axes ns)) (sizes-same x)
out-same (Operation.broadcast x y l) = ap (select_map l) (sizes-same y)
out-same (Operation.transpose x l) = ap (spread_map l) (sizes-same x)
out-same (Operation.reverse x l) = ap (λ (ns : List ℕ). axes_out (reversed_axes ns l)) (sizes-same x)
out-same (Operation.concatenate count held dim j) = ap axes_out (axes-same count held dim j)
out-same (Operation.reduce x l) = ap (λ (ns : List ℕ). spread_map (others l (length ns)) ns) (sizes-same x)
out-same (Operation.reduce_init x l) = ap (λ (ns : List ℕ). select_map [] (select (others l (length ns)) ns)) (sizes-same x)
out-same (Operation.slice x starts limits strides) = ap (λ (ns : List ℕ). axes_out (sliced_axes ns starts limits strides)) (sizes-same x)
out-same (Operation.reshape x y) = ap₂ reshape_map (sizes-same y) (sizes-same x)

pub in-same : (op : Operation) → input_to_output (trimmed op) ≡ input_to_output op
in-same (Operation.elementwise x) = ap (λ (ns : List ℕ). axes_in (kept_axes ns)) (sizes-same x)
in-same (Operation.broadcast x y l) = ap (spread_map l) (sizes-same y)
in-same (Operation.transpose x l) = ap (select_map l) (sizes-same x)
in-same (Operation.reverse x l) = ap (λ (ns : List ℕ). axes_in (reversed_axes ns l)) (sizes-same x)
in-same (Operation.concatenate count held dim j) = ap axes_in (axes-same count held dim j)
in-same (Operation.reduce x l) = ap (λ (ns : List ℕ). select_map (others l (length ns)) ns) (sizes-same x)
in-same (Operation.reduce_init x l) = ap (λ (ns : List ℕ). spread_map [] (select (others l (length ns)) ns)) (sizes-same x)
in-same (Operation.slice x starts limits strides) = ap (λ (ns : List ℕ). axes_in (sliced_axes ns starts limits strides)) (sizes-same x)
in-same (Operation.reshape x y) = ap₂ reshape_map (sizes-same x) (sizes-same y)
