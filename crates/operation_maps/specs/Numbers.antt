-- The number that an operation's own rules give, 0 where all are kept. Assumes nothing.
use Rattle.std.specs.Prelude.{Bool, cond, ◌&&◌, List, ℕ, eqb, length}
use Rattle.radix.specs.Radix.{prod}
use Rattle.shape.specs.Shape.{sizes_of, good_shape}
use Rattle.shape.specs.Dimensions.{in_range, free}
use Rattle.operation_maps.specs.Operation.{Operation, rank_of, good_sizes, good_broadcast, good_cuts, good_operands, good_join, joined_sizes}

-- 1 of the shapes; 2 of the other attributes; 2 of a repeat
abbrev pub list_number : Bool → Bool → List ℕ → ℕ
list_number shapes attributes l = cond shapes (cond attributes (cond (free l) 0 2) 2) 1

abbrev pub rule_number : Operation → ℕ
rule_number (Operation.elementwise x) = cond (good_shape x) 0 1
rule_number (Operation.broadcast x y l) =
    list_number (good_shape x && good_shape y) (good_broadcast (sizes_of x) (sizes_of y) l) l
rule_number (Operation.transpose x l) = list_number (good_shape x) (eqb (length l) (rank_of x) && in_range (rank_of x) l) l
rule_number (Operation.reverse x l) = list_number (good_shape x) (in_range (rank_of x) l) l
rule_number (Operation.concatenate count held dim j) =
    cond (good_operands count held) (cond (good_join count held dim j) (cond (good_sizes (joined_sizes count held dim)) 0 1) 2) 1
rule_number (Operation.reduce x l) = list_number (good_shape x) (in_range (rank_of x) l) l
rule_number (Operation.reduce_init x l) = list_number (good_shape x) (in_range (rank_of x) l) l
rule_number (Operation.slice x starts limits strides) =
    cond (good_shape x) (cond (good_cuts (sizes_of x) starts limits strides) 0 2) 1
rule_number (Operation.reshape x y) =
    cond (good_shape x && good_shape y) (cond (eqb (prod (sizes_of x)) (prod (sizes_of y))) 0 2) 1
