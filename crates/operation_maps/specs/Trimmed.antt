-- An operation without what its records hold past their counts. Assumes nothing.
use Rattle.std.specs.Prelude.{List, map, ℕ}
use Rattle.shape.specs.Shape.{sizes_of}
use Rattle.shape.specs.declared.Shape.{Shape}
use Rattle.operation_maps.specs.Operation.{Operation, operands}

-- a shape has no size past its rank
abbrev pub trimmed_shape : Shape → Shape
trimmed_shape x = record { rank = x.rank; sizes = sizes_of x }

-- and a concatenation no operand past its count
abbrev pub trimmed_operands : ℕ → List Shape → List Shape
trimmed_operands count held = map trimmed_shape (operands count held)

abbrev pub trimmed : Operation → Operation
trimmed (Operation.elementwise x) = Operation.elementwise (trimmed_shape x)
trimmed (Operation.broadcast x y l) = Operation.broadcast (trimmed_shape x) (trimmed_shape y) l
trimmed (Operation.transpose x l) = Operation.transpose (trimmed_shape x) l
trimmed (Operation.reverse x l) = Operation.reverse (trimmed_shape x) l
trimmed (Operation.concatenate count held dim j) = Operation.concatenate count (trimmed_operands count held) dim j
trimmed (Operation.reduce x l) = Operation.reduce (trimmed_shape x) l
trimmed (Operation.reduce_init x l) = Operation.reduce_init (trimmed_shape x) l
trimmed (Operation.slice x starts limits strides) = Operation.slice (trimmed_shape x) starts limits strides
trimmed (Operation.reshape x y) = Operation.reshape (trimmed_shape x) (trimmed_shape y)
