-- What the code of a concatenation asks for. Assumes nothing.
use Rattle.std.specs.Prelude.{◌≡◌, true, ℕ, ◌<◌, ◌≤◌, length, get_or}
use Rattle.shape.specs.Shape.{sizes_of, good_shape}
use Rattle.operations.specs.declared.Operands.{Operands}
use Rattle.operation_maps.specs.Operation.{max_operands, no_shape}

-- every operand that counts, and is held, is within the limits
abbrev pub GoodOperands : Operands → Type 0
GoodOperands x = (k : ℕ) → k < x.count → k < max_operands → good_shape (get_or x.shapes k no_shape) ≡ true

-- some, and no more than are held
pub record Some (x : Operands) : Type 0 where
  pub good : GoodOperands x
  pub one : 0 < x.count
  pub few : x.count ≤ max_operands

pub record SumRoom (x : Operands) (j : ℕ) : Type 0 where
  pub some : Some x
  pub inside : j ≤ x.count

-- and a dimension of the first
pub record Joins (x : Operands) (dim : ℕ) : Type 0 where
  pub some : Some x
  pub inside : dim < length (sizes_of (get_or x.shapes 0 no_shape))
