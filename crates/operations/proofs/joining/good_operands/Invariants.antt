-- The operands before k keep the limits.
use Rattle.std.proofs.Common.{◌≡◌, ℕ, ◌<◌, true, get_or}
use Rattle.shape.specs.Shape.{good_shape}
use Rattle.operation_maps.specs.Operation.{no_shape}
use Rattle.operations.proofs.joining.good_operands.Given as goal

abbrev pub invariant-loop-k : goal.invariant-loop-k
invariant-loop-k l = (i : ℕ) → i < l.k → good_shape (get_or l.x.shapes i no_shape) ≡ true
