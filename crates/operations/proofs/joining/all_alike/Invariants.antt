-- The operands before k are like the first.
use Rattle.std.proofs.Common.{◌≡◌, ℕ, ◌<◌, true}
use Rattle.operation_maps.specs.Operation.{alike, operand_sizes}
use Rattle.operations.proofs.joining.all_alike.Given as goal

abbrev pub invariant-loop-k : goal.invariant-loop-k
invariant-loop-k l = (i : ℕ) → i < l.k → alike l.dimension (operand_sizes l.x.count l.x.shapes 0) (operand_sizes l.x.count l.x.shapes i) ≡ true
