-- The sum of the operands before k.
use Rattle.std.proofs.Common.{◌≡◌}
use Rattle.operation_maps.specs.Operation.{joined_before}
use Rattle.operations.proofs.joining.joined_before.Given as goal

abbrev pub invariant-loop-k : goal.invariant-loop-k
invariant-loop-k l = l.sum ≡ joined_before l.x.count l.x.shapes l.dimension l.k
