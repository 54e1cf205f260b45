-- The invariant: the places before i are filled, each with its value.
use Rattle.std.proofs.Common.{ℕ, ◌+◌}
use Rattle.retile.specs.Retiling.{value_between}
use Rattle.retile.proofs.Filling.{Begun}
use Rattle.retile.proofs.values.values_into.Given as goal

abbrev pub invariant-loop-i : goal.invariant-loop-i
invariant-loop-i l =
    Begun (λ (x : ℕ). value_between l.s l.source (l.o + x)) l.fn.values l.values l.filled l.i
