-- The first i values are copied. Assumes nothing.
use Rattle.std.proofs.Common.{◌≡◌}
use Rattle.pack.specs.Runs.{copied}
use Rattle.pack.proofs.runs.copy_values.Given as goal

abbrev pub invariant-loop-i : goal.invariant-loop-i
invariant-loop-i l = l.target ≡ copied l.source l.a l.i l.o l.fn.target
