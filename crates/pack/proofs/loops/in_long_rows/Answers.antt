-- `pack::loops::in_long_rows` meets its contract. Assumes nothing.
use Rattle.reciprocal.proofs.Dividing.{multipliers-lent}
use Rattle.pack.proofs.loops.in_long_rows.Goals as goal

pub invariant_of-t-clause-divides : goal.invariant_of-t-clause-divides
invariant_of-t-clause-divides c = multipliers-lent _ c.multipliers-m.ensures
