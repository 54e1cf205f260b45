-- The first j entries are repeated. Assumes nothing.
use Rattle.pack.specs.Rows.{Repeated}
use Rattle.pack.proofs.table.repeat_row.Given as goal

abbrev pub invariant-loop-j : goal.invariant-loop-j
invariant-loop-j l = Repeated l.base l.a l.j l.fn.table l.table
