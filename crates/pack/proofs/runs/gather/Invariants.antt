-- What is left of the table makes of the places what the whole table makes of the first ones. Assumes nothing.
use Rattle.std.proofs.Common.{◌≡◌, ◌+◌, drop}
use Rattle.pack.specs.Rows.{gathered}
use Rattle.pack.proofs.runs.gather.Given as goal

abbrev pub invariant-loop-j : goal.invariant-loop-j
invariant-loop-j l = gathered l.cells l.base (drop l.j l.table) (l.a + l.j) l.destination ≡ gathered l.cells l.base l.table l.a l.fn.destination
