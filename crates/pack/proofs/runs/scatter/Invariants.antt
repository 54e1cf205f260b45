-- What is left of the table makes of the cells what the whole table makes of the first ones. Assumes nothing.
use Rattle.std.proofs.Common.{◌≡◌, ◌+◌, drop}
use Rattle.pack.specs.Rows.{scattered}
use Rattle.pack.proofs.runs.scatter.Given as goal

abbrev pub invariant-loop-j : goal.invariant-loop-j
invariant-loop-j l = scattered l.source l.base (drop l.j l.table) (l.a + l.j) l.cells ≡ scattered l.source l.base l.table l.a l.fn.cells
