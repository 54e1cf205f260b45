-- A run begins at j, and what is left of the table makes of the places what the whole table makes of the first ones. Assumes nothing.
use Rattle.std.proofs.Common.{◌≡◌, ◌≤◌, ◌+◌, ◌-◌, length, drop}
use Rattle.pack.specs.Rows.{gathered}
use Rattle.pack.proofs.Copying.{AtRun}
use Rattle.pack.proofs.runs.gather_runs.Given as goal

abbrev pub invariant-loop-j : goal.invariant-loop-j
invariant-loop-j l = (l.j ≤ length l.table) × AtRun l.run l.table l.j × (gathered l.cells l.base (drop l.j l.table) (l.a + l.j) l.destination ≡ gathered l.cells l.base l.table l.a l.fn.destination)

abbrev pub decreases-loop-j : goal.decreases-loop-j
decreases-loop-j l = length l.table - l.j
