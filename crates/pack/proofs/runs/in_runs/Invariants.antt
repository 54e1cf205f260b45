-- A run begins at j, and the table goes on by ones in runs before it. Assumes nothing.
use Rattle.std.proofs.Common.{◌≤◌, ◌-◌, length}
use Rattle.pack.specs.Runs.{RunsTo}
use Rattle.pack.proofs.Copying.{AtRun}
use Rattle.pack.proofs.runs.in_runs.Given as goal

abbrev pub invariant-loop-j : goal.invariant-loop-j
invariant-loop-j l = (l.j ≤ length l.table) × AtRun l.run l.table l.j × RunsTo l.run l.table l.j

abbrev pub decreases-loop-j : goal.decreases-loop-j
decreases-loop-j l = length l.table - l.j
