-- The width is among 1 to the most. Assumes nothing.
use Rattle.std.proofs.Common.{◌<◌, ◌≤◌, ◌-◌}
use Rattle.pack.proofs.cut.width_of.Given as goal

abbrev pub invariant-loop-width : goal.invariant-loop-width
invariant-loop-width l = (0 < l.width) × (l.width ≤ l.most)

abbrev pub decreases-loop-width : goal.decreases-loop-width
decreases-loop-width l = l.most - l.width
