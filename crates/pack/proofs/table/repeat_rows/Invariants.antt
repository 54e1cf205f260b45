-- The table has the offsets of the first x coordinates. Assumes nothing.
use Rattle.std.proofs.Common.{◌<◌, ◌≤◌, ◌-◌, ◌*◌}
use Rattle.tiling.specs.Tiled.{tiles_in}
use Rattle.pack.specs.Rows.{HasOffsets}
use Rattle.pack.proofs.table.repeat_rows.Given as goal

abbrev pub invariant-loop-x : goal.invariant-loop-x
invariant-loop-x l = (0 < l.x) × (l.x ≤ l.size) × HasOffsets l.t.sizes.now l.t.order.now (tiles_in l.t) (l.x * l.span) l.n l.table

abbrev pub decreases-loop-x : goal.decreases-loop-x
decreases-loop-x l = l.size - l.x
