-- The invariant: the table has the offsets of the first j coordinates.
use Rattle.std.proofs.Common.{suc, drop}
use Rattle.radix.specs.Radix.{prod}
use Rattle.tiling.specs.Tiled.{tiles_in}
use Rattle.retile.specs.Rows.{HasSteps}
use Rattle.retile.proofs.along.near_offsets.Given as goal

abbrev pub invariant-loop-j : goal.invariant-loop-j
invariant-loop-j l = HasSteps l.t.sizes.now l.t.order.now (tiles_in l.t) (prod (drop (suc l.dimension) l.t.sizes.now)) l.j l.table
