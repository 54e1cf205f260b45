-- The table has the offsets of the elements that differ in the dimensions from k on only. Assumes nothing.
use Rattle.std.proofs.Common.{◌≡◌, drop}
use Rattle.radix.specs.Radix.{prod}
use Rattle.tiling.specs.Tiled.{tiles_in}
use Rattle.pack.specs.Rows.{HasOffsets}
use Rattle.pack.proofs.table.offsets_into.Given as goal

abbrev pub invariant-loop-k : goal.invariant-loop-k
invariant-loop-k l = (l.span ≡ prod (drop l.k l.t.sizes.now)) × HasOffsets l.t.sizes.now l.t.order.now (tiles_in l.t) l.span l.n l.table
