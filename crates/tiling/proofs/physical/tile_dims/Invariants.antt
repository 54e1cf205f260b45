-- The invariant: the first j entries of the tile are done.
use Rattle.std.proofs.Common.{take}
use Rattle.tiling.proofs.InPlace.{Partly, entry}
use Rattle.tiling.specs.Tile.{ceil}
use Rattle.tiling.proofs.physical.tile_dims.Given as goal

abbrev pub invariant-loop-j : goal.invariant-loop-j
invariant-loop-j l = Partly ceil entry l.len l.ts (take l.len l.fn.at) l.at l.j
