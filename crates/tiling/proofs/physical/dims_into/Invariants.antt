-- The invariant: the tiles that are left make the physical shape of what stands there.
use Rattle.tiling.proofs.Levels.{AtLevel}
use Rattle.tiling.specs.Tile.{tiles_from, tile_dims, dims_of, gather}
use Rattle.tiling.proofs.physical.dims_into.Given as goal

abbrev pub invariant-loop-l : goal.invariant-loop-l
invariant-loop-l l = AtLevel tile_dims (dims_of (tiles_from l.lens l.flat) (gather l.p l.sizes)) l.lens l.flat l.at l.len l.l
