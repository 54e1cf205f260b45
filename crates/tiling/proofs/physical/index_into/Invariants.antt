-- The invariant: the tiles that are left make the physical index of what stands there.
use Rattle.tiling.proofs.Levels.{AtLevel}
use Rattle.tiling.specs.Tile.{tiles_from, tile_index, index_of, gather}
use Rattle.tiling.proofs.physical.index_into.Given as goal

abbrev pub invariant-loop-l : goal.invariant-loop-l
invariant-loop-l l = AtLevel tile_index (index_of (tiles_from l.lens l.flat) (gather l.p l.point)) l.lens l.flat l.at l.len l.l
