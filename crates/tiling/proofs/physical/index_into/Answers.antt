-- `tiling::physical::index_into` meets its contract. Assumes nothing.
use Rattle.std.proofs.Common.{arith}
use Rattle.tiling.proofs.Levels.{level-next}
use Rattle.tiling.specs.Tile.{tiles_from, tile_index, index_of, gather}
use Rattle.tiling.proofs.physical.index_into.Goals as goal

pub loop-l-preserved : goal.loop-l-preserved
loop-l-preserved c =
    let a = c.args in
    level-next tile_index a.lens.now a.flat.now (index_of (tiles_from a.lens.now a.flat.now) (gather a.p.now a.point.now)) c.entries.result.now c.loop-l.at c.tile_index.new.at c.loop-l.len c.loop-l.l
    c.loop-l.invariant c.loop-l-test.true c.entries.ensures.value (omega arith) c.tile_index.ensures
