-- `tiling::physical::dims_into` meets its contract. Assumes nothing.
use Rattle.std.proofs.Common.{arith}
use Rattle.tiling.proofs.Levels.{level-next, level-end}
use Rattle.tiling.specs.Tile.{tiles_from, tile_dims, dims_of, gather, physical}
use Rattle.tiling.proofs.physical.dims_into.Goals as goal

pub loop-l-preserved : goal.loop-l-preserved
loop-l-preserved c =
    let a = c.args in
    level-next tile_dims a.lens.now a.flat.now (dims_of (tiles_from a.lens.now a.flat.now) (gather a.p.now a.sizes.now)) c.entries.result.now c.loop-l.at c.tile_dims.new.at c.loop-l.len c.loop-l.l
    c.loop-l.invariant c.loop-l-test.true c.entries.ensures.value (omega arith) c.tile_dims.ensures

pub returns : goal.returns
unfolding physical
returns c =
    let a = c.args in
    let v = c.loop-l.invariant in
    (omega arith, level-end tile_dims a.lens.now a.flat.now (dims_of (tiles_from a.lens.now a.flat.now) (gather a.p.now a.sizes.now)) c.loop-l.at c.loop-l.len c.loop-l.l v c.loop-l-test.false)
