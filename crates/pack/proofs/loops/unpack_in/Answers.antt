-- `pack::loops::unpack_in` meets its contract. Assumes nothing.
use Rattle.tiling.specs.Tiled.{tiles_in}
use Rattle.pack.proofs.Packing.{unpack-whole}
use Rattle.pack.proofs.loops.unpack_in.Goals as goal

pub returns : goal.returns
returns c =
    let a = c.args in
    unpack-whole a.t.now.sizes.now a.t.now.order.now (tiles_in a.t.now) a.cells.now a.destination.now c.carry.new.to c.carry.auto.to c.requires.sizes_in_bounds.0 c.carry.ensures
