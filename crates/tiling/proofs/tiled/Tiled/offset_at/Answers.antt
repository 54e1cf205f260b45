-- `tiling::tiled::Tiled::offset_at` meets its contract. Assumes nothing.
use Rattle.std.proofs.Common.{◌∙◌, ℕ, List, ap, take}
use Rattle.radix.proofs.Radix.{in_both, in-length}
use Rattle.radix.specs.Radix.{row_major}
use Rattle.tiling.proofs.Dims.{dims-room}
use Rattle.tiling.proofs.OwnCells.{point-inside}
use Rattle.tiling.proofs.Shaped.{shaped-valid, shaped-under}
use Rattle.tiling.specs.Tile.{physical, offset_at}
use Rattle.tiling.specs.Tiled.{tiles_in}
use Rattle.tiling.proofs.tiled.Tiled.offset_at.Goals as goal

pub index_into-n-requires-clause-under : goal.index_into-n-requires-clause-under
index_into-n-requires-clause-under c = shaped-under c.args.self.now.ready.shaped _ (in-length c.requires)

pub row_major-requires-clause-fact : goal.row_major-requires-clause-fact
row_major-requires-clause-fact c =
    let t = c.args.self.now in
    in_both c.index_into-n.ensures.1 t.same (point-inside t.sizes.now t.order.now (tiles_in t) (shaped-valid t.ready.shaped) c.args.point.now c.requires)

pub row_major-requires-clause-ds_bound : goal.row_major-requires-clause-ds_bound
row_major-requires-clause-ds_bound c = dims-room c.args.self.now

pub returns : goal.returns
unfolding offset_at
returns c =
    let t = c.args.self.now in
    c.row_major.ensures
    ∙ ap (λ (l : List ℕ). row_major l (take c.index_into-n.result c.index_into-n.new.at)) t.same
    ∙ ap (row_major (physical t.sizes.now t.order.now (tiles_in t))) c.index_into-n.ensures.1
