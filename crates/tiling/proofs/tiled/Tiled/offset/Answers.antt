-- `tiling::tiled::Tiled::offset` meets its contract. Assumes nothing.
use Rattle.std.proofs.Common.{◌∙◌, ap}
use Rattle.tiling.proofs.Fills.{digits-front, digits-inside}
use Rattle.tiling.specs.Tile.{offset, offset_at}
use Rattle.tiling.specs.Tiled.{tiles_in}
use Rattle.tiling.proofs.tiled.Tiled.offset.Goals as goal

pub offset_at-requires : goal.offset_at-requires
offset_at-requires c = digits-inside c.args.self.now.sizes.now c.digits_into.new.out _ c.args.n c.requires c.digits_into.ensures

pub returns : goal.returns
unfolding offset
returns c =
    let t = c.args.self.now in
    c.offset_at.ensures ∙ ap (offset_at t.sizes.now t.order.now (tiles_in t)) (digits-front t.sizes.now c.digits_into.new.out _ c.args.n c.requires c.digits_into.ensures)
