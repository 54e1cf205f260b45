-- `layout::inner::padded_capped` meets its contract. Assumes nothing.
use Rattle.std.proofs.Common.{ℕ, List, sym, subst, rules}
use Rattle.shape.specs.Shape.{sizes_of}
use Rattle.tiling.specs.Ready.{Shaped}
use Rattle.layout.specs.Layout.{lens_of}
use Rattle.layout.proofs.Accepted.{Good, good_of, shaped_of}
use Rattle.layout.proofs.inner.padded_capped.Goals as goal

pub shared_ref_as_front-padded_cells : goal.shared_ref_as_front-padded_cells
shared_ref_as_front-padded_cells c =
    (good_of c.args.shape c.args.layout (search rules) (record { order = search rules; lens = search rules; tile = search rules }) c.requires.0 c.requires.1).kept.few

pub shared_ref_as_front-padded_cells-2 : goal.shared_ref_as_front-padded_cells-2
shared_ref_as_front-padded_cells-2 c =
    (good_of c.args.shape c.args.layout (search rules) (record { order = search rules; lens = search rules; tile = search rules }) c.requires.0 c.requires.1).kept.tiles

pub padded_cells-requires : goal.padded_cells-requires
padded_cells-requires c =
    let g : Good c.args.shape c.args.layout = good_of c.args.shape c.args.layout (search rules) (record { order = search rules; lens = search rules; tile = search rules }) c.requires.0 c.requires.1 in
    subst (λ (p : List ℕ). Shaped (sizes_of c.args.shape) p (lens_of c.args.layout) c.args.layout.tile) (sym c.order_of-order.ensures) (shaped_of g.limits g.kept)
