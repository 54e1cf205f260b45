-- `layout::inner::cell_found` meets its contract. Assumes nothing.
use Rattle.std.proofs.Common.{ℕ, List, sym, subst, rules}
use Rattle.shape.specs.Shape.{sizes_of}
use Rattle.tiling.specs.Ready.{Ready}
use Rattle.layout.specs.Layout.{lens_of}
use Rattle.layout.proofs.Accepted.{accepted}
use Rattle.layout.proofs.inner.cell_found.Goals as goal

pub shared_ref_as_front-cell_found : goal.shared_ref_as_front-cell_found
shared_ref_as_front-cell_found c = (accepted c.args.shape c.args.layout (search rules) (record { order = search rules; lens = search rules; tile = search rules }) c.requires.0).kept.few

pub shared_ref_as_front-cell_found-2 : goal.shared_ref_as_front-cell_found-2
shared_ref_as_front-cell_found-2 c = (accepted c.args.shape c.args.layout (search rules) (record { order = search rules; lens = search rules; tile = search rules }) c.requires.0).kept.tiles

pub cell_found-requires-clause-ready : goal.cell_found-requires-clause-ready
cell_found-requires-clause-ready c =
    subst (λ (p : List ℕ). Ready (sizes_of c.args.shape) p (lens_of c.args.layout) c.args.layout.tile) (sym c.order_of-order.ensures)
    (accepted c.args.shape c.args.layout (search rules) (record { order = search rules; lens = search rules; tile = search rules }) c.requires.0).ready
