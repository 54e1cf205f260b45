-- `pack_bench::plain::plain_all` is safe. Assumes nothing.
use Rattle.std.proofs.Common.{rules, ◌≡◌, ◌≤◌, List, ℕ, length, sym, subst}
use Rattle.shape.specs.Shape.{sizes_of}
use Rattle.tiling.specs.Ready.{Ready}
use Rattle.tiling.specs.Tile.{padded}
use Rattle.layout.specs.Layout.{lens_of, tiles_of}
use Rattle.layout.proofs.Accepted.{accepted, order-held}
use Rattle.pack_bench.proofs.plain.plain_all.Goals as goal

pub shared_ref_as_front-reverse_into : goal.shared_ref_as_front-reverse_into
shared_ref_as_front-reverse_into c =
    let a = accepted c.args.shape c.args.layout (search rules) (record { order = search rules; lens = search rules; tile = search rules }) c.requires.layout_value.0 in
    a.limits.rank

pub shared_ref_as_front-plain_in-2 : goal.shared_ref_as_front-plain_in-2
shared_ref_as_front-plain_in-2 c =
    let a = accepted c.args.shape c.args.layout (search rules) (record { order = search rules; lens = search rules; tile = search rules }) c.requires.layout_value.0 in
    a.kept.tiles

pub plain_in-requires-clause-ready : goal.plain_in-requires-clause-ready
plain_in-requires-clause-ready c =
    let a = accepted c.args.shape c.args.layout (search rules) (record { order = search rules; lens = search rules; tile = search rules }) c.requires.layout_value.0 in
    let held = order-held a.kept c.reverse_into.new.out c.reverse_into.ensures in
    subst (λ (p : List ℕ). Ready (sizes_of c.args.shape) p (lens_of c.args.layout) c.args.layout.tile) (sym held) a.ready

pub plain_in-requires-clause-sizes_in_bounds : goal.plain_in-requires-clause-sizes_in_bounds
plain_in-requires-clause-sizes_in_bounds c =
    let a = accepted c.args.shape c.args.layout (search rules) (record { order = search rules; lens = search rules; tile = search rules }) c.requires.layout_value.0 in
    let held = order-held a.kept c.reverse_into.new.out c.reverse_into.ensures in
    (c.requires.layout_value.1, subst (λ (p : List ℕ). padded (sizes_of c.args.shape) p (tiles_of c.args.layout) ≤ length c.args.cells.now) (sym held) c.requires.layout_value.2)
