-- `pack::tiled_of` meets its contract. Assumes nothing.
use Rattle.std.proofs.Common.{rules, ◌≡◌, List, ℕ, take, sym, subst}
use Rattle.shape.specs.Shape.{sizes_of}
use Rattle.tiling.specs.Ready.{Ready}
use Rattle.tiling.specs.Tile.{physical}
use Rattle.layout.specs.Layout.{lens_of, tiles_of}
use Rattle.layout.proofs.Accepted.{accepted}
use Rattle.pack.proofs.tiled_of.Goals as goal

pub shared_ref_as_front-result : goal.shared_ref_as_front-result
shared_ref_as_front-result c =
    let a = accepted c.args.shape.now c.args.layout.now (search rules) (record { order = search rules; lens = search rules; tile = search rules }) c.requires.judged in
    a.limits.rank

pub shared_ref_as_front-result-2 : goal.shared_ref_as_front-result-2
shared_ref_as_front-result-2 c =
    let a = accepted c.args.shape.now c.args.layout.now (search rules) (record { order = search rules; lens = search rules; tile = search rules }) c.requires.judged in
    a.limits.rank

pub shared_ref_as_front-result-3 : goal.shared_ref_as_front-result-3
shared_ref_as_front-result-3 c =
    let a = accepted c.args.shape.now c.args.layout.now (search rules) (record { order = search rules; lens = search rules; tile = search rules }) c.requires.judged in
    a.kept.tiles

pub invariant_of-result-clause-ready : goal.invariant_of-result-clause-ready
invariant_of-result-clause-ready c =
    let a = accepted c.args.shape.now c.args.layout.now (search rules) (record { order = search rules; lens = search rules; tile = search rules }) c.requires.judged in
    subst (λ (p : List ℕ). Ready (sizes_of c.args.shape.now) p (lens_of c.args.layout.now) c.args.layout.now.tile) (sym c.requires.extent.order) a.ready

pub invariant_of-result-clause-same : goal.invariant_of-result-clause-same
invariant_of-result-clause-same c =
    subst (λ (p : List ℕ). take c.args.x.len c.args.dims.now ≡ physical (sizes_of c.args.shape.now) p (tiles_of c.args.layout.now)) (sym c.requires.extent.order) c.requires.extent.same
