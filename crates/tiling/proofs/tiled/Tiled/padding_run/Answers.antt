-- `tiling::tiled::Tiled::padding_run` meets its contract. Assumes nothing.
use Rattle.std.proofs.Common.{◌∙◌, ℕ, List, sym, ap, subst}
use Rattle.radix.specs.Radix.{is_inside}
use Rattle.tiling.proofs.Dims.{dims-room, dims-below, dims-small}
use Rattle.tiling.proofs.PaddingRuns.{outside-run}
use Rattle.tiling.specs.Runs.{rest_of, PaddingRun}
use Rattle.tiling.specs.Tiled.{tiles_in}
use Rattle.tiling.proofs.tiled.Tiled.padding_run.Goals as goal

pub rest_of-requires-clause-dims_bound : goal.rest_of-requires-clause-dims_bound
rest_of-requires-clause-dims_bound c = (dims-room c.args.self.now, dims-below c.args.self.now c.args.k c.requires.k_bound)

pub rest_of-requires-clause-sizes : goal.rest_of-requires-clause-sizes
rest_of-requires-clause-sizes c = dims-small c.args.self.now

pub returns : goal.returns
returns c =
    let t = c.args.self.now in
    let out = ap (λ (l : List ℕ). is_inside l t.sizes.now) (sym c.candidate_into.ensures) ∙ sym c.inside.ensures ∙ c.if-inside.false in
    let r = c.rest_of.ensures ∙ ap (λ (l : List ℕ). rest_of l c.args.k) t.same in
    subst (PaddingRun t.sizes.now t.order.now (tiles_in t) c.args.k) (sym r) (outside-run t.sizes.now t.order.now (tiles_in t) c.args.k c.requires.k_bound out)
