-- What the search leaves of `operation_builder::axes::axes_map`. Assumes nothing.
use Rattle.std.proofs.Common.{refl, ap, ◌∙◌, length, arith}
use Rattle.map_builder.specs.declared.Draft.{Draft}
use Rattle.map_builder.specs.Draft.{empty_draft, steps}
use Rattle.operation_builder.specs.Family.{axis_at}
use Rattle.operation_builder.specs.AxisDraft.{add_axes, add_tests}
use Rattle.map_builder.proofs.Steps.{steps-grow}
use Rattle.operation_builder.proofs.AxisSteps.{axis-grows, axes-leave, axes-made}
use Rattle.operation_builder.proofs.axes.axes_map.Goals as goal

pub add_tests-y-requires : goal.add_tests-y-requires
add_tests-y-requires c =
    let n = length c.args.sizes.now in
    let f = add_axes c.args.out c.args.change c.args.sizes.now c.args.a.now c.args.b.now c.args.c.now in
    let axis = axis_at c.args.change c.args.sizes.now c.args.a.now c.args.b.now c.args.c.now in
    let w = c.add_axes-x.ensures ∙ ap (steps f n) c.empty.ensures in
    let g = steps-grow f (λ k x. axis-grows c.args.out (axis k) k x) n empty_draft in
    let o = axes-leave c.args.out axis n empty_draft in
    record {
      nodes = omega (arith, ap (λ (u : Draft). u.at) w, g.nodes, c.requires.few);
      under = ap (λ (u : Draft). u.under) w ∙ g.under refl;
      constraints = ap (λ (u : Draft). u.map.constraints) w ∙ o;
      all = c.requires;
    }

pub returns : goal.returns
returns c =
    let n = length c.args.sizes.now in
    let f = add_axes c.args.out c.args.change c.args.sizes.now c.args.a.now c.args.b.now c.args.c.now in
    let h = add_tests c.args.out c.args.change c.args.sizes.now c.args.a.now c.args.b.now c.args.c.now in
    ap (λ (u : Draft). u.map) (c.add_tests-y.ensures ∙ ap (steps h n) (c.add_axes-x.ensures ∙ ap (steps f n) c.empty.ensures))
    ∙ axes-made c.args.out (axis_at c.args.change c.args.sizes.now c.args.a.now c.args.b.now c.args.c.now) n c.requires.few
