-- What the search leaves of `operation_builder::axes::add_tests`. Assumes nothing.
use Rattle.std.proofs.Common.{sym, ap, ◌∙◌, subst, arith}
use Rattle.map_builder.specs.declared.Draft.{Draft}
use Rattle.operation_maps.specs.declared.Axis.{Axis}
use Rattle.operation_builder.specs.Family.{axis_at, Ready}
use Rattle.operation_builder.specs.AxisDraft.{add_test, add_tests}
use Rattle.map_builder.proofs.Steps.{steps-none, steps_next, steps-grow}
use Rattle.operation_builder.proofs.AxisSteps.{test-grows}
use Rattle.operation_builder.proofs.axes.add_tests.Goals as goal

pub loop-i-init : goal.loop-i-init
loop-i-init c = steps-none (add_tests c.args.out c.args.change c.args.sizes.now c.args.a.now c.args.b.now c.args.c.now) c.args.d

pub add_test-x-requires : goal.add_test-x-requires
add_test-x-requires c =
    let g =
    steps-grow (add_tests c.args.out c.args.change c.args.sizes.now c.args.a.now c.args.b.now c.args.c.now)
    (λ k x. test-grows c.args.out (axis_at c.args.change c.args.sizes.now c.args.a.now c.args.b.now c.args.c.now k) k x) c.loop-i.i c.args.d in
    let e = c.loop-i.invariant in
    let few = c.requires.all.few in
    record {
      nodes = omega (arith, ap (λ (u : Draft). u.at) e, g.nodes);
      under = ap (λ (u : Draft). u.under) e ∙ g.under c.requires.under;
      variable = omega arith;
      constraints = omega (arith, ap (λ (u : Draft). u.map.constraints) e, g.constraints);
      ready = subst Ready (sym c.axis_at.ensures) (c.requires.all.ready c.loop-i.i c.loop-i-test.true);
    }

pub loop-i-preserved : goal.loop-i-preserved
loop-i-preserved c =
    steps_next (add_tests c.args.out c.args.change c.args.sizes.now c.args.a.now c.args.b.now c.args.c.now) c.loop-i.i c.args.d c.loop-i.x c.add_test-x.result c.loop-i.invariant
    (c.add_test-x.ensures ∙ ap (λ (a : Axis). add_test c.args.out a c.loop-i.i c.loop-i.x) c.axis_at.ensures)
