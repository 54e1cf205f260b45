-- What the search leaves of `operation_builder::selections::add_coordinates`. Assumes nothing.
use Rattle.std.proofs.Common.{ap, ◌∙◌, arith}
use Rattle.map_builder.specs.declared.Draft.{Draft}
use Rattle.operation_builder.specs.SelectionDraft.{add_coordinate}
use Rattle.map_builder.proofs.Steps.{steps-none, steps_next, steps-grow}
use Rattle.operation_builder.proofs.SelectionSteps.{coordinate-grows}
use Rattle.operation_builder.proofs.selections.add_coordinates.Goals as goal

pub loop-i-init : goal.loop-i-init
loop-i-init c = steps-none (add_coordinate c.args.sizes.now c.args.list.now) c.args.d

pub add_coordinate-out-requires : goal.add_coordinate-out-requires
add_coordinate-out-requires c =
    let ns = c.args.sizes.now in
    let g = steps-grow (add_coordinate ns c.args.list.now) (coordinate-grows ns c.args.list.now) c.loop-i.i c.args.d in
    let e = c.loop-i.invariant in
    let few = c.requires.ready.few in
    record {
      nodes = omega (arith, ap (λ (u : Draft). u.at) e, g.nodes);
      under = ap (λ (u : Draft). u.under) e ∙ g.under c.requires.under;
      ranges = omega (arith, ap (λ (u : Draft). u.map.ranges) e, g.ranges);
      results = omega (arith, ap (λ (u : Draft). u.map.results) e, g.results);
      inside = c.loop-i-test.true;
      ready = c.requires.ready;
    }

pub loop-i-preserved : goal.loop-i-preserved
loop-i-preserved c =
    steps_next (add_coordinate c.args.sizes.now c.args.list.now) c.loop-i.i c.args.d c.loop-i.out c.add_coordinate-out.result c.loop-i.invariant c.add_coordinate-out.ensures
