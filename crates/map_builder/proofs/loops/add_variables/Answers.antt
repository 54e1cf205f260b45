-- What the search leaves of `map_builder::loops::add_variables`. Assumes nothing.
use Rattle.std.proofs.Common.{ap, ◌∙◌, arith}
use Rattle.map_builder.specs.declared.Draft.{Draft}
use Rattle.map_builder.specs.Draft.{add_variable, end_result}
use Rattle.map_builder.proofs.Steps.{steps-none, steps_next, steps-grow, variable-grows}
use Rattle.map_builder.proofs.loops.add_variables.Goals as goal

pub loop-k-init : goal.loop-k-init
loop-k-init c = steps-none (add_variable c.args.list.now) c.args.d

pub push_variable-requires : goal.push_variable-requires
push_variable-requires c =
    let g = steps-grow (add_variable c.args.list.now) (variable-grows c.args.list.now) c.loop-k.k-index c.args.d in
    let e = c.loop-k.invariant in
    record {
      nodes = omega (arith, ap (λ (u : Draft). u.at) e, g.nodes);
      under = omega (arith, ap (λ (u : Draft). u.under) e, g.under c.requires.under);
      small = omega (arith, c.requires.inside c.loop-k.k-index c.loop-k-test.true);
    }

pub end_result-out-requires : goal.end_result-out-requires
end_result-out-requires c =
    let g = steps-grow (add_variable c.args.list.now) (variable-grows c.args.list.now) c.loop-k.k-index c.args.d in
    omega (arith, ap (λ (u : Draft). u.map.results) c.push_variable.ensures, ap (λ (u : Draft). u.map.results) c.loop-k.invariant, g.results)

pub loop-k-preserved : goal.loop-k-preserved
loop-k-preserved c =
    steps_next (add_variable c.args.list.now) c.loop-k.k-index c.args.d c.loop-k.out c.end_result-out.result c.loop-k.invariant
    (c.end_result-out.ensures ∙ ap end_result c.push_variable.ensures)
