-- What the search leaves of `operation_builder::digits::add_digit`. Assumes nothing.
use Rattle.std.proofs.Common.{arith}
use Rattle.expression.specs.Node.{max_variables}
use Rattle.map_builder.proofs.Linear.{linear-grown}
use Rattle.map_builder.proofs.Steps.{pushed-grown, grown-then}
use Rattle.operation_builder.proofs.digits.add_digit.Goals as goal

pub push_floordiv-q-requires : goal.push_floordiv-q-requires
push_floordiv-q-requires c =
    let g = linear-grown c.args.sizes.now c.args.d c.push_linear-l.result max_variables c.requires.few (omega arith) c.push_linear-l.ensures in
    record { nodes = omega (arith, g.nodes); under = g.under c.requires.under; small = c.requires.after_small }

pub end_result-requires : goal.end_result-requires
end_result-requires c =
    let g = linear-grown c.args.sizes.now c.args.d c.push_linear-l.result max_variables c.requires.few (omega arith) c.push_linear-l.ensures in
    let q = pushed-grown c.push_linear-l.result c.push_floordiv-q.result _ _ c.push_floordiv-q.ensures in
    omega (arith, g.results, q.results)

pub push_mod-m-requires : goal.push_mod-m-requires
push_mod-m-requires c =
    let l = linear-grown c.args.sizes.now c.args.d c.push_linear-l.result max_variables c.requires.few (omega arith) c.push_linear-l.ensures in
    let q = pushed-grown c.push_linear-l.result c.push_floordiv-q.result _ _ c.push_floordiv-q.ensures in
    let g = grown-then c.args.d c.push_linear-l.result c.push_floordiv-q.result 24 1 l q in
    record { nodes = omega (arith, g.nodes); under = g.under c.requires.under; small = omega (arith, c.requires.size_small) }

pub end_result-requires-2 : goal.end_result-requires-2
end_result-requires-2 c =
    let g = linear-grown c.args.sizes.now c.args.d c.push_linear-l.result max_variables c.requires.few (omega arith) c.push_linear-l.ensures in
    let q = pushed-grown c.push_linear-l.result c.push_floordiv-q.result _ _ c.push_floordiv-q.ensures in
    let m = pushed-grown c.push_floordiv-q.result c.push_mod-m.result _ _ c.push_mod-m.ensures in
    omega (arith, g.results, q.results, m.results)
