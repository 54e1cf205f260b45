-- `offset_table::listed::first_maker` meets its contract. Assumes nothing.
use Rattle.std.proofs.Common.{◌≤◌, length, take, rules, arith}
use borrow.Author.Tests.{tests}
use Rattle.std.proofs.lemmas.Iterator.{YieldsList-from_slice}
use Rattle.std.proofs.lemmas.Iterator.Adapters.{serves_from_places}
use Rattle.std.proofs.lemmas.List.{length-take-le}
use Rattle.layout.specs.Layout.{blank_layout}
use Rattle.offset_table.proofs.Rules.{asked}
use Rattle.offset_table.proofs.Walks.{taken-at}
use Rattle.offset_table.proofs.listed.first_maker.Goals as goal

pub slice_bounds-layouts-end : goal.slice_bounds-layouts-end
slice_bounds-layouts-end c = omega (arith, (asked _ _ c.args.padded _ _ c.requires).few)

pub slice_bounds-iter-end : goal.slice_bounds-iter-end
slice_bounds-iter-end c =
    let few : c.args.count ≤ length c.args.layouts = omega (arith, (asked _ _ c.args.padded _ _ c.requires).few) in
    omega (arith, length-take-le c.args.count c.args.layouts few)

pub position-requires-clause-callable : goal.position-requires-clause-callable
position-requires-clause-callable c =
    let q = asked _ _ c.args.padded _ _ c.requires in
    let few : c.args.count ≤ length c.args.layouts = omega (arith, q.few) in
    serves_from_places (YieldsList-from_slice (take c.args.count c.args.layouts) cc) (λ x q k. search (rules, tests))
    (λ x k l e.
    let t = taken-at c.args.count k c.args.layouts x.now blank_layout few l e in
    λ _ _ _ _ _ _ _ _ _ _. (rw t.1 (q.each k t.0), q.table))
