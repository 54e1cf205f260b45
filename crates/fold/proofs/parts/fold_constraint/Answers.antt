-- What the search leaves of `fold::parts::fold_constraint`. Assumes nothing.
use borrow.Author.Tests.{not-false, not-true}
use Rattle.std.proofs.Common.{arith}
use Rattle.indexing.proofs.Formed.{counts}
use Rattle.fold.proofs.Runs.{constraint-run}
use Rattle.fold.proofs.Constraints.{constraint-over, constraint-gone, constraint-stays}
use Rattle.fold.proofs.parts.fold_constraint.Goals as goal

pub overflow_add-m : goal.overflow_add-m
overflow_add-m c =
    let n = counts c.args.m c.requires.0.formed in
    record { fits = omega (arith, n.results, n.constraints, c.requires.1) }

pub run_sum-s-requires : goal.run_sum-s-requires
run_sum-s-requires c = (c.requires.0, (constraint-run c.args.m c.requires.0.formed c.args.k c.requires.1).0, c.requires.2)

pub is_gone-requires : goal.is_gone-requires
is_gone-requires c = omega (arith, c.requires.1, (constraint-run c.args.m c.requires.0.formed c.args.k c.requires.1).1)

pub returns-then-not-s : goal.returns-then-not-s
returns-then-not-s c = constraint-over c.args.m c.args.k _ _ c.run_sum-s.ensures c.requires.3 (not-true _ c.if-not-s.true)

pub returns-then-is_gone : goal.returns-then-is_gone
returns-then-is_gone c =
    constraint-gone c.args.m c.args.k _ _ c.run_sum-s.ensures c.requires.3 (not-false _ c.if-not-s.false) _ c.is_gone.ensures c.if-is_gone.true

pub returns : goal.returns
returns c =
    constraint-stays c.args.m c.args.k _ _ c.run_sum-s.ensures c.requires.3 (not-false _ c.if-not-s.false) _ c.is_gone.ensures c.if-is_gone.false c.emit_sum-end.ensures
