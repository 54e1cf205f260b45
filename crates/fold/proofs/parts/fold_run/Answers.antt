-- What the search leaves of `fold::parts::fold_run`. Assumes nothing.
use borrow.Author.Tests.{not-false, not-true}
use Rattle.fold.proofs.Results.{writes-over, writes-run}
use Rattle.fold.proofs.parts.fold_run.Goals as goal

pub returns-then-not-s : goal.returns-then-not-s
returns-then-not-s c = writes-over c.args.m c.args.i _ _ c.run_sum-s.ensures c.requires.3 (not-true _ c.if-not-s.true)

pub returns : goal.returns
returns c = writes-run c.args.m c.args.i _ _ c.run_sum-s.ensures c.requires.3 (not-false _ c.if-not-s.false) c.emit_sum-end.ensures
