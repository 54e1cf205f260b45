-- What the search leaves of `words::merging::order`. Assumes nothing.
use Rattle.words.proofs.Joined.{none_left, second-left, first-left, both_left}
use Rattle.words.proofs.merging.order.Goals as goal

pub returns-then-m-eq0 : goal.returns-then-m-eq0
returns-then-m-eq0 c = none_left c.args.w.now c.args.p _ c.args.v.now c.args.i _ c.if-n-eq0.true c.if-m-eq0.true

pub returns-then-n-eq0 : goal.returns-then-n-eq0
returns-then-n-eq0 c = second-left c.args.w.now c.args.p _ c.args.v.now c.args.i _ c.if-n-eq0.true c.if-m-eq0.false

pub returns-then-m-eq0-2 : goal.returns-then-m-eq0-2
returns-then-m-eq0-2 c = first-left c.args.w.now c.args.p _ c.args.v.now c.args.i _ c.if-n-eq0.false c.if-m-eq0-2.true

pub returns : goal.returns
returns c =
    both_left c.args.w.now c.args.p _ c.args.v.now c.args.i _ c.skip_atom-q.result c.skip_atom-j.result _ c.if-n-eq0.false c.if-m-eq0-2.false c.skip_atom-q.ensures
    c.skip_atom-j.ensures c.compare_words.ensures
