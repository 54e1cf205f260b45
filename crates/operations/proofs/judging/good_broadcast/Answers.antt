-- What the search leaves of `operations::judging::good_broadcast`. Assumes nothing.
use Rattle.std.proofs.Common.{sym, ◌∙◌, arith, rules}
use Rattle.operations.proofs.Judged.{broadcast-differs, broadcast-all, listed_below}
use Rattle.operations.proofs.judging.good_broadcast.Goals as goal

pub offset_bounds-outer-at : goal.offset_bounds-outer-at
offset_bounds-outer-at c =
    let below = listed_below c.args.inner.now c.args.outer.now c.args.list.now (sym c.in_range.ensures ∙ c.if-not-in_range.false) c.loop-k.k c.loop-k-test.true in
    search (rules, below)

pub bounds-outer-at : goal.bounds-outer-at
bounds-outer-at c = listed_below c.args.inner.now c.args.outer.now c.args.list.now (sym c.in_range.ensures ∙ c.if-not-in_range.false) c.loop-k.k c.loop-k-test.true

pub returns-then-inner-k : goal.returns-then-inner-k
returns-then-inner-k c = broadcast-differs c.args.inner.now c.args.outer.now c.args.list.now c.loop-k.k c.loop-k-test.true c.if-inner-k.true

pub returns : goal.returns
returns c =
    broadcast-all c.args.inner.now c.args.outer.now c.args.list.now c.if-list-inner.false (sym c.in_range.ensures ∙ c.if-not-in_range.false)
    (λ k h. c.loop-k.invariant k (omega arith))
