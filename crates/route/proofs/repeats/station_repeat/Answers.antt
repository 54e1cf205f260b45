-- `route::repeats::station_repeat` meets its contract. Assumes nothing.
use Rattle.std.proofs.Common.{sym, ◌∙◌, below_more, arith}
use borrow.Author.Count.{below_none}
use Rattle.shape.proofs.FirstRepeats.{no-repeat, first-repeat}
use Rattle.route.specs.LayoutRepeats.{same_at}
use Rattle.route.proofs.LayoutRepeats.{station-found, station-free}
use Rattle.route.proofs.repeats.station_repeat.Goals as goal

pub loop-later-init : goal.loop-later-init
loop-later-init c = below_none _

pub loop-earlier-init : goal.loop-earlier-init
loop-earlier-init c = below_none _

pub loop-earlier-preserved : goal.loop-earlier-preserved
loop-earlier-preserved c = below_more _ _ c.loop-earlier.invariant (sym c.same_layout.ensures ∙ c.if-same_layout.false)

pub loop-later-preserved : goal.loop-later-preserved
loop-later-preserved c =
    below_more _ _ c.loop-later.invariant
    (no-repeat (same_at c.args.station) c.loop-later.later (λ a h. c.loop-earlier.invariant a (omega arith)))

pub returns-then-same_layout : goal.returns-then-same_layout
returns-then-same_layout c =
    let x = c.args.station in
    station-found x c.args.i
    (first-repeat (same_at x) x.count c.loop-earlier.earlier c.loop-later.later c.loop-earlier-test.true c.loop-later-test.true
    (sym c.same_layout.ensures ∙ c.if-same_layout.true)
    c.loop-earlier.invariant
    c.loop-later.invariant)

pub returns : goal.returns
returns c = station-free c.args.station c.args.i (λ k l. c.loop-later.invariant k (omega arith))
