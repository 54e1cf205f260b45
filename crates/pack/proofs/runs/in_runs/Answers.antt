-- `pack::runs::in_runs` meets its contract. Assumes nothing.
use Rattle.std.proofs.Common.{arith}
use Rattle.pack.proofs.Copying.{at_front, at_next, runs-more}
use Rattle.pack.proofs.runs.in_runs.Goals as goal

pub loop-j-init : goal.loop-j-init
loop-j-init c = (omega arith, at_front c.args.run c.args.table.now, λ k i l h. absurd (omega (arith, h)))

pub loop-j-preserved : goal.loop-j-preserved
loop-j-preserved c =
    let l = c.loop-j in
    let w = c.run_from-n in (
      w.ensures.inside,
      at_next c.args.run c.args.table.now l.j w.result w.ensures l.invariant.1,
      runs-more c.args.run c.args.table.now l.j w.result l.invariant.1 w.ensures (c.goes_on.ensures c.if-not-goes_on.false) l.invariant.2,
    )

pub returns : goal.returns
returns c e k i h l = c.loop-j.invariant.2 k i h (omega (arith, l, c.loop-j-test.false))
