use Rattle.shape.proofs.Marks.{marked_more, marked_all, not-below, met-again}
use Rattle.shape.proofs.dimensions.each_once.Goals as goal
use Rattle.shape.proofs.dimensions.each_once.Goals.{then-n-d-via-then-n-d, then-n-d-via-else-n-d+then-met-d-eq1}

pub returns-then-n-d : goal.returns-then-n-d
returns-then-n-d c =
    elim c.then-n-d.branch [
      | then-n-d-via-then-n-d w ↦ not-below _ _ c.loop-d-test.true w.if-n-d.true
      | then-n-d-via-else-n-d+then-met-d-eq1 w ↦
          met-again _ _ c.loop-d-test.true _ c.loop-d.invariant w.if-n-d.false w.if-met-d-eq1.true
    ]

pub loop-d-preserved : goal.loop-d-preserved
loop-d-preserved c = marked_more _ _ c.loop-d-test.true _ c.loop-d.invariant c.if-n-d.false c.if-met-d-eq1.false

pub returns : goal.returns
returns c = marked_all _ _ _ c.loop-d-test.false c.loop-d.invariant
