use Rattle.std.proofs.Common.{arith}
use Rattle.radix.proofs.Radix.{below}
use Rattle.radix.proofs.Loops.{row-next, row-low}
use Rattle.radix.proofs.row_major.Goals as goal

pub overflow_mul-acc : goal.overflow_mul-acc
overflow_mul-acc c =
    let s = c.in-Some.ensures.steps in
    omega (arith, row-low (row-next s.0 s.1 c.loop-d.invariant), below c.requires.fact, c.requires.ds_bound)

pub overflow_add-acc : goal.overflow_add-acc
overflow_add-acc c =
    let s = c.in-Some.ensures.steps in
    omega (arith, row-low (row-next s.0 s.1 c.loop-d.invariant), below c.requires.fact, c.requires.ds_bound)

pub loop-d-preserved : goal.loop-d-preserved
loop-d-preserved c =
    let s = c.in-Some.ensures.steps in
    row-next s.0 s.1 c.loop-d.invariant
