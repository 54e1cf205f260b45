-- `tree_planner::least` meets its contract. Assumes nothing.
use Rattle.std.proofs.Common.{arith, ap}
use Rattle.tree_planner.specs.Words.{value_of}
use Rattle.tree_planner.proofs.Comparing.{least-of}
use Rattle.tree_planner.proofs.Filling.{good-at, scan-first, scan-next, scan-end}
use Rattle.tree_planner.proofs.least.Goals as goal

pub loop-b-init : goal.loop-b-init
loop-b-init c = (scan-first _ _ c.far-best.ensures.0, c.far-best.ensures.1)

pub load-requires : goal.load-requires
load-requires c = (omega arith, omega (arith, c.requires.0.long))

pub loop-b-preserved : goal.loop-b-preserved
loop-b-preserved c =
    let i = c.loop-b.invariant in
    let m = least-of _ _ _ i.1 (good-at _ _ _ c.requires.0.sound c.load.ensures).words c.min-best.ensures in
    (scan-next _ _ _ _ _ i.0 (ap value_of c.load.ensures) m.0, m.1)

pub returns : goal.returns
returns c = (scan-end _ _ _ _ (omega arith) c.loop-b.invariant.0, c.loop-b.invariant.1)
