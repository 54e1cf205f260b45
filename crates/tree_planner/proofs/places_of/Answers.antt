-- `tree_planner::places_of` meets its contract. Assumes nothing.
use Rattle.std.proofs.Common.{arith}
use Rattle.tree_planner.proofs.Answering.{place-start, place-next, place_end}
use Rattle.tree_planner.proofs.places_of.Goals as goal

pub loop-i-init : goal.loop-i-init
loop-i-init c = place-start _ _

pub place_in-requires : goal.place_in-requires
place_in-requires c = (c.requires.0, omega (arith, c.requires.1))

pub bounds-out-i : goal.bounds-out-i
bounds-out-i c = omega (arith, c.loop-i.invariant.long, c.requires.1)

pub loop-i-preserved : goal.loop-i-preserved
loop-i-preserved c = place-next _ _ _ _ _ c.requires.1 (omega arith) c.loop-i.invariant c.place_in.ensures

pub returns : goal.returns
returns c = place_end _ _ _ _ c.requires.1 (omega (arith, c.loop-i.invariant.within)) c.loop-i.invariant
