-- What each loop of `tree_planner::places_of` keeps.
use Rattle.tree_planner.specs.Words.{value_of}
use Rattle.tree_planner.proofs.Answering.{Placing}
use Rattle.tree_planner.proofs.places_of.Given as goal

abbrev pub invariant-loop-i : goal.invariant-loop-i
invariant-loop-i l = Placing (value_of l.w) l.n l.out l.i
