-- `tree_planner::far` meets its contract. Assumes nothing.
use Rattle.tree_planner.proofs.Adding.{far-value, far-good}
use Rattle.tree_planner.proofs.far.Goals as goal

pub returns : goal.returns
returns c = (far-value, far-good)
