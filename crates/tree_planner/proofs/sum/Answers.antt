-- `tree_planner::sum` meets its contract. Assumes nothing.
use Rattle.tree_planner.proofs.Adding.{sum-value, sum-worded}
use Rattle.tree_planner.proofs.sum.Goals as goal

pub returns : goal.returns
returns c = (sum-value _ _ c.requires.0 c.requires.1, sum-worded _ _ c.requires.0 c.requires.1)
