-- `tree_planner::least_weight` meets its contract. Assumes nothing.
use Rattle.tree_planner.proofs.Answering.{least-is}
use Rattle.tree_planner.proofs.least_weight.Goals as goal

pub returns : goal.returns
returns c = (
  least-is _ _ _ _ _ _ _ _ _ c.merge_all.ensures _ c.has_child-branch.ensures c.ready.ensures _ c.least.ensures.0,
  c.least.ensures.1.words,
)
