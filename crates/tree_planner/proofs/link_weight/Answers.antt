-- `tree_planner::link_weight` meets its contract. Assumes nothing.
use Rattle.tree_planner.proofs.Linking.{link-value}
use Rattle.tree_planner.proofs.link_weight.Goals as goal

pub returns : goal.returns
returns c = link-value _ _ _ c.requires.taken_bound.0 c.move_price.ensures.1 c.move_price.ensures.0
