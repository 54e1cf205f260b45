-- `tree_planner::has_child` meets its contract. Assumes nothing.
use Rattle.std.proofs.Common.{arith}
use Rattle.tree_planner.proofs.Linking.{any-named}
use Rattle.tree_planner.proofs.has_child.Goals as goal

pub returns : goal.returns
returns c = rw c.contains.ensures.value (any-named _ _ _ _ (omega (arith, c.requires)))
