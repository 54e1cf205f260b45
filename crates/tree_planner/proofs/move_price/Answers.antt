-- `tree_planner::move_price` meets its contract. Assumes nothing.
use Rattle.std.proofs.Common.{refl, arith}
use Rattle.plan.specs.Net.{price}
use Rattle.tree_planner.proofs.move_price.Goals as goal

pub returns : goal.returns
unfolding price
returns c = (refl, omega arith)
