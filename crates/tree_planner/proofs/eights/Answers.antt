-- `tree_planner::eights` meets its contract. Assumes nothing.
use Rattle.std.proofs.Common.{arith}
use Rattle.tree_planner.proofs.Placing.{power-low}
use Rattle.tree_planner.proofs.eights.Goals as goal

pub pow-requires : goal.pow-requires
pow-requires c = omega (arith, power-low c.args.x c.requires)

pub returns : goal.returns
returns c = record { value = c.pow.ensures; upper_bound = rw c.pow.ensures (power-low c.args.x c.requires) }
