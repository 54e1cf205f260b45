-- `tree_planner::best_tree_plan` meets its contract. Assumes nothing.
use Rattle.std.proofs.Common.{ℕ}
use lib.ListN.{length-replicate}
use Rattle.tree_planner.proofs.Answering.{zero-sound, plan-is}
use Rattle.tree_planner.proofs.best_tree_plan.Goals as goal

pub least_weight-w-requires-clause-space : goal.least_weight-w-requires-clause-space
least_weight-w-requires-clause-space c = (
  record { sound = zero-sound 131072; long = length-replicate {A = ℕ} 131072 0 },
  record { sound = zero-sound 2304; long = length-replicate {A = ℕ} 2304 0 },
)

pub returns : goal.returns
returns c = plan-is _ _ _ _ _ _ c.args.moves c.requires.0 _ _ c.plan_of.ensures c.least_weight-w.ensures.0
