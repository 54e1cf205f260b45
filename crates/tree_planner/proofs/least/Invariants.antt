-- What each loop of `tree_planner::least` keeps.
use Rattle.std.proofs.Common.{◌≡◌, ◌+◌, ◌*◌}
use Rattle.tree_plan.specs.Merge.{lowest}
use Rattle.tree_plan.specs.Weight.{far_weight}
use Rattle.tree_planner.specs.Words.{value_of, Good, weight_at}
use Rattle.tree_planner.proofs.least.Given as goal

abbrev pub invariant-loop-b : goal.invariant-loop-b
invariant-loop-b l = (value_of l.best ≡ lowest far_weight l.b (λ x. weight_at l.table (x * 64 + l.moves))) × Good l.best
