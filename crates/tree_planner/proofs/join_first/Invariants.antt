-- What each loop of `tree_planner::join_first` keeps.
use Rattle.std.proofs.Common.{◌≡◌, ◌+◌, ◌*◌}
use Rattle.tree_plan.specs.Merge.{lowest}
use Rattle.tree_plan.specs.Weight.{far_weight}
use Rattle.tree_planner.specs.Words.{value_of, Good, weight_at}
use Rattle.tree_planner.specs.Rows.{Row, together}
use Rattle.tree_planner.proofs.join_first.Given as goal

abbrev pub invariant-loop-k : goal.invariant-loop-k
invariant-loop-k l =
    Row l.initial.table l.table l.row l.k (together (λ x. value_of l.own) l.room l.a)
    × (value_of l.best ≡ lowest far_weight l.k (λ j. value_of l.own + weight_at l.room (l.a * 64 + j)))
    × Good l.best
