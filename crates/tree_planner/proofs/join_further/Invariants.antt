-- What each loop of `tree_planner::join_further` keeps.
use Rattle.tree_plan.specs.Merge.{lowest}
use Rattle.tree_plan.specs.Weight.{far_weight}
use Rattle.tree_planner.specs.Rows.{Row}
use Rattle.tree_planner.proofs.Filling.{split}
use Rattle.tree_planner.proofs.join_further.Given as goal

abbrev pub invariant-loop-j : goal.invariant-loop-j
invariant-loop-j l =
    Row l.initial.room l.room 8 l.columns (λ x. lowest far_weight l.j (split l.table l.initial.room l.row l.a x))
