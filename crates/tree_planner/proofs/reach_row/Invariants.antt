-- What each loop of `tree_planner::reach_row` keeps.
use Rattle.tree_plan.specs.Merge.{lowest}
use Rattle.tree_plan.specs.Weight.{far_weight}
use Rattle.tree_planner.specs.Rows.{Row}
use Rattle.tree_planner.specs.Merging.{linked}
use Rattle.tree_planner.proofs.reach_row.Given as goal

abbrev pub invariant-loop-b : goal.invariant-loop-b
invariant-loop-b l = Row l.initial.room l.room l.a l.columns (λ k. lowest far_weight l.b (linked l.sizes l.moved l.table l.u l.v l.a k))
