-- What each loop of `tree_planner::reach` keeps.
use Rattle.tree_plan.specs.Merge.{lowest}
use Rattle.tree_plan.specs.Weight.{far_weight}
use Rattle.tree_planner.specs.Rows.{Rows}
use Rattle.tree_planner.specs.Merging.{linked}
use Rattle.tree_planner.proofs.reach.Given as goal

abbrev pub invariant-loop-a : goal.invariant-loop-a
invariant-loop-a l =
    Rows l.initial.room l.room 0 l.a l.columns (λ x k. lowest far_weight l.count (linked l.sizes l.moved l.table l.u l.v x k))
