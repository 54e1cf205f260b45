-- What each loop of `tree_planner::start_row` keeps.
use Rattle.tree_planner.specs.Words.{value_of}
use Rattle.tree_planner.specs.Rows.{Row}
use Rattle.tree_planner.proofs.start_row.Given as goal

abbrev pub invariant-loop-k : goal.invariant-loop-k
invariant-loop-k l = Row l.initial.table l.table l.row l.k (λ x. value_of l.w)
