-- What each loop of `tree_planner::lower_row` keeps.
use Rattle.tree_planner.specs.Words.{value_of}
use Rattle.tree_planner.specs.Rows.{Row, lowered}
use Rattle.tree_planner.proofs.lower_row.Given as goal

abbrev pub invariant-loop-k : goal.invariant-loop-k
invariant-loop-k l = Row l.initial.room l.room l.to l.k (lowered l.initial.room l.to l.table l.row l.taken (value_of l.extra))
