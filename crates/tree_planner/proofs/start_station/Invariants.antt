-- What each loop of `tree_planner::start_station` keeps.
use Rattle.std.proofs.Common.{◌*◌}
use Rattle.tree_planner.specs.Rows.{Rows}
use Rattle.tree_planner.specs.Merging.{own_at}
use Rattle.tree_planner.proofs.start_station.Given as goal

abbrev pub invariant-loop-b : goal.invariant-loop-b
invariant-loop-b l = Rows l.initial.table l.table (l.i * 8) l.b l.columns (λ x k. own_at l.sizes l.cells l.i x)
