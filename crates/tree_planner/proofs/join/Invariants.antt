-- What each loop of `tree_planner::join` keeps.
use Rattle.std.proofs.Common.{◌*◌}
use Rattle.tree_planner.specs.Rows.{Rows, Kept, together}
use Rattle.tree_planner.specs.Merging.{held}
use Rattle.tree_planner.proofs.join.Given as goal

abbrev pub invariant-loop-a : goal.invariant-loop-a
invariant-loop-a l =
    Rows l.initial.table l.table (l.u * 8) l.a l.columns
    (λ x. together (held l.merged l.initial.table l.sizes l.cells l.u x) l.initial.room x)
    × Kept l.initial.room l.room
