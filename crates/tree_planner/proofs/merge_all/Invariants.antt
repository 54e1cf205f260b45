-- What each loop of `tree_planner::merge_all` keeps.
use Rattle.std.proofs.Common.{◌-◌}
use Rattle.tree_planner.specs.Rows.{room_words, Space}
use Rattle.tree_planner.specs.Merging.{Shrunk}
use Rattle.tree_planner.proofs.merge_all.Given as goal

abbrev pub invariant-loop-v : goal.invariant-loop-v
invariant-loop-v l = Shrunk l.tables.parents l.tables.counts l.tables.sizes l.tables.moved l.n l.cells l.columns l.table (l.v - 1) × Space l.room room_words
