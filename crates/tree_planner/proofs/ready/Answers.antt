-- `tree_planner::ready` meets its contract. Assumes nothing.
use Rattle.std.proofs.Common.{sym}
use Rattle.tree_planner.proofs.Filling.{rows_same, rows_agree}
use Rattle.tree_planner.proofs.Linking.{held-table, held-own}
use Rattle.tree_planner.proofs.ready.Goals as goal

pub returns-then-not-merged : goal.returns-then-not-merged
returns-then-not-merged c =
    rows_agree _ _ _ _ _ _ _ (λ a x l m. sym (held-own _ _ _ _ _ _ _ c.if-not-merged.true)) c.start_station.ensures

pub returns-else-not-merged : goal.returns-else-not-merged
returns-else-not-merged c =
    rows_same _ _ _ _ _ c.requires.sizes_len.2.sound (λ a x l m. sym (held-table _ _ _ _ _ _ _ c.if-not-merged.false))
