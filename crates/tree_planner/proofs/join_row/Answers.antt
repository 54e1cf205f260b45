-- `tree_planner::join_row` meets its contract. Assumes nothing.
use Rattle.std.proofs.Common.{sym, ◌∙◌}
use Rattle.tree_planner.proofs.Filling.{kept_same}
use Rattle.tree_planner.proofs.Linking.{held-table, held-own, together-agree}
use Rattle.tree_planner.proofs.join_row.Goals as goal

pub returns-then-merged : goal.returns-then-merged
returns-then-merged c = (
  together-agree _ _ _ _ _ _ _ _ (λ k. sym (held-table _ _ _ _ _ _ _ c.if-merged.true)) c.join_further.ensures.0,
  c.join_further.ensures.1,
)

pub returns-else-merged : goal.returns-else-merged
returns-else-merged c = (
  together-agree _ _ _ _ _ _ _ _ (λ k. c.own_of.ensures.0 ∙ sym (held-own _ _ _ _ _ _ _ c.if-merged.false)) c.join_first.ensures,
  kept_same _ c.requires.sizes_len.3.sound,
)
