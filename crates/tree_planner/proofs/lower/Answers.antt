-- `tree_planner::lower` meets its contract. Assumes nothing.
use Rattle.std.proofs.Common.{sym, ◌∙◌}
use Rattle.tree_planner.proofs.Comparing.{below-is, up-to}
use Rattle.tree_planner.proofs.Filling.{good-at, entry-above, entry-up-to, entry-lower, entry_kept}
use Rattle.tree_planner.proofs.lower.Goals as goal

pub returns-then-table-at : goal.returns-then-table-at
returns-then-table-at c = entry-above _ _ _ _ c.requires.0 c.if-table-at.true

pub returns-then-le : goal.returns-then-le
returns-then-le c =
    entry-up-to _ _ _ _ c.requires.0 _ c.load-held.ensures
    (up-to _ _ (good-at _ _ _ c.requires.0 c.load-held.ensures).words (sym c.le.ensures ∙ c.if-le.true))

pub returns-then-lt : goal.returns-then-lt
returns-then-lt c =
    entry-lower _ _ _ _ c.requires.0 _ _ c.sum-w.ensures.1 c.sum-w.ensures.0 c.load-held.ensures _
    (c.lt.ensures ∙ below-is _ _ c.sum-w.ensures.1 (good-at _ _ _ c.requires.0 c.load-held.ensures).words)
    _
    c.if-lt.true
    c.store.ensures

pub returns-else-lt : goal.returns-else-lt
returns-else-lt c =
    entry_kept _ _ _ _ c.requires.0 _ _ c.sum-w.ensures.1 c.sum-w.ensures.0 c.load-held.ensures _
    (c.lt.ensures ∙ below-is _ _ c.sum-w.ensures.1 (good-at _ _ _ c.requires.0 c.load-held.ensures).words)
    c.if-lt.false
