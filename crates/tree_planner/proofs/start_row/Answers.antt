-- `tree_planner::start_row` meets its contract. Assumes nothing.
use Rattle.std.proofs.Common.{arith, refl}
use Rattle.tree_planner.proofs.Filling.{entry-stored, row-none, row_next, row-end}
use Rattle.tree_planner.proofs.start_row.Goals as goal

pub loop-k-init : goal.loop-k-init
loop-k-init c = row-none _ _ _ c.requires.0

pub store-requires : goal.store-requires
store-requires c = (omega (arith, c.requires.1), omega (arith, c.loop-k.invariant.long, c.requires.2))

pub loop-k-preserved : goal.loop-k-preserved
loop-k-preserved c =
    let i = c.loop-k.invariant in
    row_next _ _ _ _ _ _ _ (omega (arith, c.requires.4)) i refl (entry-stored _ _ _ _ _ i.sound c.requires.3 refl c.store.ensures)

pub returns : goal.returns
returns c = row-end _ _ _ _ _ _ (omega arith) (omega arith) c.loop-k.invariant
