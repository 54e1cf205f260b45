-- `tree_planner::copy_row` meets its contract. Assumes nothing.
use Rattle.std.proofs.Common.{arith}
use Rattle.tree_planner.proofs.Copying.{copied}
use Rattle.tree_planner.proofs.copy_row.Goals as goal

pub returns : goal.returns
returns c =
    copied _ _ _ _ _ _ c.requires.0 c.requires.1 c.requires.2 c.requires.3 (omega arith) c.copy_from_slice.ensures.after
