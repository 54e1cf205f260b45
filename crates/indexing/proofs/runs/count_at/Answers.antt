-- `indexing::runs::count_at` meets its contract. Assumes nothing.
use borrow.Author.Tests.{lt-ltb, le-ltb}
use Rattle.indexing.specs.Map.{count_in}
use Rattle.indexing.proofs.runs.count_at.Goals as goal

pub returns-then-i-n : goal.returns-then-i-n
unfolding count_in
returns-then-i-n c = let t = lt-ltb _ _ c.if-i-n.true in rw t

pub returns-else-i-n : goal.returns-else-i-n
unfolding count_in
returns-else-i-n c = let t = le-ltb _ _ c.if-i-n.false in rw t
