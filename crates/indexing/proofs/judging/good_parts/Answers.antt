-- `indexing::judging::good_parts` meets its contract. Assumes nothing.
use borrow.Author.Rules.{rules}
use Rattle.indexing.specs.Map.{good_parts}
use Rattle.indexing.proofs.judging.good_parts.Goals as goal

pub returns-then-good_ends : goal.returns-then-good_ends
unfolding good_parts
returns-then-good_ends c = search rules

pub returns-else-good_ends : goal.returns-else-good_ends
unfolding good_parts
returns-else-good_ends c = search rules
