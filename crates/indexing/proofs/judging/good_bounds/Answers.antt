-- `indexing::judging::good_bounds` meets its contract. Assumes nothing.
use borrow.Author.Rules.{rules}
use Rattle.indexing.specs.Map.{good_bounds}
use Rattle.indexing.proofs.judging.good_bounds.Goals as goal

pub returns-then-good_intervals : goal.returns-then-good_intervals
unfolding good_bounds
returns-then-good_intervals c = search rules

pub returns-else-good_intervals : goal.returns-else-good_intervals
unfolding good_bounds
returns-else-good_intervals c = search rules
