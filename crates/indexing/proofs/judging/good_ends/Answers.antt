-- `indexing::judging::good_ends` meets its contract. Assumes nothing.
use borrow.Author.Rules.{rules}
use Rattle.indexing.specs.Map.{good_ends}
use Rattle.indexing.proofs.judging.good_ends.Goals as goal

pub returns : goal.returns
unfolding good_ends
returns c = search rules
