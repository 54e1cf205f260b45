-- `indexing::points::in_domain` meets its contract. Assumes nothing.
use borrow.Author.Rules.{rules}
use Rattle.indexing.specs.Map.{in_domain}
use Rattle.indexing.proofs.points.in_domain.Goals as goal

pub returns-then-in_bounds : goal.returns-then-in_bounds
unfolding in_domain
returns-then-in_bounds c = search rules

pub returns-else-in_bounds : goal.returns-else-in_bounds
unfolding in_domain
returns-else-in_bounds c = search rules
