-- `expression::nodes::node_of` meets its contract. Assumes nothing.
use borrow.Author.Rules.{rules}
use Rattle.expression.specs.Node.{node_of}
use Rattle.expression.proofs.nodes.node_of.Goals as goal

pub returns-in-0 : goal.returns-in-0
unfolding node_of
returns-in-0 c = search rules

pub returns-in-1 : goal.returns-in-1
unfolding node_of
returns-in-1 c = search rules

pub returns-in-2 : goal.returns-in-2
unfolding node_of
returns-in-2 c = search rules

pub returns-in_default : goal.returns-in_default
unfolding node_of
returns-in_default c = search rules
