-- `indexing::runs::good_tree` meets its contract. Assumes nothing.
use mathlib.Core.Path.{ap, ◌∙◌}
use Rattle.expression.specs.Decode.{is_tree}
use Rattle.indexing.proofs.Formed.{held-here, run-here, tree-here}
use borrow.Author.Rules.{rules}
use Rattle.indexing.proofs.runs.good_tree.Goals as goal

pub is_tree-requires : goal.is_tree-requires
is_tree-requires c = run-here c.args.m c.args.i _ _ c.in-Some.ensures (search rules) (search rules)

pub returns-in-Some : goal.returns-in-Some
returns-in-Some c = rw (held-here c.args.m c.args.i _ _ c.in-Some.ensures) (c.is_tree.ensures ∙ ap is_tree (tree-here c.args.m c.args.i _ _ c.in-Some.ensures))
