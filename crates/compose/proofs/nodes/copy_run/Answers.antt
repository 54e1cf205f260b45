-- `compose::nodes::copy_run` meets its contract. Assumes nothing.
use borrow.Author.Rules.{rules}
use Rattle.indexing.proofs.Formed.{run-here, never-cut}
use Rattle.compose.proofs.Splicing.{run-copied}
use Rattle.compose.proofs.nodes.copy_run.Goals as goal

pub copy_nodes-requires : goal.copy_nodes-requires
copy_nodes-requires c = (run-here c.args.m c.args.i _ _ c.in-Some.ensures (search rules) (search rules), c.requires.2)

pub returns-in-Some : goal.returns-in-Some
returns-in-Some c = run-copied c.args.m c.requires.0 c.args.i c.requires.1 _ _ c.in-Some.ensures c.copy_nodes.ensures

pub returns-in-None : goal.returns-in-None
returns-in-None c = absurd (never-cut c.args.m c.args.i c.requires.0 c.requires.1 c.in-None.ensures)
