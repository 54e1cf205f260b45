-- `compose::nodes::splice_run` meets its contract. Assumes nothing.
use borrow.Author.Rules.{rules}
use Rattle.indexing.proofs.Formed.{run-here, never-cut}
use Rattle.compose.proofs.Splicing.{run-spliced}
use Rattle.compose.proofs.nodes.splice_run.Goals as goal

pub splice_nodes-requires : goal.splice_nodes-requires
splice_nodes-requires c = (
  record { formed = c.requires.0.both.before; fits = c.requires.0.both.fits; few = c.requires.0.few },
  run-here c.args.g c.args.i _ _ c.in-Some.ensures (search rules) (search rules),
  c.requires.2,
)

pub returns-in-Some : goal.returns-in-Some
returns-in-Some c = run-spliced c.args.g c.requires.0.both.after c.args.i c.requires.1 c.args.f _ _ c.in-Some.ensures c.splice_nodes.ensures

pub returns-in-None : goal.returns-in-None
returns-in-None c = absurd (never-cut c.args.g c.args.i c.requires.0.both.after c.requires.1 c.in-None.ensures)
