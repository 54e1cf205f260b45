-- `compose::whole::built_map` meets its contract. Assumes nothing.
use Rattle.compose.proofs.Built.{builds}
use Rattle.compose.proofs.whole.built_map.Goals as goal

pub returns : goal.returns
returns c = builds c.args.f c.args.g c.requires.0 c.compose_results-start.ensures c.compose_constraints-end.ensures c.joined_record-map.ensures
