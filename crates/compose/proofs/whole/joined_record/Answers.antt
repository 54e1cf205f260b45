-- `compose::whole::joined_record` meets its contract. Assumes nothing.
use Rattle.indexing.proofs.Formed.{counts}
use Rattle.compose.proofs.whole.joined_record.Goals as goal

pub record_of-requires : goal.record_of-requires
record_of-requires c = ((counts c.args.f c.requires.0.both.before).dims, c.requires.0.few)
