-- What the search leaves of `fold::whole::folded_record`. Assumes nothing.
use Rattle.indexing.proofs.Formed.{counts}
use Rattle.fold.proofs.whole.folded_record.Goals as goal

pub record_of-requires : goal.record_of-requires
record_of-requires c = let w = counts c.args.m c.requires.formed in (w.dims, w.ranges)
