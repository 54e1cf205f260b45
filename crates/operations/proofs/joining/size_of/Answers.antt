-- What the search leaves of `operations::joining::size_of`. Assumes nothing.
use Rattle.std.proofs.Common.{rules}
use Rattle.shape.proofs.Limits.{limits}
use Rattle.operations.proofs.joining.size_of.Goals as goal

pub shared_ref_as_front-entry : goal.shared_ref_as_front-entry
shared_ref_as_front-entry c = (limits c.args.shape (search rules) c.requires).rank
