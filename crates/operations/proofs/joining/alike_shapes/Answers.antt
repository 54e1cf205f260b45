-- What the search leaves of `operations::joining::alike_shapes`. Assumes nothing.
use Rattle.std.proofs.Common.{rules}
use Rattle.shape.proofs.Limits.{limits}
use Rattle.operations.proofs.joining.alike_shapes.Goals as goal

pub shared_ref_as_front-alike_sizes : goal.shared_ref_as_front-alike_sizes
shared_ref_as_front-alike_sizes c = (limits c.args.a (search rules) c.requires.0).rank

pub shared_ref_as_front-alike_sizes-2 : goal.shared_ref_as_front-alike_sizes-2
shared_ref_as_front-alike_sizes-2 c = (limits c.args.b (search rules) c.requires.1).rank
