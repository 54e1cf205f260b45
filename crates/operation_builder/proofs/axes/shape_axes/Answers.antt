-- What the search leaves of `operation_builder::axes::shape_axes`. Assumes nothing.
use Rattle.std.proofs.Common.{rules}
use Rattle.shape.proofs.Limits.{limits}
use Rattle.operation_builder.proofs.axes.shape_axes.Goals as goal

pub shared_ref_as_front-axes_map : goal.shared_ref_as_front-axes_map
shared_ref_as_front-axes_map c = (limits c.args.shape (search rules) c.requires.0).rank
