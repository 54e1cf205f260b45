-- What the search leaves of `operation_builder::digits::shape_reshape`. Assumes nothing.
use Rattle.std.proofs.Common.{rules}
use Rattle.shape.proofs.Limits.{limits}
use Rattle.operation_builder.proofs.Ready.{reshape-ready}
use Rattle.operation_builder.proofs.digits.shape_reshape.Goals as goal

pub shared_ref_as_front-reshape_map : goal.shared_ref_as_front-reshape_map
shared_ref_as_front-reshape_map c = (limits c.args.from (search rules) c.requires.0).rank

pub shared_ref_as_front-reshape_map-2 : goal.shared_ref_as_front-reshape_map-2
shared_ref_as_front-reshape_map-2 c = (limits c.args.to (search rules) c.requires.1).rank

pub reshape_map-requires : goal.reshape_map-requires
reshape_map-requires c = reshape-ready c.args.from c.args.to c.requires
