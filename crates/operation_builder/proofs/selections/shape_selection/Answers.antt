-- What the search leaves of `operation_builder::selections::shape_selection`. Assumes nothing.
use Rattle.std.proofs.Common.{rules}
use Rattle.shape.proofs.Limits.{limits}
use Rattle.operation_builder.proofs.Ready.{chosen-ready}
use Rattle.operation_builder.proofs.selections.shape_selection.Goals as goal

pub shared_ref_as_front-selection_map : goal.shared_ref_as_front-selection_map
shared_ref_as_front-selection_map c = (limits c.args.shape (search rules) c.requires.good).rank

pub selection_map-requires : goal.selection_map-requires
selection_map-requires c = chosen-ready c.args.shape c.args.list.now c.requires
