-- What the search leaves of `operation_builder::selections::rest_selection`. Assumes nothing.
use Rattle.std.proofs.Common.{List, ℕ, ap, ◌∙◌, arith, rules}
use Rattle.shape.proofs.Limits.{limits}
use Rattle.shape.specs.Shape.{sizes_of}
use Rattle.map_builder.specs.Raw.{encoded}
use Rattle.operation_builder.specs.Family.{selection}
use Rattle.operation_builder.proofs.SelectionSteps.{few-kept}
use Rattle.operation_builder.proofs.Ready.{kept-front, rest-chosen}
use Rattle.operation_builder.proofs.selections.rest_selection.Goals as goal

pub shared_ref_as_front-kept_of : goal.shared_ref_as_front-kept_of
shared_ref_as_front-kept_of c = (limits c.args.shape (search rules) c.requires).rank

pub shared_ref_as_front-shape_selection : goal.shared_ref_as_front-shape_selection
shared_ref_as_front-shape_selection c =
    let w = limits c.args.shape (search rules) c.requires in
    omega (arith, few-kept c.args.list.now (sizes_of c.args.shape) _ c.kept_of-kept.result c.kept_of-kept.ensures, w.long, w.rank)

pub shape_selection-requires : goal.shape_selection-requires
shape_selection-requires c =
    let w = limits c.args.shape (search rules) c.requires in
    let f = kept-front c.args.list.now (sizes_of c.args.shape) c.kept_of-kept.result (omega (arith, w.long, w.rank)) c.kept_of-kept.ensures in
    rest-chosen c.args.shape c.args.list.now _ c.requires f.dims

pub returns : goal.returns
returns c =
    let w = limits c.args.shape (search rules) c.requires in
    let f = kept-front c.args.list.now (sizes_of c.args.shape) c.kept_of-kept.result (omega (arith, w.long, w.rank)) c.kept_of-kept.ensures in
    c.shape_selection.ensures ∙ ap (λ (l : List ℕ). encoded (selection c.args.up l (sizes_of c.args.shape))) f.dims
