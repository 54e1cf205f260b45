-- What the search leaves of `operation_builder::selections::none_selection`. Assumes nothing.
use Rattle.std.proofs.Common.{List, [], ℕ, ap, ◌∙◌, arith, rules}
use Rattle.shape.proofs.Limits.{limits}
use Rattle.shape.specs.Shape.{sizes_of}
use Rattle.map_builder.specs.Raw.{encoded}
use Rattle.operation_builder.specs.Family.{selection}
use Rattle.operation_builder.proofs.SelectionSteps.{few-kept}
use Rattle.operation_builder.proofs.Ready.{kept-front, none-chosen}
use Rattle.operation_builder.proofs.selections.none_selection.Goals as goal

pub shared_ref_as_front-kept_of : goal.shared_ref_as_front-kept_of
shared_ref_as_front-kept_of c = (limits c.args.shape (search rules) c.requires).rank

pub shared_ref_as_front-selection_map : goal.shared_ref_as_front-selection_map
shared_ref_as_front-selection_map c =
    let w = limits c.args.shape (search rules) c.requires in
    omega (arith, few-kept c.args.list.now (sizes_of c.args.shape) _ c.kept_of-kept.result c.kept_of-kept.ensures, w.long, w.rank)

pub selection_map-requires : goal.selection_map-requires
selection_map-requires c =
    let w = limits c.args.shape (search rules) c.requires in
    let f = kept-front c.args.list.now (sizes_of c.args.shape) c.kept_of-kept.result (omega (arith, w.long, w.rank)) c.kept_of-kept.ensures in
    none-chosen c.args.shape c.args.list.now _ c.requires f.sizes

pub returns : goal.returns
returns c =
    let w = limits c.args.shape (search rules) c.requires in
    let f = kept-front c.args.list.now (sizes_of c.args.shape) c.kept_of-kept.result (omega (arith, w.long, w.rank)) c.kept_of-kept.ensures in
    c.selection_map.ensures ∙ ap (λ (m : List ℕ). encoded (selection c.args.up [] m)) f.sizes
