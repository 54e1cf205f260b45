-- What the search leaves of `operation_builder::selections::spread_map`. Assumes nothing.
use Rattle.std.proofs.Common.{ℕ, ap, ◌∙◌, length, get_or, arith}
use Rattle.map_builder.specs.declared.Draft.{Draft}
use Rattle.map_builder.specs.Draft.{empty_draft, steps, add_selected}
use Rattle.map_builder.specs.Raw.{up_to}
use Rattle.map_builder.proofs.Steps.{bounds-leave}
use Rattle.operation_builder.specs.SelectionDraft.{add_coordinate}
use Rattle.operation_builder.proofs.SelectionSteps.{spread-made, short}
use Rattle.operation_builder.proofs.selections.spread_map.Goals as goal

pub add_selected-d-requires : goal.add_selected-d-requires
add_selected-d-requires c =
    let f = short c.args.sizes.now c.args.list.now c.requires in
    record { dims = omega (arith, ap (λ (u : Draft). u.map.dims) c.empty.ensures, f); sized = c.requires.sized; inside = c.requires.choice.inside }

pub add_coordinates-e-requires : goal.add_coordinates-e-requires
add_coordinates-e-requires c =
    let ns = c.args.sizes.now in
    let l = c.args.list.now in
    let w = c.add_selected-d.ensures ∙ ap (steps (add_selected ns l) (length l)) c.empty.ensures in
    let g = bounds-leave (λ (k : ℕ). up_to (get_or ns (get_or l k 0) 0)) (length l) empty_draft in
    record {
      nodes = ap (λ (u : Draft). u.at) w ∙ g.0;
      under = ap (λ (u : Draft). u.under) w ∙ g.1.0;
      ranges = ap (λ (u : Draft). u.map.ranges) w ∙ g.1.1.0;
      results = ap (λ (u : Draft). u.map.results) w ∙ g.1.1.1;
      ready = c.requires;
    }

pub returns : goal.returns
returns c =
    let ns = c.args.sizes.now in
    let l = c.args.list.now in
    ap (λ (u : Draft). u.map)
    (c.add_coordinates-e.ensures ∙ ap (steps (add_coordinate ns l) (length ns)) (c.add_selected-d.ensures ∙ ap (steps (add_selected ns l) (length l)) c.empty.ensures))
    ∙ spread-made ns l c.requires
