-- What the search leaves of `operation_builder::selections::select_map`. Assumes nothing.
use Rattle.std.proofs.Common.{ℕ, ap, ◌∙◌, length, get_or, arith}
use Rattle.map_builder.specs.Raw.{up_to}
use Rattle.map_builder.specs.Draft.{empty_draft, steps, add_size, add_variable}
use Rattle.map_builder.specs.declared.Draft.{Draft}
use Rattle.map_builder.proofs.Steps.{bounds-leave}
use Rattle.operation_builder.proofs.SelectionSteps.{select-made, short}
use Rattle.operation_builder.proofs.selections.select_map.Goals as goal

pub add_variables-e-requires : goal.add_variables-e-requires
add_variables-e-requires c =
    let ns = c.args.sizes.now in
    let w = c.add_whole-d.ensures ∙ ap (steps (add_size ns) (length ns)) c.empty.ensures in
    let k = bounds-leave (λ (k : ℕ). up_to (get_or ns k 0)) (length ns) empty_draft in
    let f = short ns c.args.list.now c.requires in
    record {
      nodes = omega (arith, ap (λ (u : Draft). u.at) w, k.0, f);
      under = ap (λ (u : Draft). u.under) w ∙ k.1.0;
      results = omega (arith, ap (λ (u : Draft). u.map.results) w, k.1.1.1, f);
      inside = λ i h. omega (arith, c.requires.choice.inside i h, c.requires.few);
    }

pub returns : goal.returns
returns c =
    let ns = c.args.sizes.now in
    let l = c.args.list.now in
    ap (λ (u : Draft). u.map) (c.add_variables-e.ensures ∙ ap (steps (add_variable l) (length l)) (c.add_whole-d.ensures ∙ ap (steps (add_size ns) (length ns)) c.empty.ensures))
    ∙ select-made ns l c.requires
