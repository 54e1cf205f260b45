-- What the search leaves of `operation_builder::digits::reshape_map`. Assumes nothing.
use Rattle.std.proofs.Common.{ℕ, ap, ◌∙◌, length, get_or}
use Rattle.map_builder.specs.Raw.{up_to}
use Rattle.map_builder.specs.Draft.{empty_draft, steps, add_size}
use Rattle.map_builder.specs.declared.Draft.{Draft}
use Rattle.map_builder.proofs.Steps.{bounds-leave}
use Rattle.operation_builder.specs.ReshapeDraft.{add_digits}
use Rattle.operation_builder.proofs.ReshapeSteps.{reshape-made}
use Rattle.operation_builder.proofs.digits.reshape_map.Goals as goal

pub add_digits-e-requires : goal.add_digits-e-requires
add_digits-e-requires c =
    let ns = c.args.from.now in
    let w = c.add_whole-d.ensures ∙ ap (steps (add_size ns) (length ns)) c.empty.ensures in
    let k = bounds-leave (λ (k : ℕ). up_to (get_or ns k 0)) (length ns) empty_draft in
    record {
      no-nodes = ap (λ (u : Draft). u.at) w ∙ k.0;
      no-under = ap (λ (u : Draft). u.under) w ∙ k.1.0;
      no-results = ap (λ (u : Draft). u.map.results) w ∙ k.1.1.1;
      shapes = c.requires;
    }

pub returns : goal.returns
returns c =
    let ns = c.args.from.now in
    ap (λ (u : Draft). u.map) (c.add_digits-e.ensures ∙ ap (add_digits ns 0 c.args.to.now) (c.add_whole-d.ensures ∙ ap (steps (add_size ns) (length ns)) c.empty.ensures))
    ∙ reshape-made ns c.args.to.now c.requires.few-src
