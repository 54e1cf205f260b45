-- `compose::whole::compose_formed` meets its contract. Assumes nothing.
use mathlib.Core.Path.{◌∙◌}
use native.Mathlib.Omega.{arith}
use Rattle.indexing.proofs.Formed.{counts}
use Rattle.compose.specs.Ready.{Joinable}
use Rattle.compose.proofs.Built.{many-ranges, many-constraints, many-nodes, map-formed, ranges-judged}
use Rattle.compose.proofs.whole.compose_formed.Goals.{then-f-g-gt-MAX_VARIABLES-via-then-f-g-gt-MAX_VARIABLES, then-f-g-gt-MAX_VARIABLES-via-else-f-g-gt-MAX_VARIABLES+then-f-g-gt-MAX_CONSTRAINTS}
use Rattle.compose.proofs.whole.compose_formed.Goals as goal

pub overflow_add-f : goal.overflow_add-f
overflow_add-f c =
    let first-few = counts c.args.f c.requires.before in
    let then-few = counts c.args.g c.requires.after in
    record { fits = omega arith }

pub overflow_add-f-else-f-g-gt-MAX_VARIABLES : goal.overflow_add-f-else-f-g-gt-MAX_VARIABLES
overflow_add-f-else-f-g-gt-MAX_VARIABLES c =
    let first-few = counts c.args.f c.requires.before in
    let then-few = counts c.args.g c.requires.after in
    record { fits = omega arith }

pub overflow_add-f-else-f-g-gt-MAX_VARIABLES-2 : goal.overflow_add-f-else-f-g-gt-MAX_VARIABLES-2
overflow_add-f-else-f-g-gt-MAX_VARIABLES-2 c =
    let first-few = counts c.args.f c.requires.before in
    let then-few = counts c.args.g c.requires.after in
    record { fits = omega arith }

pub returns-then-f-g-gt-MAX_VARIABLES : goal.returns-then-f-g-gt-MAX_VARIABLES
returns-then-f-g-gt-MAX_VARIABLES c =
    elim c.then-f-g-gt-MAX_VARIABLES.branch [
      | then-f-g-gt-MAX_VARIABLES-via-then-f-g-gt-MAX_VARIABLES w ↦ many-ranges c.args.f c.args.g w.if-f-g-gt-MAX_VARIABLES.true
      | then-f-g-gt-MAX_VARIABLES-via-else-f-g-gt-MAX_VARIABLES+then-f-g-gt-MAX_CONSTRAINTS w ↦ many-constraints c.args.f c.args.g w.if-f-g-gt-MAX_CONSTRAINTS.true
    ]

pub returns-then-b-gt-MAX_NODES : goal.returns-then-b-gt-MAX_NODES
returns-then-b-gt-MAX_NODES c = many-nodes c.args.f c.args.g c.built_map-b.ensures c.if-b-gt-MAX_NODES.true

pub judged_ranges-requires : goal.judged_ranges-requires
judged_ranges-requires c =
    let joined : Joinable c.args.f c.args.g = record { both = c.requires; few = c.if-f-g-gt-MAX_VARIABLES.false } in (
      c.requires.before,
      c.requires.after,
      map-formed c.args.f c.args.g joined c.if-f-g-gt-MAX_CONSTRAINTS.false c.built_map-b.ensures (omega arith),
    )

pub returns : goal.returns
returns c =
    let joined : Joinable c.args.f c.args.g = record { both = c.requires; few = c.if-f-g-gt-MAX_VARIABLES.false } in
    c.judged_ranges.ensures ∙ ranges-judged c.args.f c.args.g joined c.if-f-g-gt-MAX_CONSTRAINTS.false c.built_map-b.ensures (omega arith)
