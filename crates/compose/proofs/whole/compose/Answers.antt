-- `compose::whole::compose` meets its contract. Assumes nothing.
use borrow.Author.Tests.{eq-eqb, ne_eqb}
use mathlib.Core.Path.{sym, ap, ◌∙◌}
use Rattle.refusal.specs.declared.Refusal.TheVariants.{Attribute, WrongLength, CountLimit}
use Rattle.indexing.specs.Answers.{map_answer}
use Rattle.compose.proofs.Built.{compose-refused, compose-done}
use Rattle.compose.proofs.whole.compose.Goals.{then-not-good_parts-via-then-not-good_parts, then-not-good_parts-via-else-not-good_parts+then-not-good_parts-2, then-not-good_counts-via-then-not-good_counts, then-not-good_counts-via-else-not-good_counts+then-not-good_counts-2}
use Rattle.compose.proofs.whole.compose.Goals as goal

pub returns-then-not-good_parts : goal.returns-then-not-good_parts
returns-then-not-good_parts c =
    elim c.then-not-good_parts.branch [
      | then-not-good_parts-via-then-not-good_parts w ↦ compose-refused c.args.f c.args.g Attribute (rw (sym c.good_parts.ensures ∙ w.if-not-good_parts.true))
      | then-not-good_parts-via-else-not-good_parts+then-not-good_parts-2 w ↦
          compose-refused c.args.f c.args.g Attribute
          (rw (sym c.good_parts.ensures ∙ w.if-not-good_parts.false, sym w.good_parts-else-not-good_parts.ensures ∙ w.if-not-good_parts-2.true))
    ]

pub returns-then-f-g : goal.returns-then-f-g
returns-then-f-g c =
    compose-refused c.args.f c.args.g WrongLength
    (rw (
      sym c.good_parts.ensures ∙ c.if-not-good_parts.false,
      sym c.good_parts-else-not-good_parts.ensures ∙ c.if-not-good_parts-2.false,
      ne_eqb _ _ c.if-f-g.true,
    ))

pub returns-then-not-good_counts : goal.returns-then-not-good_counts
returns-then-not-good_counts c =
    let p = sym c.good_parts.ensures ∙ c.if-not-good_parts.false in
    let q = sym c.good_parts-else-not-good_parts.ensures ∙ c.if-not-good_parts-2.false in
    elim c.then-not-good_counts.branch [
      | then-not-good_counts-via-then-not-good_counts w ↦
          compose-refused c.args.f c.args.g CountLimit
          (rw (p, q, eq-eqb _ _ c.if-f-g.false, sym c.good_counts.ensures ∙ w.if-not-good_counts.true))
      | then-not-good_counts-via-else-not-good_counts+then-not-good_counts-2 w ↦
          compose-refused c.args.f c.args.g CountLimit
          (rw (
            p,
            q,
            eq-eqb _ _ c.if-f-g.false,
            sym c.good_counts.ensures ∙ w.if-not-good_counts.false,
            sym w.good_counts-else-not-good_counts.ensures ∙ w.if-not-good_counts-2.true,
          ))
    ]

pub returns : goal.returns
returns c =
    ap map_answer c.compose_formed.ensures
    ∙ compose-done c.args.f c.args.g
    (rw (
      sym c.good_parts.ensures ∙ c.if-not-good_parts.false,
      sym c.good_parts-else-not-good_parts.ensures ∙ c.if-not-good_parts-2.false,
      eq-eqb _ _ c.if-f-g.false,
      sym c.good_counts.ensures ∙ c.if-not-good_counts.false,
      sym c.good_counts-else-not-good_counts.ensures ∙ c.if-not-good_counts-2.false,
    ))
