-- `tiling::tiled::Tiled::cell` meets its contract. Assumes nothing.
use Rattle.std.proofs.Common.{◌∙◌, sym}
use borrow.Author.Tests.{eq-eqb, ne_eqb}
use Rattle.radix.proofs.Tests.{inside-in}
use Rattle.tiling.specs.Cell.{cell}
use Rattle.tiling.proofs.tiled.Tiled.cell.Goals as goal
use Rattle.tiling.proofs.tiled.Tiled.cell.Goals.{else-inside-via-then-inside+else-offset_at-k, else-inside-via-else-inside}

pub offset_at-requires : goal.offset_at-requires
offset_at-requires c = inside-in _ _ (sym c.inside.ensures ∙ c.if-inside.true)

pub row_major-requires-clause-fact : goal.row_major-requires-clause-fact
row_major-requires-clause-fact c = inside-in _ _ (sym c.inside.ensures ∙ c.if-inside.true)

pub returns-then-offset_at-k : goal.returns-then-offset_at-k
unfolding cell
returns-then-offset_at-k c =
    rw (← c.candidate_into.ensures, sym c.inside.ensures ∙ c.if-inside.true, eq-eqb _ _ (sym c.offset_at.ensures ∙ c.if-offset_at-k.true), c.row_major.ensures)

pub returns-else-inside : goal.returns-else-inside
unfolding cell
returns-else-inside c =
    elim c.else-inside.branch [
      | else-inside-via-then-inside+else-offset_at-k w ↦ rw (← c.candidate_into.ensures, sym c.inside.ensures ∙ w.if-inside.true, ne_eqb _ _ (λ e. w.if-offset_at-k.false (w.offset_at.ensures ∙ e)))
      | else-inside-via-else-inside w ↦ rw (← c.candidate_into.ensures, sym c.inside.ensures ∙ w.if-inside.false)
    ]
