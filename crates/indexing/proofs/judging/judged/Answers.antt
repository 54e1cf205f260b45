-- `indexing::judging::judged` meets its contract. Assumes nothing.
use mathlib.Core.Path.{sym, ◌∙◌}
use Rattle.indexing.proofs.judging.judged.Goals as goal

pub returns-then-not-good_parts : goal.returns-then-not-good_parts
returns-then-not-good_parts c = rw (sym c.good_parts.ensures ∙ c.if-not-good_parts.true)

pub returns-then-not-good_counts : goal.returns-then-not-good_counts
returns-then-not-good_counts c =
    rw (sym c.good_parts.ensures ∙ c.if-not-good_parts.false, sym c.good_counts.ensures ∙ c.if-not-good_counts.true)

pub good_ranges-requires : goal.good_ranges-requires
good_ranges-requires c =
    record { parts = sym c.good_parts.ensures ∙ c.if-not-good_parts.false; counts = sym c.good_counts.ensures ∙ c.if-not-good_counts.false }

pub returns-then-not-good_ranges : goal.returns-then-not-good_ranges
returns-then-not-good_ranges c =
    rw (
      sym c.good_parts.ensures ∙ c.if-not-good_parts.false,
      sym c.good_counts.ensures ∙ c.if-not-good_counts.false,
      sym c.good_ranges.ensures ∙ c.if-not-good_ranges.true,
    )

pub returns : goal.returns
returns c =
    rw (
      sym c.good_parts.ensures ∙ c.if-not-good_parts.false,
      sym c.good_counts.ensures ∙ c.if-not-good_counts.false,
      sym c.good_ranges.ensures ∙ c.if-not-good_ranges.false,
    )
