-- `indexing::points::evaluate` meets its contract. Assumes nothing.
use borrow.Author.Tests.{ne_eqb, eq-eqb}
use mathlib.Core.Path.{sym, ◌∙◌}
use Rattle.radix.proofs.Tests.{and_left, and_right}
use Rattle.indexing.specs.Map.{right_length, in_bounds, in_domain}
use Rattle.indexing.specs.Answers.{result_values}
use Rattle.indexing.proofs.points.evaluate.Goals.{then-ds-m-via-then-ds-m, then-ds-m-via-else-ds-m+then-ss-m}
use Rattle.indexing.proofs.points.evaluate.Goals as goal

pub returns-then-not-good_parts : goal.returns-then-not-good_parts
unfolding result_values
returns-then-not-good_parts c = rw (sym c.good_parts.ensures ∙ c.if-not-good_parts.true)

pub returns-then-ds-m : goal.returns-then-ds-m
unfolding result_values
returns-then-ds-m c =
    let p = sym c.good_parts.ensures ∙ c.if-not-good_parts.false in
    elim c.then-ds-m.branch [
      | then-ds-m-via-then-ds-m w ↦ rw (p, ne_eqb _ _ w.if-ds-m.true)
      | then-ds-m-via-else-ds-m+then-ss-m w ↦ rw (p, eq-eqb _ _ w.if-ds-m.false, ne_eqb _ _ w.if-ss-m.true)
    ]

pub good_ranges-requires : goal.good_ranges-requires
good_ranges-requires c = record { parts = sym c.good_parts.ensures ∙ c.if-not-good_parts.false; counts = sym c.good_counts.ensures ∙ c.if-not-good_counts.false }

pub returns-then-not-good_counts : goal.returns-then-not-good_counts
unfolding result_values
returns-then-not-good_counts c =
    rw (
      sym c.good_parts.ensures ∙ c.if-not-good_parts.false,
      eq-eqb _ _ c.if-ds-m.false,
      eq-eqb _ _ c.if-ss-m.false,
      sym c.good_counts.ensures ∙ c.if-not-good_counts.true,
    )

pub returns-then-not-good_ranges : goal.returns-then-not-good_ranges
unfolding result_values
returns-then-not-good_ranges c =
    rw (
      sym c.good_parts.ensures ∙ c.if-not-good_parts.false,
      eq-eqb _ _ c.if-ds-m.false,
      eq-eqb _ _ c.if-ss-m.false,
      sym c.good_counts.ensures ∙ c.if-not-good_counts.false,
      sym c.good_ranges.ensures ∙ c.if-not-good_ranges.true,
    )

pub returns-then-not-in_domain : goal.returns-then-not-in_domain
unfolding result_values
returns-then-not-in_domain c =
    rw (
      sym c.good_parts.ensures ∙ c.if-not-good_parts.false,
      eq-eqb _ _ c.if-ds-m.false,
      eq-eqb _ _ c.if-ss-m.false,
      sym c.good_counts.ensures ∙ c.if-not-good_counts.false,
      sym c.good_ranges.ensures ∙ c.if-not-good_ranges.false,
      sym c.in_domain.ensures ∙ c.if-not-in_domain.true,
    )

pub valued-requires : goal.valued-requires
unfolding in_domain
valued-requires c =
    let a = c.args in
    let d = sym c.in_domain.ensures ∙ c.if-not-in_domain.false in
    record {
      measured = record {
        accepted = record {
          formed = record { parts = sym c.good_parts.ensures ∙ c.if-not-good_parts.false; counts = sym c.good_counts.ensures ∙ c.if-not-good_counts.false };
          ranges = sym c.good_ranges.ensures ∙ c.if-not-good_ranges.false;
        };
        long-dims = c.if-ds-m.false;
        long-ranges = c.if-ss-m.false;
      };
      inside = and_left (in_bounds a.m a.ds.now a.ss.now) _ (and_right (right_length a.m a.ds.now a.ss.now) _ d);
    }

pub returns : goal.returns
unfolding result_values
returns c =
    rw (
      c.valued.ensures,
      sym c.good_parts.ensures ∙ c.if-not-good_parts.false,
      eq-eqb _ _ c.if-ds-m.false,
      eq-eqb _ _ c.if-ss-m.false,
      sym c.good_counts.ensures ∙ c.if-not-good_counts.false,
      sym c.good_ranges.ensures ∙ c.if-not-good_ranges.false,
      sym c.in_domain.ensures ∙ c.if-not-in_domain.false,
    )
