-- `layout::judge::good_parts` meets its contract. Assumes nothing.
use Rattle.std.proofs.Common.{◌∙◌, sym}
use borrow.Author.Tests.{eq-eqb, ne_eqb, le-leb, lt-leb}
use Rattle.layout.specs.Layout.{good_layout}
use Rattle.layout.proofs.judge.good_parts.Goals as goal
use Rattle.layout.proofs.judge.good_parts.Goals.{then-n-rank-via-then-n-rank, then-n-rank-via-else-n-rank+then-n-gt-MAX_RANK, then-n-rank-via-else-n-rank+else-n-gt-MAX_RANK+then-tiles-gt-MAX_TILES}

pub returns-then-n-rank : goal.returns-then-n-rank
unfolding good_layout
returns-then-n-rank c =
    elim c.then-n-rank.branch [
      | then-n-rank-via-then-n-rank w ↦ rw (ne_eqb _ _ w.if-n-rank.true)
      | then-n-rank-via-else-n-rank+then-n-gt-MAX_RANK w ↦ rw (eq-eqb _ _ w.if-n-rank.false, lt-leb _ _ w.if-n-gt-MAX_RANK.true)
      | then-n-rank-via-else-n-rank+else-n-gt-MAX_RANK+then-tiles-gt-MAX_TILES w ↦
          rw (eq-eqb _ _ w.if-n-rank.false, le-leb _ _ w.if-n-gt-MAX_RANK.false, lt-leb _ _ w.if-tiles-gt-MAX_TILES.true)
    ]

pub returns-then-is_permutation : goal.returns-then-is_permutation
unfolding good_layout
returns-then-is_permutation c =
    rw (eq-eqb _ _ c.if-n-rank.false, le-leb _ _ c.if-n-gt-MAX_RANK.false, le-leb _ _ c.if-tiles-gt-MAX_TILES.false, sym c.is_permutation.ensures ∙ c.if-is_permutation.true)
    c.good_tiles.ensures

pub returns-else-is_permutation : goal.returns-else-is_permutation
unfolding good_layout
returns-else-is_permutation c =
    rw (eq-eqb _ _ c.if-n-rank.false, le-leb _ _ c.if-n-gt-MAX_RANK.false, le-leb _ _ c.if-tiles-gt-MAX_TILES.false, sym c.is_permutation.ensures ∙ c.if-is_permutation.false)
    c.if-is_permutation.false
