-- `shape::good_shape` meets its contract. Assumes nothing.
use Rattle.std.proofs.Common.{leb, refl, sym, ◌∙◌}
use borrow.Author.Tests.{lt-leb, le-leb}
use Rattle.radix.specs.Radix.{max_size}
use Rattle.shape.specs.Shape.{max_rank, good_shape, sizes_of, count_of}
use Rattle.radix.proofs.Tests.{and-false, bounded_of, capped}
use Rattle.shape.proofs.good_shape.Goals as goal

pub returns-then-shape-gt-MAX_RANK : goal.returns-then-shape-gt-MAX_RANK
unfolding good_shape
returns-then-shape-gt-MAX_RANK c = rw (lt-leb c.args.shape.rank max_rank c.if-shape-gt-MAX_RANK.true)

pub product-requires : goal.product-requires
product-requires c = bounded_of max_size (sizes_of c.args.shape) (sym c.within.ensures ∙ c.if-within.true)

pub returns-then-within : goal.returns-then-within
unfolding good_shape
returns-then-within c =
    let s = c.args.shape in
    rw (c.product.ensures, capped (count_of s), le-leb s.rank max_rank c.if-shape-gt-MAX_RANK.false, sym c.within.ensures ∙ c.if-within.true)

pub returns-else-within : goal.returns-else-within
unfolding good_shape
returns-else-within c =
    let s = c.args.shape in
    rw (c.if-within.false, sym c.within.ensures ∙ c.if-within.false) (sym (and-false (leb s.rank max_rank) refl))
