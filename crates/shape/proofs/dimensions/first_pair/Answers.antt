-- The search stops at the first pair, or has passed every place.
use Rattle.std.proofs.Common.{arith, length, below_more, ◌∙◌}
use borrow.Author.Tests.{eq-eqb}
use Rattle.shape.specs.Dimensions.{same_dimension}
use Rattle.shape.proofs.FirstRepeats.{no-repeat, first-repeat}
use Rattle.shape.proofs.Repeats.{pair-found, pair-none}
use Rattle.shape.proofs.dimensions.first_pair.Goals as goal

pub search-preserved : goal.search-preserved
search-preserved c = (
  c.loop-earlier.invariant.0,
  below_more _ _ c.search.invariant.1
      (no-repeat (same_dimension c.args.list.now) c.search.later (λ i h. c.loop-earlier.invariant.2 i (omega arith))),
)

pub returns-after-search : goal.returns-after-search
returns-after-search c = c.search.invariant.0 ∙ pair-none c.args.list.now (λ k l. c.search.invariant.1 k (omega arith))

pub returns-then-list-earlier : goal.returns-then-list-earlier
returns-then-list-earlier c =
    let xs = c.args.list.now in
    pair-found xs
    (first-repeat (same_dimension xs) (length xs) c.loop-earlier.earlier c.search.later (omega arith) (omega arith) (eq-eqb _ _ c.if-list-earlier.true) c.loop-earlier.invariant.2 c.search.invariant.1)
