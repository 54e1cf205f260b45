-- What the search leaves of `rules::applying::larger_below`. Assumes nothing.
use Rattle.std.proofs.Common.{sym}
use Rattle.rules.proofs.Search.{larger-yes, larger-low, larger-high}
use Rattle.rules.proofs.applying.larger_below.Goals as goal
use Rattle.rules.proofs.applying.larger_below.Goals.{else-g-below-via-then-g-below+else-r-g, else-g-below-via-else-g-below}

pub returns-then-r-g : goal.returns-then-r-g
returns-then-r-g c = sym (larger-yes _ _ _ c.if-g-below.true c.if-r-g.true)

pub returns-else-g-below : goal.returns-else-g-below
returns-else-g-below c =
    elim c.else-g-below.branch [
      | else-g-below-via-then-g-below+else-r-g w ↦ sym (larger-low _ _ _ w.if-r-g.false)
      | else-g-below-via-else-g-below w ↦ sym (larger-high _ _ _ w.if-g-below.false)
    ]
