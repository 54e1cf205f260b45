-- `expression::reckoning::sum_range` meets its contract. Assumes nothing.
use mir.Facts.{to_z-of_z}
use Rattle.expression.specs.Expression.{add_range}
use Rattle.expression.proofs.Ends.{both-exact}
use Rattle.expression.proofs.reckoning.sum_range.Goals as goal

pub returns : goal.returns
unfolding add_range
returns c =
    let x = rw (to_z-of_z c.ranges.alo, to_z-of_z c.ranges.blo) at c.exact_add.ensures in
    let y = rw (to_z-of_z c.ranges.ahi, to_z-of_z c.ranges.bhi) at c.exact_add-2.ensures in
    rw (c.zip.ensures, x, y) (both-exact _ _)
