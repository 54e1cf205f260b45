-- `expression::reckoning::mul_range` meets its contract. Assumes nothing.
use mir.Facts.{to_z-of_z}
use Rattle.expression.proofs.Ends.{both-exact, mul-neg, mul-pos}
use Rattle.expression.proofs.reckoning.mul_range.Goals as goal

pub returns-then-z-lt0 : goal.returns-then-z-lt0
returns-then-z-lt0 c =
    let x = rw (to_z-of_z c.ranges.z, to_z-of_z c.ranges.lo) at c.exact_mul-x.ensures in
    let y = rw (to_z-of_z c.ranges.z, to_z-of_z c.ranges.hi) at c.exact_mul-y.ensures in
    let t = rw (to_z-of_z c.ranges.z) at c.if-z-lt0.true in
    rw (c.zip.ensures, x, y, mul-neg c.args.z c.args.lo c.args.hi t) (both-exact _ _)

pub returns-else-z-lt0 : goal.returns-else-z-lt0
returns-else-z-lt0 c =
    let x = rw (to_z-of_z c.ranges.z, to_z-of_z c.ranges.lo) at c.exact_mul-x.ensures in
    let y = rw (to_z-of_z c.ranges.z, to_z-of_z c.ranges.hi) at c.exact_mul-y.ensures in
    let t = rw (to_z-of_z c.ranges.z) at c.if-z-lt0.false in
    rw (c.zip-else-z-lt0.ensures, x, y, mul-pos c.args.z c.args.lo c.args.hi t) (both-exact _ _)
