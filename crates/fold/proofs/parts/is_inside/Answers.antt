-- `fold::parts::is_inside` meets its contract. Assumes nothing.
use mir.Facts.{to_z-of_z}
use Rattle.fold.proofs.Constraints.{inside-yes, inside-no}
use Rattle.fold.proofs.parts.is_inside.Goals as goal

pub returns-then-a-lo : goal.returns-then-a-lo
returns-then-a-lo c =
    let t = rw (to_z-of_z c.ranges.a, to_z-of_z c.ranges.lo) at c.if-a-lo.true in
    rw (to_z-of_z c.ranges.hi, to_z-of_z c.ranges.b) (inside-yes c.args.lo c.args.hi c.args.a c.args.b t)

pub returns-else-a-lo : goal.returns-else-a-lo
returns-else-a-lo c =
    let t = rw (to_z-of_z c.ranges.a, to_z-of_z c.ranges.lo) at c.if-a-lo.false in
    rw (to_z-of_z c.ranges.a, to_z-of_z c.ranges.lo, t) (inside-no c.args.lo c.args.hi c.args.a c.args.b t)
