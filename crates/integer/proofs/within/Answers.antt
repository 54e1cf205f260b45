use Rattle.std.proofs.Common.{◌∙◌}
use mir.Facts.{to_z-of_z}
use Rattle.integer.proofs.Limits.{exact-test}
use Rattle.integer.proofs.within.Goals as goal

pub returns : goal.returns
returns c =
    let e = rw (to_z-of_z c.ranges.s) at c.then_some.ensures in
    let u = rw (to_z-of_z c.ranges.s) at c.unsigned_abs.ensures.value in
    e ∙ exact-test _ _ _ u c.unsigned_abs-2.ensures.value
