-- `integer::exact_add` meets its contract: a sum that an i64 doesn't hold is beyond the limit. Assumes nothing.
use Rattle.std.proofs.Common.{sym}
use mir.Facts.{to_z-of_z}
use Rattle.integer.proofs.Limits.{exact-unfit}
use Rattle.integer.proofs.exact_add.Goals as goal

pub returns-in_err-checked_add : goal.returns-in_err-checked_add
returns-in_err-checked_add c =
    let h = rw (to_z-of_z c.ranges.a, to_z-of_z c.ranges.b) at c.in_err-checked_add.ensures in
    rw c.from_residual.ensures (sym (exact-unfit _ h))
