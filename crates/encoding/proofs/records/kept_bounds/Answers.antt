-- `encoding::records::kept_bounds` meets its contract. Assumes nothing.
use Prim.Native.Nat.{◌+◌, ◌-◌}
use native.Mathlib.Omega.{arith}
use mathlib.Core.Path.{◌≡◌}
use Rattle.encoding.proofs.KeptBounds.{copied-bounds}
use Rattle.encoding.proofs.records.kept_bounds.Goals as goal

pub returns : goal.returns
returns c =
    let a = c.copy_from_slice.ensures.after in
    let n : 8 + c.args.ranges - 8 ≡ c.args.ranges = omega arith in
    let b = rw n at c.copy_from_slice-2.ensures.after in
    rw n (copied-bounds c.args.dims c.args.ranges c.args.bounds.now _ _ c.requires a b)
