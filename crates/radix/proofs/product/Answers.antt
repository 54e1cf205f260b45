use Rattle.std.proofs.Common.{sym, ◌*◌, get_or, arith}
use Prim.Native.Nat.{◌+◌}
use native.Mathlib.Nat.{mul-le-mul, le-mul_of_pos_right, min-eq_right}
use mir.Facts.{Fits-le, Fits-lit}
use Rattle.radix.specs.Radix.{Bounded}
use Rattle.radix.proofs.Loops.{prod-rest, rest-pos}
use Rattle.radix.proofs.product.Goals as goal

pub overflow_mul-acc : goal.overflow_mul-acc
unfolding Bounded
overflow_mul-acc c = Fits-le (mul-le-mul c.loop-d.invariant.0 (c.requires c.loop-d.d-index c.loop-d-test.true).1) (Fits-lit tt)

pub returns-then-acc-gt-MAX_COUNT : goal.returns-then-acc-gt-MAX_COUNT
returns-then-acc-gt-MAX_COUNT c =
    let e = prod-rest c.args.ds.now c.loop-d.acc c.loop-d.d-index c.loop-d-test.true in
    let g = le-mul_of_pos_right (c.loop-d.acc * get_or c.args.ds.now c.loop-d.d-index 0) (rest-pos c.args.ds.now (c.loop-d.d-index + 1) c.requires) in
    sym (min-eq_right (omega (arith, e, g)))
