-- `retile::stores::settle` meets its contract. Assumes nothing.
use Rattle.std.proofs.Common.{◌<◌, ◌*◌, length, refl, arith}
use Rattle.retile.proofs.Running.{running-here, running-next}
use Rattle.retile.proofs.stores.settle.Goals as goal

pub offset_bounds-values-i : goal.offset_bounds-values-i
offset_bounds-values-i c =
    let more : c.loop-k._k < 2 * length c.args.values.now = omega arith in
    let h = running-here _ _ _ _ _ _ c.loop-k.invariant more in
    omega (arith, h)

pub bounds-values-i : goal.bounds-values-i
bounds-values-i c =
    let more : c.loop-k._k < 2 * length c.args.values.now = omega arith in
    let h = running-here _ _ _ _ _ _ c.loop-k.invariant more in
    omega (arith, h)

pub step-phase-requires : goal.step-phase-requires
step-phase-requires c =
    let more : c.loop-k._k < 2 * length c.args.values.now = omega arith in
    let h = running-here _ _ _ _ _ _ c.loop-k.invariant more in
    omega (arith, h)

pub loop-k-preserved : goal.loop-k-preserved
loop-k-preserved c =
    let more : c.loop-k._k < 2 * length c.args.values.now = omega arith in
    running-next _ _ _ _ _ _ c.loop-k.invariant more _ refl _ _ c.step-phase.ensures.0 c.step-phase.ensures.1
