-- `expression::reckoning::step_range` meets its contract. Assumes nothing.
use mathlib.Core.Path.{◌∙◌}
use Prim.Native.Nat.{◌+◌}
use native.Mathlib.Omega.{arith}
use mir.Facts.{to_z-of_z}
use Rattle.expression.proofs.Placed.{placed-is}
use Rattle.expression.proofs.Tests.{small-fits}
use Rattle.expression.proofs.Pairs.{stacks-set, small_of, leaf_r, one_r, one_r-over, sum_r, sum_r-over, room-one, room-sum}
use Rattle.expression.proofs.reckoning.step_range.Goals as goal

pub bounds-los-top : goal.bounds-los-top
bounds-los-top c = room-one c.requires c.in-One.is

pub bounds-his-top : goal.bounds-his-top
bounds-his-top c = room-one c.requires c.in-One.is

pub bounds-los-top-in-One : goal.bounds-los-top-in-One
bounds-los-top-in-One c = room-one c.requires c.in-One.is

pub bounds-his-top-in-One : goal.bounds-his-top-in-One
bounds-his-top-in-One c = room-one c.requires c.in-One.is

pub bounds-los-at-in-Sum : goal.bounds-los-at-in-Sum
bounds-los-at-in-Sum c = room-sum c.requires c.in-Sum.is

pub bounds-his-at-in-Sum : goal.bounds-his-at-in-Sum
bounds-his-at-in-Sum c = room-sum c.requires c.in-Sum.is

pub bounds-los-at-in-Sum-2 : goal.bounds-los-at-in-Sum-2
bounds-los-at-in-Sum-2 c = room-sum c.requires c.in-Sum.is

pub bounds-his-at-in-Sum-2 : goal.bounds-his-at-in-Sum-2
bounds-his-at-in-Sum-2 c = room-sum c.requires c.in-Sum.is

pub bounds-los-top-in-Sum : goal.bounds-los-top-in-Sum
bounds-los-top-in-Sum c = omega (arith, room-sum c.requires c.in-Sum.is)

pub bounds-his-top-in-Sum : goal.bounds-his-top-in-Sum
bounds-his-top-in-Sum c = omega (arith, room-sum c.requires c.in-Sum.is)

pub returns-in-Leaf : goal.returns-in-Leaf
returns-in-Leaf c =
    let e = c.in-Leaf.is in
    let x = c.in-Leaf.leaf in
    let p = c.leaf_value.ensures ∙ placed-is c.args.lower.now x c.requires.long-lower in
    let q = c.leaf_value-in-Leaf.ensures ∙ placed-is c.args.upper.now x c.requires.long-upper in
    let m = rw (← p) at (rw e at c.requires.small-lower) in
    let o = rw (← q) at (rw e at c.requires.small-upper) in
    rw (to_z-of_z (small-fits _ m), to_z-of_z (small-fits _ o))
    (record { near = ((omega arith, omega arith), stacks-set _ _ _ _ _ c.requires.stacks m o); his_after = rw e (leaf_r c.args.lower.now c.args.upper.now c.args.los.now c.args.his.now c.args.top c.requires.stacks x _ _ p q m o (omega arith) (omega arith)) })

pub returns-in_err-lo-in-One-clause-his_after : goal.returns-in_err-lo-in-One-clause-his_after
returns-in_err-lo-in-One-clause-his_after c =
    let e = c.in-One.is in
    let q = rw (to_z-of_z (small-fits _ (c.requires.stacks.small-lows c.args.top)), to_z-of_z (small-fits _ (c.requires.stacks.small-highs c.args.top))) at c.in_err-lo-in-One.ensures in
    rw (c.from_residual.ensures, e) (one_r-over c.args.lower.now c.args.upper.now c.args.los.now c.args.his.now c.args.top c.requires.stacks c.in-One.one (room-one c.requires e) q)

pub returns-in_ok-lo-in-One : goal.returns-in_ok-lo-in-One
returns-in_ok-lo-in-One c =
    let e = c.in-One.is in
    let q = rw (to_z-of_z (small-fits _ (c.requires.stacks.small-lows c.args.top)), to_z-of_z (small-fits _ (c.requires.stacks.small-highs c.args.top))) at c.in_ok-lo-in-One.ensures in
    let m = small_of _ _ _ q in
    rw (to_z-of_z (small-fits _ m.0), to_z-of_z (small-fits _ m.1))
    (record { near = ((omega arith, omega arith), stacks-set _ _ _ _ _ c.requires.stacks m.0 m.1); his_after = rw e (one_r c.args.lower.now c.args.upper.now c.args.los.now c.args.his.now c.args.top c.requires.stacks c.in-One.one _ _ (room-one c.requires e) q) })

pub returns-in_err-lo-in-Sum-clause-his_after : goal.returns-in_err-lo-in-Sum-clause-his_after
returns-in_err-lo-in-Sum-clause-his_after c =
    let e = c.in-Sum.is in
    let q = rw (to_z-of_z (small-fits _ (c.requires.stacks.small-lows (c.args.top + 1))), to_z-of_z (small-fits _ (c.requires.stacks.small-highs (c.args.top + 1))), to_z-of_z (small-fits _ (c.requires.stacks.small-lows c.args.top)), to_z-of_z (small-fits _ (c.requires.stacks.small-highs c.args.top))) at c.in_err-lo-in-Sum.ensures in
    rw (c.from_residual-in_err-lo-in-Sum.ensures, e) (sum_r-over c.args.lower.now c.args.upper.now c.args.los.now c.args.his.now c.args.top c.requires.stacks (room-sum c.requires e) q)

pub returns-in_ok-lo-in-Sum : goal.returns-in_ok-lo-in-Sum
returns-in_ok-lo-in-Sum c =
    let e = c.in-Sum.is in
    let i = room-sum c.requires e in
    let q = rw (to_z-of_z (small-fits _ (c.requires.stacks.small-lows (c.args.top + 1))), to_z-of_z (small-fits _ (c.requires.stacks.small-highs (c.args.top + 1))), to_z-of_z (small-fits _ (c.requires.stacks.small-lows c.args.top)), to_z-of_z (small-fits _ (c.requires.stacks.small-highs c.args.top))) at c.in_ok-lo-in-Sum.ensures in
    let m = small_of _ _ _ q in
    rw (to_z-of_z (small-fits _ m.0), to_z-of_z (small-fits _ m.1))
    (record { near = ((omega arith, omega arith), stacks-set _ _ _ _ _ c.requires.stacks m.0 m.1); his_after = rw e (sum_r c.args.lower.now c.args.upper.now c.args.los.now c.args.his.now c.args.top c.requires.stacks _ _ i q) })
