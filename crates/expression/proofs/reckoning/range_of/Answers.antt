-- `expression::reckoning::range_of` meets its contract. Assumes nothing.
use borrow.Author.Rules.{rules}
use mathlib.Core.Path.{◌≡◌, refl, sym, ap, ◌∙◌, subst}
use Prim.Native.Nat.{ℕ, ◌+◌, ◌-◌, ◌≤◌}
use native.Mathlib.Omega.{arith}
use lib.IntN.{pos}
use lib.ListN.{get_or, drop}
use mir.Facts.{to_z-of_z}
use mir.Syntax.{w64}
use mir.Val.{to_z, of_z}
use Rattle.expression.specs.Node.{max_variables, max_nodes}
use Rattle.expression.specs.Machine.{Fed}
use Rattle.expression.specs.Reckon.{range_alg, zip_ranges}
use Rattle.expression.proofs.Reading.{node-sound, node-small}
use Rattle.expression.proofs.Machines.{loop-turn, loop-last, loop-fed, loop-over}
use Rattle.expression.proofs.Meaning.{reckoned, range-fed, range-is}
use Rattle.expression.proofs.Tests.{small-fits}
use Rattle.expression.proofs.Pairs.{small-zeros, ends}
use Rattle.expression.proofs.reckoning.range_of.Goals as goal

near : (t top i from : ℕ) → top ≤ t + 1 → max_nodes ≤ top + (i - from) → from ≤ i → max_nodes ≤ t + (i + 1 - from)
near t top i from h k m = omega arith

pub loop-i-init : goal.loop-i-init
loop-i-init c =
    let q : c.args.from + c.args.count - c.args.from ≡ c.args.count = omega arith in (
      omega arith,
      omega arith,
      omega arith,
      omega arith,
      record { long-lows = refl; long-highs = refl; small-lows = small-zeros max_nodes; small-highs = small-zeros max_nodes },
      rw q,
    )

pub step_range-requires : goal.step_range-requires
step_range-requires c =
    let a = c.args in
    let v : to_z w64 (of_z w64 (get_or a.values.now c.loop-i.i (pos 0))) ≡ get_or a.values.now c.loop-i.i (pos 0) = search rules in
    let e = rw v at c.node_of-node.ensures in
    let w = range-fed a.lower.now a.upper.now _ c.requires.whole in
    rw e
    (record {
      long-lower = c.requires.long-lower;
      long-upper = c.requires.long-upper;
      sound = node-sound max_variables max_variables a.dims a.ranges _ _ (λ n u v. v) (λ n u v. v);
      room = omega arith;
      within = omega arith;
      stacks = c.loop-i.invariant.4;
      small-lower = node-small a.lower.now a.dims a.ranges _ _ c.requires.small-lower;
      small-upper = node-small a.upper.now a.dims a.ranges _ _ c.requires.small-upper;
      fed = loop-fed (range_alg a.lower.now a.upper.now) a.dims a.ranges a.kinds.now a.values.now c.loop-i.i (a.from + a.count) (drop c.loop-i.top (zip_ranges c.loop-i.los c.loop-i.his)) _ c.loop-i.invariant.5 (omega arith) w;
    })

pub returns-in_err-top : goal.returns-in_err-top
returns-in_err-top c =
    let a = c.args in
    let v : to_z w64 (of_z w64 (get_or a.values.now c.loop-i.i (pos 0))) ≡ get_or a.values.now c.loop-i.i (pos 0) = search rules in
    let e = rw v at c.node_of-node.ensures in
    let q = rw (c.in_err-top.was, e) at c.step_range.ensures.his_after in
    rw c.from_residual.ensures (ap reckoned (loop-over (range_alg a.lower.now a.upper.now) a.dims a.ranges a.kinds.now a.values.now c.loop-i.i (a.from + a.count) (drop c.loop-i.top (zip_ranges c.loop-i.los c.loop-i.his)) _ c.loop-i.invariant.5 (omega arith) q) ∙ range-is a.lower.now a.upper.now _ c.requires.whole)

pub loop-i-preserved : goal.loop-i-preserved
loop-i-preserved c =
    let a = c.args in
    let v : to_z w64 (of_z w64 (get_or a.values.now c.loop-i.i (pos 0))) ≡ get_or a.values.now c.loop-i.i (pos 0) = search rules in
    let e = rw v at c.node_of-node.ensures in
    let q = rw (c.in_ok-top.was, e) at c.step_range.ensures.his_after in
    let t = c.in_ok-top.top in
    let m : (t ≤ max_nodes) × (c.loop-i.top ≤ t + 1) = rw c.in_ok-top.was at c.step_range.ensures.near.0 in (
      omega arith,
      omega arith,
      m.0,
      near t c.loop-i.top c.loop-i.i a.from m.1 c.loop-i.invariant.3 c.loop-i.invariant.0,
      c.step_range.ensures.near.1,
      loop-turn (range_alg a.lower.now a.upper.now) a.dims a.ranges a.kinds.now a.values.now c.loop-i.i (a.from + a.count) (drop c.loop-i.top (zip_ranges c.loop-i.los c.loop-i.his)) _ c.loop-i.invariant.5 (omega arith) _ q,
    )

pub bounds-los-top : goal.bounds-los-top
bounds-los-top c =
    let a = c.args in
    let o = loop-last (range_alg a.lower.now a.upper.now) a.dims a.ranges a.kinds.now a.values.now c.loop-i.i (a.from + a.count) (drop c.loop-i.top (zip_ranges c.loop-i.los c.loop-i.his)) _ c.loop-i.invariant.5 (omega arith) in
    (ends c.loop-i.los c.loop-i.his c.loop-i.top c.loop-i.invariant.4 c.loop-i.invariant.2 (subst Fed (sym o) (range-fed a.lower.now a.upper.now _ c.requires.whole))).0

pub bounds-his-top : goal.bounds-his-top
bounds-his-top c =
    let a = c.args in
    let o = loop-last (range_alg a.lower.now a.upper.now) a.dims a.ranges a.kinds.now a.values.now c.loop-i.i (a.from + a.count) (drop c.loop-i.top (zip_ranges c.loop-i.los c.loop-i.his)) _ c.loop-i.invariant.5 (omega arith) in
    (ends c.loop-i.los c.loop-i.his c.loop-i.top c.loop-i.invariant.4 c.loop-i.invariant.2 (subst Fed (sym o) (range-fed a.lower.now a.upper.now _ c.requires.whole))).0

pub returns : goal.returns
returns c =
    let a = c.args in
    let s = c.loop-i.invariant.4 in
    let w = range-fed a.lower.now a.upper.now _ c.requires.whole in
    let o = loop-last (range_alg a.lower.now a.upper.now) a.dims a.ranges a.kinds.now a.values.now c.loop-i.i (a.from + a.count) (drop c.loop-i.top (zip_ranges c.loop-i.los c.loop-i.his)) _ c.loop-i.invariant.5 (omega arith) in
    let f = ends c.loop-i.los c.loop-i.his c.loop-i.top s c.loop-i.invariant.2 (subst Fed (sym o) w) in
    rw (to_z-of_z (small-fits _ (s.small-lows c.loop-i.top)), to_z-of_z (small-fits _ (s.small-highs c.loop-i.top))) (f.1 ∙ ap reckoned o ∙ range-is a.lower.now a.upper.now _ c.requires.whole)
