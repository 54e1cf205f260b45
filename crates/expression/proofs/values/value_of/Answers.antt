-- `expression::values::value_of` meets its contract. Assumes nothing.
use borrow.Author.Rules.{rules}
use mathlib.Core.Path.{◌≡◌, sym, ◌∙◌, subst}
use Prim.Native.Nat.{◌+◌}
use native.Mathlib.Omega.{arith}
use lib.IntN.{pos}
use lib.ListN.{length, get_or, drop}
use mir.Syntax.{w64}
use mir.Val.{to_z, of_z}
use Rattle.expression.specs.Machine.{Whole}
use Rattle.expression.specs.Value.{value_alg}
use Rattle.expression.proofs.Reading.{node-sound}
use Rattle.expression.proofs.Machines.{one_left, loop-ready, loop-turn, loop-last}
use Rattle.expression.proofs.values.value_of.Goals as goal

pub step_value-top-requires : goal.step_value-top-requires
step_value-top-requires c =
    let a = c.args in
    let v : to_z w64 (of_z w64 (get_or a.values.now c.loop-i.i (pos 0))) ≡ get_or a.values.now c.loop-i.i (pos 0) = search rules in
    let e = rw v at c.node_of-node.ensures in
    rw e
    (record {
      sound = node-sound _ _ (length a.ds.now) (length a.ss.now) _ _ (λ n u v. u) (λ n u v. u);
      room = omega arith;
      within = omega arith;
      long = c.loop-i.invariant.4;
      ready = loop-ready (value_alg a.ds.now a.ss.now) (length a.ds.now) (length a.ss.now) a.kinds.now a.values.now c.loop-i.i (a.from + a.count) (drop c.loop-i.top c.loop-i.items) _ c.loop-i.invariant.5 (omega arith) c.requires.whole;
    })

pub loop-i-preserved : goal.loop-i-preserved
loop-i-preserved c =
    let a = c.args in
    let v : to_z w64 (of_z w64 (get_or a.values.now c.loop-i.i (pos 0))) ≡ get_or a.values.now c.loop-i.i (pos 0) = search rules in
    let e = rw v at c.node_of-node.ensures in
    let q = rw e at c.step_value-top.ensures.after in (
      omega arith,
      omega arith,
      omega arith,
      omega arith,
      c.step_value-top.ensures.upper_bound.1.1,
      loop-turn (value_alg a.ds.now a.ss.now) (length a.ds.now) (length a.ss.now) a.kinds.now a.values.now c.loop-i.i (a.from + a.count) (drop c.loop-i.top c.loop-i.items) _ c.loop-i.invariant.5 (omega arith) _ q,
    )

pub bounds-items-top : goal.bounds-items-top
bounds-items-top c =
    let a = c.args in
    let o = loop-last (value_alg a.ds.now a.ss.now) (length a.ds.now) (length a.ss.now) a.kinds.now a.values.now c.loop-i.i (a.from + a.count) (drop c.loop-i.top c.loop-i.items) _ c.loop-i.invariant.5 (omega arith) in
    let n = c.loop-i.invariant.4 in
    omega (arith, (one_left c.loop-i.items c.loop-i.top (pos 0) (omega arith) (subst Whole (sym o) c.requires.whole)).0)

pub returns : goal.returns
returns c =
    let a = c.args in
    let o = loop-last (value_alg a.ds.now a.ss.now) (length a.ds.now) (length a.ss.now) a.kinds.now a.values.now c.loop-i.i (a.from + a.count) (drop c.loop-i.top c.loop-i.items) _ c.loop-i.invariant.5 (omega arith) in
    let n = c.loop-i.invariant.4 in
    let v : to_z w64 (of_z w64 (get_or c.loop-i.items c.loop-i.top (pos 0))) ≡ get_or c.loop-i.items c.loop-i.top (pos 0) = search rules in
    rw (← o) (v ∙ (one_left c.loop-i.items c.loop-i.top (pos 0) (omega arith) (subst Whole (sym o) c.requires.whole)).1)
