-- `expression::trees::is_tree` meets its contract. Assumes nothing.
use borrow.Author.Rules.{rules}
use mathlib.Core.Path.{◌≡◌, ◌∙◌}
use Prim.Native.Nat.{suc, ◌+◌}
use native.Mathlib.Omega.{arith}
use lib.IntN.{pos}
use lib.ListN.{get_or}
use mir.Syntax.{w64}
use mir.Val.{to_z, of_z}
use native.Mathlib.Numerals.{add-one}
use Rattle.expression.proofs.Depth.{depth-next, depth-last, depth-done, eqb-suc}
use Rattle.expression.proofs.trees.is_tree.Goals as goal

pub returns-in_default : goal.returns-in_default
returns-in_default c =
    let a = c.args in
    let v : to_z w64 (of_z w64 (get_or a.values.now c.loop-i.i (pos 0))) ≡ get_or a.values.now c.loop-i.i (pos 0) = search rules in
    let e = rw v at c.node_of-node.ensures in
    let h = rw e at c.in_default.ensures in
    let w = depth-next a.dims a.ranges a.kinds.now a.values.now c.loop-i.i (a.from + a.count) c.loop-i.depth _ c.loop-i.invariant.3 (omega arith) in
    depth-done _ 0 (rw h at w)

pub loop-i-preserved : goal.loop-i-preserved
loop-i-preserved c =
    let a = c.args in
    let v : to_z w64 (of_z w64 (get_or a.values.now c.loop-i.i (pos 0))) ≡ get_or a.values.now c.loop-i.i (pos 0) = search rules in
    let e = rw v at c.node_of-node.ensures in
    let h = rw e at c.in-Some.ensures.0 in
    let w = depth-next a.dims a.ranges a.kinds.now a.values.now c.loop-i.i (a.from + a.count) c.loop-i.depth _ c.loop-i.invariant.3 (omega arith) in
    (omega arith, omega arith, omega (arith, c.in-Some.ensures), rw (h, add-one) at w)

pub returns : goal.returns
returns c =
    let a = c.args in
    eqb-suc c.loop-i.depth ∙ depth-done _ (suc c.loop-i.depth) (depth-last a.dims a.ranges a.kinds.now a.values.now c.loop-i.i (a.from + a.count) c.loop-i.depth _ c.loop-i.invariant.3 (omega arith))
