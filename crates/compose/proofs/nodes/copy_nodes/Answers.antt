-- `compose::nodes::copy_nodes` meets its contract. Assumes nothing.
use borrow.Author.Rules.{rules}
use mathlib.Core.Path.{◌≡◌}
use Prim.Native.Nat.{◌+◌}
use native.Mathlib.Numerals.{add-one}
use lib.IntN.{pos}
use lib.ListN.{get_or}
use mir.Syntax.{w64}
use mir.Val.{to_z, of_z}
use Rattle.compose.proofs.Splicing.{copied_none, copied_next}
use Rattle.compose.proofs.nodes.copy_nodes.Goals as goal

pub loop-j-init : goal.loop-j-init
loop-j-init c = copied_none _ _ _ _ _ c.requires.1

pub loop-j-preserved : goal.loop-j-preserved
loop-j-preserved c =
    let a = c.args in
    let v : to_z w64 (of_z w64 (get_or a.held.now (a.from + c.loop-j.j) (pos 0))) ≡ get_or a.held.now (a.from + c.loop-j.j) (pos 0) = search rules in
    let e = rw v at c.node_of-node.ensures in
    rw add-one (copied_next a.dims a.ranges a.source.now a.held.now c.requires.1 a.from c.loop-j.j c.loop-j.invariant (rw e at c.write_node-place.ensures))
