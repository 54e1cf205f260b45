-- `compose::nodes::splice_nodes` meets its contract. Assumes nothing.
use borrow.Author.Rules.{rules}
use mathlib.Core.Path.{◌≡◌}
use Prim.Native.Nat.{◌+◌}
use native.Mathlib.Numerals.{add-one}
use lib.IntN.{pos}
use lib.ListN.{get_or}
use mir.Syntax.{w64}
use mir.Val.{to_z, of_z}
use Rattle.encoding.proofs.Stored.{room}
use Rattle.compose.specs.Splice.{result_nodes}
use Rattle.compose.proofs.Splicing.{spliced-none, spliced-next, node-spliced}
use Rattle.compose.proofs.nodes.splice_nodes.Goals as goal

pub loop-j-init : goal.loop-j-init
loop-j-init c = spliced-none _ _ _ _ _ _ _ c.requires.2

pub put_spliced-place-requires : goal.put_spliced-place-requires
put_spliced-place-requires c =
    let a = c.args in
    let v : to_z w64 (of_z w64 (get_or a.held.now (a.from + c.loop-j.j) (pos 0))) ≡ get_or a.held.now (a.from + c.loop-j.j) (pos 0) = search rules in
    let e = rw v at c.node_of-node.ensures in
    rw e (node-spliced a.f a.dims a.ranges c.requires.0 a.source.now a.held.now _, room c.requires.2 c.loop-j.invariant)

pub loop-j-preserved : goal.loop-j-preserved
loop-j-preserved c =
    let a = c.args in
    let v : to_z w64 (of_z w64 (get_or a.held.now (a.from + c.loop-j.j) (pos 0))) ≡ get_or a.held.now (a.from + c.loop-j.j) (pos 0) = search rules in
    let e = rw v at c.node_of-node.ensures in
    rw add-one (spliced-next a.dims a.ranges a.source.now a.held.now c.requires.2 a.from c.loop-j.j (result_nodes a.f) a.f.ranges c.loop-j.invariant (rw e at c.put_spliced-place.ensures))
