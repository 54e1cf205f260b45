-- `compose::parts::compose_constraints` meets its contract. Assumes nothing.
use borrow.Author.Rules.{rules}
use mathlib.Core.Path.{◌≡◌, ◌∙◌}
use native.Mathlib.Omega.{arith}
use native.Mathlib.Numerals.{add-one}
use mir.Syntax.{w64}
use mir.Val.{to_z, of_z}
use Rattle.encoding.proofs.Held.{holds-room}
use Rattle.compose.proofs.Gathering.{composing-start, composing-next, composing-end}
use Rattle.compose.proofs.parts.compose_constraints.Goals as goal

pub loop-k-init : goal.loop-k-init
loop-k-init c = composing-start c.args.f c.args.g c.requires.2 c.requires.3

pub compose_constraint-end-requires : goal.compose_constraint-end-requires
compose_constraint-end-requires c = (c.requires.0, c.loop-k-test.true, holds-room c.loop-k.invariant.trees.holds)

pub loop-k-preserved : goal.loop-k-preserved
loop-k-preserved c =
    let ends = c.ends_of-ends in
    let x : to_z w64 (of_z w64 ends.result.lower) ≡ ends.result.lower = search rules in
    let y : to_z w64 (of_z w64 ends.result.upper) ≡ ends.result.upper = search rules in
    rw add-one (composing-next c.args.f c.args.g c.loop-k.k c.loop-k.invariant c.compose_constraint-end.ensures _ _ (x ∙ ends.ensures.low) (y ∙ ends.ensures.high))

pub returns : goal.returns
returns c = composing-end c.args.f c.args.g c.loop-k.k (omega arith) c.loop-k.invariant
