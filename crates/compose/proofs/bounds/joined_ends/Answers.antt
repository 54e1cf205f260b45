-- `compose::bounds::joined_ends` meets its contract. Assumes nothing.
use mathlib.Core.Path.{sym}
use native.Mathlib.Omega.{arith}
use lib.IntN.{pos}
use Rattle.expression.specs.Node.{max_places}
use Rattle.encoding.proofs.Listed.{listed-is}
use Rattle.compose.specs.ComposeMap.{end_at}
use Rattle.compose.proofs.bounds.joined_ends.Goals as goal

pub returns : goal.returns
returns c =
    let a = c.args in
    sym (listed-is (end_at a.first a.fs.now a.gs.now) max_places c.loop-i.out (pos 0) (sym c.loop-i.invariant.0) (λ k h. sym (c.loop-i.invariant.1 k (omega arith))))
