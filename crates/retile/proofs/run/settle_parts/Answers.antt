-- `retile::run::settle_parts` meets its contract. Assumes nothing.
use Rattle.std.proofs.Common.{◌≤◌, ◌∙◌, ℕ, length, arith}
use Rattle.retile.specs.Stores.{memory}
use Rattle.retile.specs.Retiling.{value_between}
use Rattle.retile.proofs.Parts.{part-made}
use Rattle.retile.proofs.run.settle_parts.Goals as goal

pub loop-mark-smaller : goal.loop-mark-smaller
loop-mark-smaller c =
    let a = c.args in
    let l = c.loop-mark in
    let value : ℕ → ℕ = value_between a.s.now a.source.now in
    let room : c.min-n.result ≤ length l.ahead = omega (arith, l.invariant.0) in
    let t = part-made value (memory a.cells.now a.mark.now) (memory l.cells l.mark) (memory c.settle.new.cells c.settle.new.mark) l.ahead c.values_into.new.values c.min-n.result room c.values_into.auto.values c.values_into.ensures c.settle.ensures l.invariant.2 in
    omega (arith, t.1, c.loop-mark-test.true)

pub loop-mark-preserved : goal.loop-mark-preserved
loop-mark-preserved c =
    let a = c.args in
    let l = c.loop-mark in
    let value : ℕ → ℕ = value_between a.s.now a.source.now in
    let room : c.min-n.result ≤ length l.ahead = omega (arith, l.invariant.0) in
    let t = part-made value (memory a.cells.now a.mark.now) (memory l.cells l.mark) (memory c.settle.new.cells c.settle.new.mark) l.ahead c.values_into.new.values c.min-n.result room c.values_into.auto.values c.values_into.ensures c.settle.ensures l.invariant.2 in
    (t.0 ∙ l.invariant.0, omega (arith, t.1, l.invariant.1), t.2)
