-- `pack::runs::copy_values` meets its contract. Assumes nothing.
use Rattle.std.proofs.Common.{arith, ◌≡◌, ◌+◌, List, ℕ, ap, ◌∙◌}
use lib.ListN.{get_or, set}
use Rattle.pack.specs.Runs.{copied}
use Rattle.pack.proofs.Copying.{copy-next}
use Rattle.pack.proofs.runs.copy_values.Goals as goal

pub loop-i-preserved : goal.loop-i-preserved
loop-i-preserved c =
    let l = c.loop-i in
    let a = c.args in
    ap (λ (xs : List ℕ). set xs (a.o + l.i) (get_or a.source.now (a.a + l.i) 0)) l.invariant ∙ copy-next a.source.now a.a l.i a.o a.target.now

pub returns : goal.returns
returns c =
    let l = c.loop-i in
    let a = c.args in
    let e : l.i ≡ a.n = omega (arith, l.auto.i-end, c.loop-i-test.false) in
    l.invariant ∙ ap (λ (k : ℕ). copied a.source.now a.a k a.o a.target.now) e
