-- `tiling::cell::ungather_into` meets its contract. Assumes nothing.
use Rattle.std.proofs.Common.{ℕ, ap, arith, length, get_or}
use Rattle.radix.proofs.Radix.{length-tab}
use Rattle.shape.specs.Dimensions.{place}
use Rattle.tiling.proofs.Fills.{tab-next, fill-end}
use Rattle.tiling.specs.Cell.{ungather}
use Rattle.tiling.proofs.cell.ungather_into.Goals as goal

pub loop-i-preserved : goal.loop-i-preserved
loop-i-preserved c =
    let ys = c.args.ys.now in
    let p = c.args.p.now in
    tab-next (λ (j : ℕ). get_or ys (place j p) 0) (length p) c.loop-i.out c.loop-i.i _ (omega arith) c.loop-i-test.true (ap (λ (j : ℕ). get_or ys j 0) c.place_of.ensures) c.loop-i.invariant

pub returns : goal.returns
returns c =
    let p = c.args.p.now in
    fill-end (ungather p c.args.ys.now) c.loop-i.out (length p) c.loop-i.i (length-tab _ (length p)) c.loop-i-test.false c.loop-i.auto.i-end c.loop-i.invariant
