-- `tiling::physical::reverse_into` meets its contract. Assumes nothing.
use Rattle.std.proofs.Common.{◌≡◌, ◌-◌, ◌+◌, ℕ, ap, arith, length, get_or}
use Rattle.radix.proofs.Radix.{length-tab}
use Rattle.tiling.proofs.Fills.{tab-next, fill-end}
use Rattle.tiling.specs.Tile.{reversed}
use Rattle.tiling.proofs.physical.reverse_into.Goals as goal

pub loop-i-preserved : goal.loop-i-preserved
loop-i-preserved c =
    let m = c.args.m.now in
    let i = c.loop-i.i in
    let e : length m - 1 - i ≡ length m - (i + 1) = omega arith in
    tab-next (λ (k : ℕ). get_or m (length m - (k + 1)) 0) (length m) c.loop-i.out i _ (omega arith) c.loop-i-test.true (ap (λ (k : ℕ). get_or m k 0) e) c.loop-i.invariant

pub returns : goal.returns
returns c =
    let m = c.args.m.now in
    fill-end (reversed m) c.loop-i.out (length m) c.loop-i.i (length-tab _ (length m)) c.loop-i-test.false c.loop-i.auto.i-end c.loop-i.invariant
