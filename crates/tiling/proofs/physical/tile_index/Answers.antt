-- `tiling::physical::tile_index` meets its contract. Assumes nothing.
use Rattle.std.proofs.Common.{◌≡◌, ◌/◌, ◌%◌, arith, length, take}
use lib.Seq.{length-take-le}
use Rattle.radix.specs.Radix.{Bounded}
use Rattle.tiling.proofs.InPlace.{place-step, index-end}
use Rattle.tiling.proofs.physical.tile_index.Goals as goal

pub divide-d-requires-clause-divisor_nonzero : goal.divide-d-requires-clause-divisor_nonzero
unfolding Bounded
divide-d-requires-clause-divisor_nonzero c = c.requires.bounded c.loop-j.j c.loop-j-test.true

pub loop-j-preserved : goal.loop-j-preserved
loop-j-preserved c =
    let n : length (take c.args.len c.args.at.now) ≡ c.args.len = length-take-le c.args.len c.args.at.now (omega arith) in
    place-step ◌/◌ ◌%◌ c.args.ts.now (take c.args.len c.args.at.now) c.args.len n c.requires.ts_len_bound.0 c.loop-j.at c.loop-j.j (omega arith) c.loop-j.invariant c.loop-j-test.true
    _ _ c.divide-d.ensures.0 c.divide-d.ensures.1

pub returns : goal.returns
returns c =
    let n : length (take c.args.len c.args.at.now) ≡ c.args.len = length-take-le c.args.len c.args.at.now (omega arith) in
    index-end c.args.ts.now (take c.args.len c.args.at.now) c.args.len n c.requires.ts_len_bound.0 c.loop-j.at c.loop-j.j (omega arith) c.loop-j.invariant c.loop-j-test.false
