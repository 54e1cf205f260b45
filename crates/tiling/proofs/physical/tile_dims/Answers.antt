-- `tiling::physical::tile_dims` meets its contract. Assumes nothing.
use Rattle.std.proofs.Common.{◌≡◌, ◌∙◌, refl, arith, length, take}
use lib.Seq.{length-take-le}
use Rattle.radix.specs.Radix.{Bounded}
use Rattle.tiling.proofs.InPlace.{entry, ceil-is, place-step, dims-end}
use Rattle.tiling.specs.Tile.{ceil}
use Rattle.tiling.proofs.physical.tile_dims.Goals as goal

pub div_ceil-requires : goal.div_ceil-requires
unfolding Bounded
div_ceil-requires c = (c.requires.bounded c.loop-j.j c.loop-j-test.true).0

pub loop-j-preserved : goal.loop-j-preserved
unfolding Bounded
loop-j-preserved c =
    let n : length (take c.args.len c.args.at.now) ≡ c.args.len = length-take-le c.args.len c.args.at.now (omega arith) in
    place-step ceil entry c.args.ts.now (take c.args.len c.args.at.now) c.args.len n c.requires.ts_len_bound.0 c.loop-j.at c.loop-j.j (omega arith) c.loop-j.invariant c.loop-j-test.true
    _ _ (c.div_ceil.ensures ∙ ceil-is _ _ (c.requires.bounded c.loop-j.j c.loop-j-test.true).0) refl

pub returns : goal.returns
returns c =
    let n : length (take c.args.len c.args.at.now) ≡ c.args.len = length-take-le c.args.len c.args.at.now (omega arith) in
    dims-end c.args.ts.now (take c.args.len c.args.at.now) c.args.len n c.requires.ts_len_bound.0 c.loop-j.at c.loop-j.j (omega arith) c.loop-j.invariant c.loop-j-test.false
