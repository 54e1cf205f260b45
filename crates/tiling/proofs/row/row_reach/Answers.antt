-- `tiling::row::row_reach` meets its contract. Assumes nothing.
use Rattle.std.proofs.Common.{◌+◌, sym, subst, arith, get_or}
use Rattle.tiling.proofs.Levels.{tile-at}
use Rattle.tiling.proofs.Reaches.{AtReach, reach-next, scale_small}
use Rattle.tiling.specs.Row.{row_reach}
use Rattle.tiling.specs.Tile.{tiles_from}
use Rattle.tiling.specs.declared.row.Reach.{Reach}
use Rattle.tiling.proofs.row.row_reach.Goals as goal

pub tiled_reach-f-requires-clause-ts_len_bound : goal.tiled_reach-f-requires-clause-ts_len_bound
tiled_reach-f-requires-clause-ts_len_bound c =
    let t = tile-at c.args.lens.now c.args.flat.now c.loop-l.n c.loop-l.l c.loop-l-test.true c.loop-l.invariant.levels in
    (omega arith, omega arith, omega arith, scale_small c.loop-l.f.scale c.loop-l.l (omega arith) c.loop-l.invariant.scale)

pub loop-l-preserved : goal.loop-l-preserved
loop-l-preserved c =
    let a = c.args in
    let g = row_reach (tiles_from a.lens.now a.flat.now) a.rank a.place a.coordinate a.most in
    subst (λ (f : Reach). AtReach a.lens.now a.flat.now g f (c.loop-l.n + get_or a.lens.now c.loop-l.l 0) (c.loop-l.l + 1)) (sym c.tiled_reach-f.ensures)
    (reach-next a.lens.now a.flat.now g c.entries.result.now c.loop-l.f c.loop-l.n c.loop-l.l c.loop-l.invariant c.loop-l-test.true c.entries.ensures.value)
