-- `tiling::cell::unindex_in` meets its contract. Assumes nothing.
use Rattle.std.proofs.Common.{◌<◌, ◌-◌, ℕ, List, sym, subst, arith, take}
use Rattle.radix.proofs.Tests.{upto-bounded}
use Rattle.radix.specs.Radix.{Upto}
use Rattle.tiling.proofs.Undo.{AtUndo, UndoTile, undo-start, undo-tile, undo-next, undo-small, undo-above}
use Rattle.tiling.specs.Cell.{unindex, entries}
use Rattle.tiling.specs.Found.{Undoable}
use Rattle.tiling.specs.Tile.{max_entry, tiles_from}
use Rattle.tiling.proofs.cell.unindex_in.Goals as goal

-- the tile below level l
tile : {at₀ lens flat at aim : List ℕ} {len left l : ℕ} → Undoable at₀ len lens flat → 0 < l → AtUndo aim (len - entries (tiles_from lens flat)) lens flat at left l → UndoTile lens flat left (l - 1)
tile {at₀} {lens} {flat} {at} {aim} {len} {left} {l} r h v = undo-tile lens flat (len - entries (tiles_from lens flat)) r.levels r.tiles aim at left (l - 1) (undo-above h v)

pub loop-l-init : goal.loop-l-init
loop-l-init c =
    let r = c.requires in
    undo-start c.args.lens.now c.args.flat.now (c.args.len - entries (tiles_from c.args.lens.now c.args.flat.now)) r.levels r.tiles c.args.at.now c.args.len r.long r.fits (omega arith) r.small

pub untile_in-requires : goal.untile_in-requires
untile_in-requires c =
    let t = tile c.requires c.loop-l-test.true c.loop-l.invariant in
    record {
      ts_len_bound = (omega arith, omega arith);
      upto = undo-small c.loop-l.invariant;
      upto_2 = subst (Upto max_entry) (sym c.entries.ensures.value) (upto-bounded max_entry _ t.bounded);
    }

pub overflow_sub-left : goal.overflow_sub-left
overflow_sub-left c =
    let t = tile c.requires c.loop-l-test.true c.loop-l.invariant in
    omega arith

pub loop-l-preserved : goal.loop-l-preserved
loop-l-preserved c =
    let r = c.requires in
    let lens = c.args.lens.now in
    let flat = c.args.flat.now in
    let n = c.args.len - entries (tiles_from lens flat) in
    undo-next lens flat n r.levels r.tiles (unindex (tiles_from lens flat) n (take c.args.len c.args.at.now)) c.loop-l.at c.loop-l.left (c.loop-l.l - 1) (undo-above c.loop-l-test.true c.loop-l.invariant)
    c.untile_in.new.at (omega arith) (rw (c.entries.ensures.len, c.entries.ensures.value) at c.untile_in.ensures)
