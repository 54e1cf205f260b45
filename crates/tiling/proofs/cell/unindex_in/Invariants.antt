-- The invariant: with the tiles before level l undone, what is held becomes the answer.
use Rattle.std.proofs.Common.{◌-◌, take}
use Rattle.tiling.proofs.Undo.{AtUndo}
use Rattle.tiling.specs.Cell.{unindex, entries}
use Rattle.tiling.specs.Tile.{tiles_from}
use Rattle.tiling.proofs.cell.unindex_in.Given as goal

abbrev pub invariant-loop-l : goal.invariant-loop-l
invariant-loop-l l =
    let n = l.len - entries (tiles_from l.lens l.flat) in
    AtUndo (unindex (tiles_from l.lens l.flat) n (take l.len l.fn.at)) n l.lens l.flat l.at l.left l.l
