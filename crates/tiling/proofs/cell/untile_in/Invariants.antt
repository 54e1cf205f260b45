-- The invariant: the first j entries of the tile are undone.
use Rattle.std.proofs.Common.{◌-◌, length, take}
use Rattle.tiling.proofs.UndoInPlace.{PartlyUndone}
use Rattle.tiling.proofs.cell.untile_in.Given as goal

abbrev pub invariant-loop-j : goal.invariant-loop-j
invariant-loop-j l = PartlyUndone (l.len - length l.ts - length l.ts) l.ts (take l.len l.fn.at) l.at l.j
