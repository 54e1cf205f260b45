-- The invariant: the first i places are written.
use Rattle.std.proofs.Common.{◌≡◌, take}
use Rattle.tiling.specs.Cell.{ungather}
use Rattle.tiling.proofs.cell.ungather_into.Given as goal

abbrev pub invariant-loop-i : goal.invariant-loop-i
invariant-loop-i l = take l.i l.out ≡ take l.i (ungather l.p l.ys)
