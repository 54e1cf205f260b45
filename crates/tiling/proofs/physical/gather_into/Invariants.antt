-- The invariant: the first i places are written.
use Rattle.std.proofs.Common.{◌≡◌, take}
use Rattle.tiling.specs.Tile.{gather}
use Rattle.tiling.proofs.physical.gather_into.Given as goal

abbrev pub invariant-loop-i : goal.invariant-loop-i
invariant-loop-i l = take l.i l.out ≡ take l.i (gather l.p l.xs)
