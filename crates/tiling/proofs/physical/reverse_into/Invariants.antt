-- The invariant: the first i places are written.
use Rattle.std.proofs.Common.{◌≡◌, take}
use Rattle.tiling.specs.Tile.{reversed}
use Rattle.tiling.proofs.physical.reverse_into.Given as goal

abbrev pub invariant-loop-i : goal.invariant-loop-i
invariant-loop-i l = take l.i l.out ≡ take l.i (reversed l.m)
