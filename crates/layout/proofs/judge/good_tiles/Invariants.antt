-- The invariant: the tiles that are left decide the answer.
use Rattle.std.proofs.Common.{◌≡◌, ◌≤◌, ◌+◌, ◌*◌, drop}
use Rattle.shape.specs.Shape.{max_rank}
use Rattle.tiling.specs.Tile.{max_entries}
use Rattle.layout.specs.Layout.{are_tiles}
use Rattle.layout.proofs.judge.good_tiles.Given as goal

abbrev pub invariant-loop-l : goal.invariant-loop-l
invariant-loop-l l = (l.n ≤ max_rank + max_entries * l.l) × (are_tiles l.n (drop l.l l.lens) (drop (max_entries * l.l) l.flat) ≡ are_tiles l.rank l.lens l.flat)
