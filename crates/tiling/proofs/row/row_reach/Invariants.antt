-- The invariant: the tiles that are left make the answer of the reach.
use Rattle.tiling.proofs.Reaches.{AtReach}
use Rattle.tiling.specs.Row.{row_reach}
use Rattle.tiling.specs.Tile.{tiles_from}
use Rattle.tiling.proofs.row.row_reach.Given as goal

abbrev pub invariant-loop-l : goal.invariant-loop-l
invariant-loop-l l = AtReach l.lens l.flat (row_reach (tiles_from l.lens l.flat) l.rank l.place l.coordinate l.most) l.f l.n l.l
