-- What each loop of `route::same::same_tiles` keeps.
use Rattle.std.proofs.Common.{◌≡◌}
use Rattle.tiling.specs.Tile.{tiles_from}
use Rattle.route.specs.Same.{same_tiles}
use Rattle.route.proofs.Written.{tiles_after}
use Rattle.route.proofs.same.same_tiles.Given as goal

abbrev pub invariant-loop-l : goal.invariant-loop-l
invariant-loop-l l =
    same_tiles (tiles_after l.lens l.flat l.l) (tiles_after l.lens2 l.flat2 l.l)
    ≡ same_tiles (tiles_from l.lens l.flat) (tiles_from l.lens2 l.flat2)
