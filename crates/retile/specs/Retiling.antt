-- What a re-tiling reads and how far its sides reach, of the tiles of both. Assumes nothing.
use Rattle.std.specs.Prelude.{ℕ, List}
use Rattle.tiling.specs.Tile.{padded}
use Rattle.tiling.specs.Tiled.{tiles_in}
use Rattle.retile.specs.Retile.{value_in}
use Rattle.retile.specs.Rows.{IsAlong}
use Rattle.retile.specs.declared.along.Along.{Along}
use Rattle.retile.specs.declared.retiling.Retiling.{Retiling}

-- the value of cell o of the destination
abbrev pub value_between : Retiling → List ℕ → ℕ → ℕ
value_between s source o = value_in s.from.sizes.now s.from.order.now (tiles_in s.from) s.to.order.now (tiles_in s.to) source o

-- how many cells the source has
abbrev pub padded_from : Retiling → ℕ
padded_from s = padded s.from.sizes.now s.from.order.now (tiles_in s.from)

-- and the destination
abbrev pub padded_to : Retiling → ℕ
padded_to s = padded s.from.sizes.now s.to.order.now (tiles_in s.to)

-- rows of both sides, with both tables
abbrev pub RowsOf : Along → Retiling → List ℕ → List ℕ → Type 0
RowsOf g s ptable qtable = IsAlong g s.from.sizes.now s.from.order.now (tiles_in s.from) s.to.order.now (tiles_in s.to) ptable qtable
