-- How far a row of elements reaches, so that the offset of each is that of the first one plus that of its place in the row. Assumes nothing.
use Rattle.std.specs.Prelude.{ℕ, ◌+◌, ◌-◌, ◌*◌, ◌/◌, ◌%◌, min, cond, List, [], ◌∷◌, ltb, eqb, length, get_or}
use Rattle.tiling.specs.declared.row.Reach.{Reach}

-- A row begins at a coordinate, which stands at a place of the physical index, in units of scale, and has at most so many coordinates.
-- Divided by the entry t without a remainder, the quotient goes on, in units of t.
abbrev pub quotient_reach : ℕ → Reach → Reach
quotient_reach t f = record { place = f.place; coordinate = f.coordinate / t; scale = f.scale * t; most = f.most }

-- With a remainder, the row ends before the next multiple of t, and the remainder goes on, m places further.
abbrev pub remainder_reach : ℕ → ℕ → Reach → Reach
remainder_reach t m f = record { place = f.place + m; coordinate = f.coordinate % t; scale = f.scale; most = min f.most (f.scale * (t - f.coordinate % t)) }

abbrev pub divided_reach : ℕ → ℕ → Reach → Reach
divided_reach t m f = cond (eqb (f.coordinate % t) 0) (quotient_reach t f) (remainder_reach t m f)

-- the tile ts on n places, of which it names the last ones
abbrev pub tiled_reach : List ℕ → ℕ → Reach → Reach
tiled_reach ts n f = cond (ltb f.place (n - length ts)) f (divided_reach (get_or ts (f.place - (n - length ts)) 0) (length ts) f)

-- each tile in turn
abbrev pub reached : List (List ℕ) → ℕ → Reach → Reach
reached [] n f = f
reached (ts ∷ tss) n f = reached tss (n + length ts) (tiled_reach ts n f)

-- the reach of a row from coordinate c at place i on, of b coordinates at most
abbrev pub row_reach : List (List ℕ) → ℕ → ℕ → ℕ → ℕ → Reach
row_reach tss n i c b = reached tss n (record { place = i; coordinate = c; scale = 1; most = b })

-- and how many coordinates it has
abbrev pub row_room : List (List ℕ) → ℕ → ℕ → ℕ → ℕ → ℕ
row_room tss n i c b = (row_reach tss n i c b).most
