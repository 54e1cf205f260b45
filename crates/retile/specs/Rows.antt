-- Rows of cells along one dimension of a re-tiling, and values that are filled in row by row. Assumes nothing.
use Rattle.std.specs.Prelude.{ℕ, suc, ◌+◌, ◌*◌, ◌<◌, ◌≤◌, ◌≡◌, List, length, get_or, drop}
use Rattle.radix.specs.Radix.{prod}
use Rattle.tiling.specs.Tile.{offset}
use Rattle.retile.specs.declared.along.Along.{Along}

-- a dimension by its places in the two orders
pub record IsDimension (g : Along) (sizes p q : List ℕ) : Type 0 where
  pub inside : g.dimension < length sizes
  pub from : (g.from < length p) × (get_or p g.from 0 ≡ g.dimension)
  pub to : (g.to < length q) × (get_or q g.to 0 ≡ g.dimension)
  pub size : g.size ≡ get_or sizes g.dimension 0
  pub span : g.span ≡ prod (drop (suc g.dimension) sizes)

-- the table has the offsets of the first n coordinates that span so many elements each
pub record HasSteps (sizes p : List ℕ) (tss : List (List ℕ)) (span n : ℕ) (table : List ℕ) : Type 0 where
  pub room : n ≤ length table
  pub each : (j : ℕ) → j < n → get_or table j 0 ≡ offset sizes p tss (j * span)

-- rows of at most so many coordinates, with both tables; where a row may have more than one, along a dimension
pub record IsAlong (g : Along) (sizes p : List ℕ) (tss : List (List ℕ)) (q : List ℕ) (uss : List (List ℕ)) (ptable qtable : List ℕ) : Type 0 where
  pub some : 0 < g.wide
  pub psteps : HasSteps sizes p tss g.span g.wide ptable
  pub qsteps : HasSteps sizes q uss g.span g.wide qtable
  pub more : 1 < g.wide → IsDimension g sizes p q

-- from element n on r coordinates are elements, and offsets add on both sides
pub record IsRow (sizes p : List ℕ) (tss : List (List ℕ)) (q : List ℕ) (uss : List (List ℕ)) (span wide n r : ℕ) : Type 0 where
  pub some : 0 < r
  pub narrow : r ≤ wide
  pub inside : (j : ℕ) → j < r → n + j * span < prod sizes
  pub from : (j : ℕ) → j < r → offset sizes p tss (n + j * span) ≡ offset sizes p tss n + offset sizes p tss (j * span)
  pub to : (j : ℕ) → j < r → offset sizes q uss (n + j * span) ≡ offset sizes q uss n + offset sizes q uss (j * span)

-- every value that is marked as filled is that of f
abbrev pub Right : (ℕ → ℕ) → List ℕ → List ℕ → Type 0
Right f values filled = (x : ℕ) → x < length values → get_or filled x 0 ≡ 1 → get_or values x 0 ≡ f x

-- what was filled stays filled, and place i is filled
abbrev pub Fills : ℕ → List ℕ → List ℕ → Type 0
Fills i before after = (get_or after i 0 ≡ 1) × ((x : ℕ) → get_or before x 0 ≡ 1 → get_or after x 0 ≡ 1)
