-- Runs of cells from a cell on: those whose digits are all at least the first one's, and those that are padding. Assumes nothing.
use Rattle.std.specs.Prelude.{ℕ, ◌+◌, ◌-◌, ◌*◌, ◌/◌, ◌%◌, ◌<◌, ◌≡◌, cond, List, [], ◌∷◌, eqb}
use Rattle.radix.specs.Radix.{prod}
use Rattle.tiling.specs.Cell.{padding, cell}
use Rattle.tiling.specs.Tile.{padded}

-- how many cells from k on have digits over ds that are all at least those of k: up to the end of the last digit that is not 0
abbrev pub rest_of : List ℕ → ℕ → ℕ
rest_of [] k = 1
rest_of (d ∷ ds) k = cond (eqb (k % prod ds) 0) ((d - k / prod ds) * prod ds) (rest_of ds (k % prod ds))

-- the r cells from k on are padding, and r is at least 1
pub record PaddingRun (sizes p : List ℕ) (tss : List (List ℕ)) (k r : ℕ) : Type 0 where
  pub some : 0 < r
  pub each : (j : ℕ) → j < r → (k + j < padded sizes p tss) × (cell sizes p tss (k + j) ≡ padding)
