-- Samples of the definitions: the stores of two cells, what a cut between a cell's store and its mark's leaves, and the cells of a transposed table. Assumes nothing.
use mathlib.Core.Path.{◌≡◌, refl}
use Prim.Native.Nat.{ℕ, ◌+◌}
use mathlib.Core.List.{[], ◌∷◌}
use lib.ListN.{take}
use Rattle.radix.specs.Radix.{tab}
use Rattle.shape.specs.Dimensions.{place}
use Rattle.tiling.specs.Tile as tile
use Rattle.tiling.specs.Cell as cells
use Rattle.retile.specs.Stores.{cell, mark, memory, apply_all, stores, settled}
use Rattle.retile.specs.Retile.{value_in}

abbrev plus_seven : ℕ → ℕ
plus_seven o = o + 7

two_cells : stores plus_seven 2 2 ≡ cell 2 9 ∷ (mark 3 ∷ (cell 3 10 ∷ (mark 4 ∷ [])))
two_cells = refl

cut-between : apply_all (take 3 (stores plus_seven 0 2)) (memory (0 ∷ 0 ∷ 0 ∷ []) 0) ≡ memory (7 ∷ 8 ∷ 0 ∷ []) 1
cut-between = refl

what-remains : settled 6 4 9 ≡ 2
what-remains = refl

-- [2,3] from {1,0} to {0,1}
transposed : tab (value_in (2 ∷ 3 ∷ []) (0 ∷ 1 ∷ []) [] (1 ∷ 0 ∷ []) [] (1 ∷ 2 ∷ 3 ∷ 4 ∷ 5 ∷ 6 ∷ [])) 6 ≡ 1 ∷ 4 ∷ 2 ∷ 5 ∷ 3 ∷ 6 ∷ []
unfolding value_in cells.cell cells.candidate cells.untile place tile.offset tile.offset_at tile.physical
transposed = refl
