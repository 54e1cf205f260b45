-- What a row of cells reads: the source's cells along one dimension, or 0 in padding. Assumes nothing.
use mathlib.Core.Path.{◌≡◌, sym, ap, ◌∙◌}
use Prim.Native.Nat.{ℕ, ◌+◌, ◌*◌, ◌<◌}
use native.Mathlib.Omega.{arith}
use mathlib.Core.List.{List}
use lib.ListN.{get_or, take}
use lib.Seq.{get_or-take}
use Rattle.tiling.specs.Cell.{holds, cell}
use Rattle.tiling.specs.Runs.{PaddingRun}
use Rattle.tiling.specs.Tile.{offset, padded}
use Rattle.tiling.proofs.OwnCells.{Valid, cell_holds, cell-offset, offset-below}
use Rattle.retile.specs.Retile.{read_for, value_in}
use Rattle.retile.specs.Rows.{HasSteps, IsRow}
use native.Mathlib.Nat.{zero-mul}
use Rattle.tiling.proofs.First.{offset-first}

-- a cell whose element is known
pub value-holds : (sizes p : List ℕ) (tss : List (List ℕ)) (q : List ℕ) (uss : List (List ℕ)) (source : List ℕ) (o n : ℕ) → cell sizes q uss o ≡ holds n → value_in sizes p tss q uss source o ≡ get_or source (offset sizes p tss n) 0
unfolding value_in
value-holds sizes p tss q uss source o n e = ap (read_for sizes p tss source) e

-- padding goes on
pub value-padding : (sizes p : List ℕ) (tss : List (List ℕ)) (q : List ℕ) (uss : List (List ℕ)) (source : List ℕ) (o r : ℕ) → PaddingRun sizes q uss o r → (j : ℕ) → j < r → value_in sizes p tss q uss source (o + j) ≡ 0
unfolding value_in
value-padding sizes p tss q uss source o r w j h = ap (read_for sizes p tss source) (w.each j h).1

-- a row from element n on, in cell at, with the first r entries of both tables
module _ (sizes p : List ℕ) (tss : List (List ℕ)) (q : List ℕ) (uss : List (List ℕ)) (span wide n r : ℕ) (row : IsRow sizes p tss q uss span wide n r) (ptable qtable : List ℕ)
    (ps : HasSteps sizes p tss span wide ptable) (qs : HasSteps sizes q uss span wide qtable) where
  from_step : (j : ℕ) → j < r → get_or (take r ptable) j 0 ≡ offset sizes p tss (j * span)
  from_step j h = get_or-take r ptable j 0 h ∙ ps.each j (omega (arith, row.narrow))

  to_step : (j : ℕ) → j < r → get_or (take r qtable) j 0 ≡ offset sizes q uss (j * span)
  to_step j h = get_or-take r qtable j 0 h ∙ qs.each j (omega (arith, row.narrow))

  -- the first step of a row stays where it is
  pub first_step : get_or (take r qtable) 0 0 ≡ 0
  first_step = to_step 0 row.some ∙ ap (offset sizes q uss) (zero-mul span) ∙ offset-first sizes q uss

  -- the row lies inside the source
  pub row_inside : Valid sizes p tss → (k : ℕ) → k ≡ offset sizes p tss n → (j : ℕ) → j < r → k + get_or (take r ptable) j 0 < padded sizes p tss
  row_inside v k e j h = omega (arith, e, from_step j h, row.from j h, offset-below sizes p tss v (n + j * span) (row.inside j h))

  pub row_near : Valid sizes q uss → (j : ℕ) → j < r → get_or (take r qtable) j 0 < padded sizes q uss
  row_near v j h = omega (arith, to_step j h, row.to j h, offset-below sizes q uss v (n + j * span) (row.inside j h))

  -- and its values are the source's
  pub row-values : Valid sizes q uss → (source : List ℕ) (o i k : ℕ) → cell sizes q uss (o + i) ≡ holds n → k ≡ offset sizes p tss n → (j : ℕ) → j < r
      → value_in sizes p tss q uss source (o + (i + get_or (take r qtable) j 0)) ≡ get_or source (k + get_or (take r ptable) j 0) 0
  row-values v source o i k e w j h =
      let x = n + j * span in
      let at : o + (i + get_or (take r qtable) j 0) ≡ offset sizes q uss x = omega (arith, to_step j h, row.to j h, (cell_holds sizes q uss (o + i) n e).1) in
      let from : k + get_or (take r ptable) j 0 ≡ offset sizes p tss x = omega (arith, w, from_step j h, row.from j h) in
      ap (value_in sizes p tss q uss source) at
      ∙ value-holds sizes p tss q uss source (offset sizes q uss x) x (cell-offset sizes q uss v x (row.inside j h))
      ∙ ap (λ (y : ℕ). get_or source y 0) (sym from)
