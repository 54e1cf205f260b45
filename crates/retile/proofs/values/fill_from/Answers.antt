-- `retile::values::fill_from` meets its contract. Assumes nothing.
use Rattle.std.proofs.Common.{◌≡◌, ◌+◌, ◌∙◌, ℕ, length, take, sym, ap, arith}
use Rattle.std.proofs.lemmas.List.{length-take-le}
use Rattle.tiling.specs.Tiled.{tiles_in}
use Rattle.tiling.specs.Found.{found_cell}
use Rattle.tiling.proofs.OwnCells.{cell_holds}
use Rattle.tiling.proofs.Shaped.{shaped-valid}
use Rattle.retile.specs.Retiling.{value_between}
use Rattle.retile.proofs.Between.{ready-to, same-cell, padding-to}
use Rattle.retile.proofs.Reading.{value-padding, row_inside, row_near, row-values}
use Rattle.retile.proofs.values.fill_from.Goals as goal

pub offset-k-requires : goal.offset-k-requires
offset-k-requires c = (cell_holds _ _ _ _ _ (sym (same-cell c.args.s.now _) ∙ sym c.cell.ensures ∙ ap found_cell c.in-Some.is)).0

pub row_length-r-requires : goal.row_length-r-requires
row_length-r-requires c =
    record { along = (c.requires.along, (cell_holds _ _ _ _ _ (sym (same-cell c.args.s.now _) ∙ sym c.cell.ensures ∙ ap found_cell c.in-Some.is)).0) }

pub fill_row-requires-clause-by_index : goal.fill_row-requires-clause-by_index
fill_row-requires-clause-by_index c =
    let row = c.row_length-r.ensures in
    let g = c.requires.along in
    let P = c.args.ptable.now in
    let Q = c.args.qtable.now in
    let v = shaped-valid c.args.s.now.from.ready.shaped in
    let w = shaped-valid (ready-to c.args.s.now).shaped in
    let near : length (take c.row_length-r.result P) ≡ c.row_length-r.result = length-take-le _ P (omega (arith, row.narrow, g.psteps.room)) in
    let far : length (take c.row_length-r.result Q) ≡ c.row_length-r.result = length-take-le _ Q (omega (arith, row.narrow, g.qsteps.room)) in (
      λ j h.
          let x = row_inside _ _ _ _ _ _ _ _ _ row P Q g.psteps g.qsteps v c.offset-k.result c.offset-k.ensures j (omega (arith, h, near)) in
          (omega (arith, x, c.requires.source_room), omega (arith, x, c.args.s.now.from.ready.room)),
      λ j h.
          let x = row_near _ _ _ _ _ _ _ _ _ row P Q g.psteps g.qsteps w j (omega (arith, h, far)) in
          omega (arith, x, (ready-to c.args.s.now).room),
    )

pub returns-in-Some : goal.returns-in-Some
returns-in-Some c =
    let a = c.args in
    let row = c.row_length-r.ensures in
    let g = c.requires.along in
    let Q = a.qtable.now in
    let w = shaped-valid (ready-to c.args.s.now).shaped in
    let held = sym (same-cell c.args.s.now _) ∙ sym c.cell.ensures ∙ ap found_cell c.in-Some.is in
    let far : length (take c.row_length-r.result Q) ≡ c.row_length-r.result = length-take-le _ Q (omega (arith, row.narrow, g.qsteps.room)) in (
      c.fill_row.ensures.0 (λ (x : ℕ). value_between a.s.now a.source.now (a.o + x))
          (λ j h. row-values _ _ _ _ _ _ _ _ _ row a.ptable.now Q g.psteps g.qsteps w a.source.now a.o a.i c.offset-k.result held c.offset-k.ensures j (omega (arith, h, far))),
      c.fill_row.ensures.1,
    )

pub returns-in-None : goal.returns-in-None
returns-in-None c =
    let a = c.args in
    let value : ℕ → ℕ = value_between a.s.now a.source.now in (
      c.fill_padding.ensures.0 (λ (x : ℕ). value (a.o + x))
          (λ j h l.
          let z : a.o + (a.i + j) ≡ a.o + a.i + j = omega arith in
          ap value z ∙ value-padding _ a.s.now.from.order.now (tiles_in a.s.now.from) _ _ a.source.now _ _ (padding-to a.s.now _ _ c.padding_run-r.ensures) j h),
      c.fill_padding.ensures.1,
    )
