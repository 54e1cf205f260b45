-- What a tiled shape gives of its physical shape. Assumes nothing.
use mathlib.Core.Path.{◌≡◌, sym, ap, ◌∙◌, subst}
use Prim.Native.Nat.{ℕ, ◌+◌, ◌<◌, ◌≤◌}
use native.Mathlib.Omega.{arith}
use mathlib.Core.List.{List}
use lib.ListN.{length, length-map}
use Rattle.radix.specs.Radix.{max_count, prod, Sizes}
use Rattle.tiling.proofs.Shaped.{shaped-valid, shaped-small}
use Rattle.tiling.proofs.Undo.{dims-length, entries-few}
use Rattle.tiling.specs.Cell.{entries}
use Rattle.tiling.specs.Tile.{gather, physical, padded, max_physical}
use Rattle.tiling.specs.Tiled.{tiles_in}
use Rattle.tiling.specs.declared.tiled.Tiled.{Tiled}

module _ (t : Tiled) where
  -- it has the rank and the entries of the tiles
  pub dims-rank : length t.dims.now ≡ length t.order.now + entries (tiles_in t)
  unfolding physical
  dims-rank =
      ap length t.same
      ∙ dims-length (tiles_in t) (gather t.order.now t.sizes.now) (rw (length-map t.order.now) (shaped-valid t.ready.shaped).tiles)
      ∙ ap (λ (n : ℕ). n + entries (tiles_in t)) (length-map t.order.now _)

  pub dims-few : length t.dims.now ≤ max_physical
  dims-few =
      let s = t.ready.shaped in
      omega (arith, dims-rank, s.rank, s.few, s.tiles, entries-few t.lens.now t.entries.now (length t.order.now) s.levels)

  pub dims-room : prod t.dims.now ≤ max_count
  unfolding padded
  dims-room = subst (λ (l : List ℕ). prod l ≤ max_count) (sym t.same) t.ready.room

  pub dims-below : (k : ℕ) → k < padded t.sizes.now t.order.now (tiles_in t) → k < prod t.dims.now
  unfolding padded
  dims-below k h = subst (λ (l : List ℕ). k < prod l) (sym t.same) h

  pub dims-small : Sizes t.dims.now
  dims-small = subst Sizes (sym t.same) (shaped-small t.ready.shaped)
