-- The theorems on layouts: every element has its own cell, and every cell says which element it holds. Assumes nothing.
use mathlib.Core.Path.{◌≡◌, refl}
use Prim.Native.Nat.{ℕ, ◌+◌, ◌-◌, ◌<◌, ◌≤◌}
use native.Mathlib.Nat.{add-sub_of_le}
use lib.Ieee.{binary64, round}
use mathlib.Core.Bool.{false}
use mathlib.Core.List.{List}
use Rattle.radix.proofs.Radix.{digits-row_major}
use Rattle.radix.specs.Radix.{row_major, In}
use Rattle.shape.specs.Shape.{sizes_of, count_of}
use Rattle.shape.specs.declared.Shape.{Shape}
use Rattle.tiling.specs.Tile.{offset}
use Rattle.tiling.specs.Cell.{holds}
use Rattle.tiling.proofs.OwnCells.{offset-below, offset-injective, cell-offset, cell_holds}
use Rattle.tiling.proofs.Shaped.{shaped-valid}
use Rattle.layout.specs.Layout.{padded_of, offset_of, point_offset_of, cell_of}
use Rattle.layout.specs.Share.{share_of, padding_of, card_of, fit_of}
use Rattle.layout.specs.declared.Layout.{Layout}
use Rattle.layout.specs.declared.Fit.TheVariants.{Fits, Over}
use Rattle.layout.proofs.Accepted.{Accepted}
use Rattle.layout.proofs.Rules.{count-cells}
use borrow.Author.Tests.{le-leb, lt-leb}

module _ (s : Shape) (l : Layout) (a : Accepted s l) where
  -- The offset of every element lies inside the padded size.
  pub offset-inside : (n : ℕ) → n < count_of s → offset_of s l n < padded_of s l
  offset-inside = offset-below _ _ _ (shaped-valid a.ready.shaped)

  -- Different elements have different offsets.
  pub offsets-differ : (m n : ℕ) → m < count_of s → n < count_of s → (m ≡ n → ⊥) → offset_of s l m ≡ offset_of s l n → ⊥
  offsets-differ m n hm hn d e = d (offset-injective _ _ _ (shaped-valid a.ready.shaped) m n hm hn e)

  -- The cell at an element's offset holds that element.
  pub cell-of-offset : (n : ℕ) → n < count_of s → cell_of s l (offset_of s l n) ≡ holds n
  cell-of-offset = cell-offset _ _ _ (shaped-valid a.ready.shaped)

  -- There are at least as many cells as elements; the rest is padding.
  pub elements-and-padding : (count_of s ≤ padded_of s l) × (count_of s + padding_of s l ≡ padded_of s l)
  elements-and-padding = (count-cells a, add-sub_of_le (count-cells a))

-- A cell that holds an element is that element's offset, and the element is one of the shape.
pub holds-offset : (s : Shape) (l : Layout) (k n : ℕ) → cell_of s l k ≡ holds n → (n < count_of s) × (offset_of s l n ≡ k)
holds-offset s l k n e = cell_holds _ _ _ k n e

-- The offset of a point is that of the element at the point.
pub point-and-element : (s : Shape) (l : Layout) (point : List ℕ) → In point (sizes_of s) → point_offset_of s l point ≡ offset_of s l (row_major (sizes_of s) point)
unfolding offset
point-and-element s l point i = rw (digits-row_major i)

-- Fill and waste are each one exact fraction of the same padded size, rounded once.
pub card-shares : (s : Shape) (l : Layout) → ((card_of s l).fill ≡ round binary64 false (count_of s) (padded_of s l)) × ((card_of s l).waste ≡ round binary64 false (padding_of s l) (padded_of s l))
unfolding share_of
card-shares s l = (refl, refl)

-- A size that is at most the limit fits, with the spare share; any other is over, with the factor; each one fraction rounded once.
pub fit-fits : (size limit : ℕ) → size ≤ limit → fit_of size limit ≡ Fits (round binary64 false (limit - size) limit)
unfolding share_of
fit-fits size limit h = rw (le-leb size limit h)

pub fit-over : (size limit : ℕ) → limit < size → fit_of size limit ≡ Over (round binary64 false size limit)
unfolding share_of
fit-over size limit h = rw (lt-leb size limit h)
