-- What judging a shape and a layout leaves for the calls that go on: the order, the physical shape and the two counts. Assumes nothing.
use Rattle.std.specs.Prelude.{ℕ, ◌+◌, ◌*◌, ◌≤◌, min, ◌≡◌, Result, Ok, Err, List, length, take}
use Rattle.radix.specs.Radix.{max_count, prod}
use Rattle.refusal.specs.Judge.{judge}
use Rattle.refusal.specs.declared.Refusal.{Refusal}
use Rattle.shape.specs.Shape.{max_rank, sizes_of, count_of}
use Rattle.shape.specs.declared.Shape.{Shape}
use Rattle.tiling.specs.Tile.{max_tiles, max_entries, max_physical, tiles_from, reversed, physical, padded}
use Rattle.layout.specs.Layout.{order_of, tiles_of, padded_of, layout_rules}
use Rattle.layout.specs.declared.Layout.{Layout}
use Rattle.layout.specs.declared.parts.Extent.{Extent}

-- the arrays of a layout's parts, and two to write, have their lengths
pub record Lengths (m lens flat out dims : List ℕ) : Type 0 where
  pub minor : length m ≡ max_rank
  pub tiles : length lens ≡ max_tiles
  pub entries : length flat ≡ max_entries * max_tiles
  pub order : length out ≡ max_rank
  pub shape : length dims ≡ max_physical

-- minor_to_major read from its end stands in out, the physical shape in dims; the padded size is exact up to 2^40 and 2^40 + 1 above
pub record LaidOut (x : Extent) (sizes m lens flat out dims : List ℕ) : Type 0 where
  pub order : take (length m) out ≡ reversed m
  pub fits : x.len ≤ max_physical
  pub same : take x.len dims ≡ physical sizes (reversed m) (tiles_from lens flat)
  pub count : x.count ≡ prod sizes
  pub padded : x.padded ≡ min (padded sizes (reversed m) (tiles_from lens flat)) (max_count + 1)

-- the same of a shape and a layout that are judged done
pub record IsExtent (x : Extent) (s : Shape) (l : Layout) (out dims : List ℕ) : Type 0 where
  pub order : take s.rank out ≡ order_of l
  pub fits : x.len ≤ max_physical
  pub same : take x.len dims ≡ physical (sizes_of s) (order_of l) (tiles_of l)
  pub count : x.count ≡ count_of s
  pub padded : x.padded ≡ padded_of s l

-- what judging and measuring answers: the measures of a shape and a layout that break no rule, or the refusal of the first broken one
abbrev pub Measured : Result Extent Refusal → Shape → Layout → List ℕ → List ℕ → Type 0
Measured (Ok x) s l out dims = (judge (layout_rules s l) ≡ Ok tt) × IsExtent x s l out dims
Measured (Err r) s l out dims = judge (layout_rules s l) ≡ Err r
