-- The layout record and its rule: minor_to_major is a permutation, and 0 to 3 tiles each name last dimensions. Assumes nothing.
use Rattle.std.specs.Prelude.{ℕ, ◌+◌, Bool, true, ◌&&◌, List, [], ◌∷◌, leb, eqb, take, drop}
use Rattle.radix.specs.Radix.{max_count, is_within}
use Rattle.refusal.specs.Judge.{Rule, rule}
use Rattle.refusal.specs.declared.Refusal.TheVariants.{ShapeLimits, LayoutRule, PaddedSize}
use Rattle.shape.specs.Shape.{max_rank, sizes_of, good_shape}
use Rattle.shape.specs.Dimensions.{is_permutation}
use Rattle.shape.specs.declared.Shape.{Shape}
use Rattle.tiling.specs.Tile.{max_tiles, max_entries, max_entry, tiles_from, reversed, padded, offset, offset_at}
use Rattle.tiling.specs.Cell.{Cell, cell}
use Rattle.layout.specs.declared.Layout.{Layout}

-- the layout of these parts
abbrev pub layout_from : ℕ → List ℕ → ℕ → List ℕ → List ℕ → Layout
layout_from rank order tiles lens tile = record { rank = rank; minor_to_major = order; tiles = tiles; tile_len = lens; tile = tile }

-- what a list of layouts gives past its end
abbrev pub blank_layout : Layout
blank_layout = layout_from 0 [] 0 [] []

-- the lists of a record, up to its counts
abbrev pub minor_to_major : Layout → List ℕ
minor_to_major l = take l.rank l.minor_to_major

abbrev pub order_of : Layout → List ℕ
order_of l = reversed (minor_to_major l)

abbrev pub lens_of : Layout → List ℕ
lens_of l = take l.tiles l.tile_len

abbrev pub tiles_of : Layout → List (List ℕ)
tiles_of l = tiles_from (lens_of l) l.tile

-- each tile has 1 to 6 entries of 1 to 1,024, and no more entries than there are physical dimensions, n before it
abbrev pub are_tiles : ℕ → List ℕ → List ℕ → Bool
are_tiles n [] flat = true
are_tiles n (m ∷ lens) flat =
    (leb 1 m && (leb m max_entries && leb m n)) && (is_within max_entry (take m flat) && are_tiles (n + m) lens (drop max_entries flat))

-- a layout that keeps its rule, for shapes of this rank
unfoldable pub good_layout : ℕ → Layout → Bool
good_layout rank l =
    (eqb l.rank rank && leb l.rank max_rank && leb l.tiles max_tiles) && (is_permutation (minor_to_major l) && are_tiles l.rank (lens_of l) l.tile)

-- padded size, offsets and cells of a shape and a layout
abbrev pub padded_of : Shape → Layout → ℕ
padded_of s l = padded (sizes_of s) (order_of l) (tiles_of l)

abbrev pub offset_of : Shape → Layout → ℕ → ℕ
offset_of s l n = offset (sizes_of s) (order_of l) (tiles_of l) n

abbrev pub point_offset_of : Shape → Layout → List ℕ → ℕ
point_offset_of s l point = offset_at (sizes_of s) (order_of l) (tiles_of l) point

abbrev pub cell_of : Shape → Layout → ℕ → Cell
cell_of s l k = cell (sizes_of s) (order_of l) (tiles_of l) k

-- the rules that every call on a shape and a layout judges: 1, 3 and 4
abbrev pub layout_rules : Shape → Layout → List Rule
layout_rules s l =
    rule (good_shape s) ShapeLimits
    ∷ rule (good_layout s.rank l) LayoutRule
    ∷ rule (leb (padded_of s l) max_count) PaddedSize
    ∷ []
