-- Tables and what is found in them, and which layout makes one. Assumes nothing.
use mathlib.Core.Path.{◌≡◌, refl}
use mathlib.Core.List.{List, [], ◌∷◌}
use Prim.Native.Nat.{ℕ, ◌+◌, ◌^◌}
use lib.ListN.{replicate}
use Rattle.radix.specs.Radix.{is_within}
use Rattle.refusal.specs.Number.{Answer, done, refusal}
use Rattle.refusal.specs.declared.Refusal.TheVariants.{Attribute, LayoutRule, PaddedSize, NoLayout}
use Rattle.shape.specs.Shape.{good_shape}
use Rattle.shape.specs.Repeats.{later_in, earlier_in}
use Rattle.shape.specs.Dimensions.{in_range, first_pair, is_permutation}
use Rattle.shape.specs.declared.Shape.{Shape}
use Rattle.tiling.specs.Tile.{tile_dims, tile_index, physical, padded, offset_at, offset}
use Rattle.layout.specs.Layout.{layout_from, good_layout}
use Rattle.layout.specs.declared.Layout.{Layout}
use Rattle.offset_table.specs.Table.{first_outside, sound, outside, shared, found_in}
use Rattle.offset_table.specs.Makes.{is_maker, first_maker}
use Rattle.offset_table.specs.Answers.{found_values, zero_found, is_table, table_judged, good_question, layouts_kept, sizes_kept, layout_named}

-- Sound; the first offset outside, though two share a cell before it; the first pair by its later element; a padded
-- size of 0.
pub findings :
    (found_in (3 ∷ 0 ∷ 2 ∷ []) 4 ≡ sound)
    × (found_in (5 ∷ 5 ∷ 9 ∷ 7 ∷ []) 6 ≡ outside 2)
    × (found_in (4 ∷ 7 ∷ 1 ∷ 7 ∷ 4 ∷ []) 8 ≡ shared 1 3)
    × (found_in (0 ∷ []) 0 ≡ outside 0)
unfolding found_in first_outside first_pair later_in earlier_in
findings = (refl, refl, refl, refl)

abbrev square : Shape
square = record { rank = 2; sizes = 2 ∷ 2 ∷ 0 ∷ 0 ∷ 0 ∷ 0 ∷ [] }

abbrev scalar : Shape
scalar = record { rank = 0; sizes = replicate 6 0 }

-- {a,b}, and {a,b:T(m)}
abbrev untiled : ℕ → ℕ → Layout
untiled a b = layout_from 2 (a ∷ b ∷ replicate 4 0) 0 (replicate 3 0) (replicate 18 0)

abbrev tiled : ℕ → ℕ → ℕ → Layout
tiled a b m = layout_from 2 (a ∷ b ∷ replicate 4 0) 1 (1 ∷ 0 ∷ 0 ∷ []) (m ∷ replicate 17 0)

-- The offsets 0, 1, 2, 2 share a cell; 0, 1, 9, 1 has one outside; rank 0 has one element; three offsets are not a
-- table of [2,2], and none is no table at all.
pub tables :
    (table_judged square (0 ∷ 1 ∷ 2 ∷ 2 ∷ []) 4 ≡ done (found_values (shared 2 3)))
    × (table_judged square (0 ∷ 1 ∷ 9 ∷ 1 ∷ []) 4 ≡ done (found_values (outside 2)))
    × (table_judged scalar (0 ∷ []) 0 ≡ done (found_values (outside 0)))
    × (table_judged square (0 ∷ 1 ∷ 2 ∷ []) 4 ≡ refusal zero_found Attribute)
    × (table_judged scalar [] 1 ≡ refusal zero_found Attribute)
    × (table_judged scalar (0 ∷ []) (2 ^ 40 + 1) ≡ refusal zero_found PaddedSize)
unfolding table_judged good_shape is_table is_within found_in first_outside first_pair later_in earlier_in
tables = (refl, refl, refl, refl, refl, refl)

abbrev asks : List ℕ → ℕ → List Layout → ℕ → Answer ℕ
asks xs size ys count = layout_named square xs size ys count

abbrev columns : List ℕ
columns = 0 ∷ 2 ∷ 1 ∷ 3 ∷ []

-- Of {1,0}, {0,1}, {0,1:T(1)} the second makes 0, 2, 1, 3; with another padded size none does; no list is 2. An unsound
-- table is 2 before 4, a sound one is 4. A broken layout behind the one that fits is 3.
pub questions :
    (asks columns 4 (untiled 1 0 ∷ untiled 0 1 ∷ tiled 0 1 1 ∷ []) 3 ≡ done (1 ∷ []))
    × (asks columns 5 (untiled 1 0 ∷ untiled 0 1 ∷ []) 2 ≡ refusal (0 ∷ []) NoLayout)
    × (asks columns 4 [] 0 ≡ refusal (0 ∷ []) Attribute)
    × (asks (0 ∷ 1 ∷ 2 ∷ 2 ∷ []) (2 ^ 40 + 1) (untiled 1 0 ∷ []) 1 ≡ refusal (0 ∷ []) Attribute)
    × (asks columns (2 ^ 40 + 1) (untiled 1 0 ∷ []) 1 ≡ refusal (0 ∷ []) PaddedSize)
    × (asks columns 4 (untiled 0 1 ∷ untiled 0 0 ∷ []) 2 ≡ refusal (0 ∷ []) LayoutRule)
unfolding layout_named good_question layouts_kept sizes_kept first_maker is_maker is_table good_shape good_layout is_within is_permutation in_range found_in first_outside first_pair later_in earlier_in padded physical offset offset_at tile_dims tile_index
questions = (refl, refl, refl, refl, refl, refl)
