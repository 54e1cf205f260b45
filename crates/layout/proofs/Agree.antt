-- Layouts that agree up to their counts keep the same rule, and have the same padded size and offsets. Assumes nothing.
use mathlib.Core.Path.{◌≡◌, refl, sym, ap, ap₂, ◌∙◌}
use mathlib.Core.Bool.{Bool, ◌&&◌}
use mathlib.Core.List.{List, [], ◌∷◌, head-eq_of_cons-eq, tail-eq_of_cons-eq}
use Prim.Native.Nat.{ℕ, ◌+◌}
use lib.Dec.{leb, eqb}
use lib.ListN.{drop}
use Rattle.radix.specs.Radix.{is_within}
use Rattle.shape.specs.Shape.{max_rank, sizes_of}
use Rattle.shape.specs.Dimensions.{is_permutation}
use Rattle.shape.specs.declared.Shape.{Shape}
use Rattle.tiling.specs.Tile.{max_entries, max_entry, max_tiles, tiles_from, reversed, padded, offset}
use Rattle.layout.specs.Layout.{lens_of, are_tiles, good_layout, padded_of, offset_of}
use Rattle.layout.specs.Agree.{LayoutsAgree}
use Rattle.layout.specs.declared.Layout.{Layout}

-- the rule of tiles reads no more than the tiles
tiles-agree : (n : ℕ) (lens flat flat2 : List ℕ) → tiles_from lens flat ≡ tiles_from lens flat2 → are_tiles n lens flat ≡ are_tiles n lens flat2
tiles-agree n [] flat flat2 e = refl
tiles-agree n (m ∷ lens) flat flat2 e =
    ap₂ (λ (w : List ℕ) (t : Bool). (leb 1 m && (leb m max_entries && leb m n)) && (is_within max_entry w && t))
    (head-eq_of_cons-eq e)
    (tiles-agree (n + m) lens (drop max_entries flat) (drop max_entries flat2) (tail-eq_of_cons-eq e))

pub good-agree : (rank : ℕ) (a b : Layout) → LayoutsAgree a b → good_layout rank a ≡ good_layout rank b
unfolding good_layout
good-agree rank a b A =
    ap₂ ◌&&◌
    (ap₂ (λ (r t : ℕ). eqb r rank && leb r max_rank && leb t max_tiles) A.rank A.tiles)
    (ap₂ ◌&&◌ (ap is_permutation A.order)
    (ap₂ (λ (r : ℕ) (l : List ℕ). are_tiles r l a.tile) A.rank A.lens
    ∙ tiles-agree b.rank (lens_of b) a.tile b.tile (ap (λ (l : List ℕ). tiles_from l a.tile) (sym A.lens) ∙ A.entries)))

-- the same padded size, and the same offsets
pub padded-agree : (s : Shape) (a b : Layout) → LayoutsAgree a b → padded_of s a ≡ padded_of s b
padded-agree s a b A = ap₂ (λ (m : List ℕ) (t : List (List ℕ)). padded (sizes_of s) (reversed m) t) A.order A.entries

pub offset-agree : (s : Shape) (a b : Layout) → LayoutsAgree a b → (n : ℕ) → offset_of s a n ≡ offset_of s b n
offset-agree s a b A n = ap₂ (λ (m : List ℕ) (t : List (List ℕ)). offset (sizes_of s) (reversed m) t n) A.order A.entries
