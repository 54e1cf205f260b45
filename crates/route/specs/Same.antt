-- Layouts as written: the order and the tiles, up to their counts. Assumes nothing.
use Rattle.std.specs.Prelude.{ℕ, Bool, true, false, ◌&&◌, cond, List, [], ◌∷◌, eqb}
use Rattle.layout.specs.Layout.{minor_to_major, tiles_of}
use Rattle.layout.specs.declared.Layout.{Layout}

-- two lists are the same, entry by entry
unfoldable pub same_by : {A : Type 0} → (A → A → Bool) → List A → List A → Bool
same_by f [] [] = true
same_by f [] (y ∷ ys) = false
same_by f (x ∷ xs) [] = false
same_by f (x ∷ xs) (y ∷ ys) = f x y && same_by f xs ys

abbrev pub same_list : List ℕ → List ℕ → Bool
same_list xs ys = same_by eqb xs ys

abbrev pub same_tiles : List (List ℕ) → List (List ℕ) → Bool
same_tiles xs ys = same_by same_list xs ys

-- the same order and the same tiles
unfoldable pub same_layout : Layout → Layout → Bool
same_layout a b = same_list (minor_to_major a) (minor_to_major b) && same_tiles (tiles_of a) (tiles_of b)

-- a station and its parent move when their layouts differ as written
abbrev pub move_of : Layout → Layout → ℕ
move_of a b = cond (same_layout a b) 0 1
