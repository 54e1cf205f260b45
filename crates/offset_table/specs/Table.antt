-- Tables of offsets, one for each element in row-major order, with a padded size: what is found in one. Assumes
-- nothing.
use Rattle.std.specs.Prelude.{ℕ, ◌<◌, ◌≤◌, ◌≡◌, Bool, true, false, cond, List, ltb, leb, eqb, length, get_or, Option, Some, None}
use Rattle.radix.specs.Radix.{first}
use Rattle.shape.specs.Repeats.{FirstRepeat}
use Rattle.shape.specs.Dimensions.{first_pair}
use Rattle.offset_table.specs.declared.Finding.{Finding}
use Rattle.offset_table.specs.declared.Finding.TheVariants.{Sound, Outside, Shared}

-- the offset of element k is outside: not below the padded size
abbrev pub is_outside : List ℕ → ℕ → ℕ → Bool
is_outside xs padded k = leb padded (get_or xs k 0)

-- the first element whose offset is outside, or the table's length
unfoldable pub first_outside : List ℕ → ℕ → ℕ
first_outside xs padded = first (is_outside xs padded) (length xs)

-- what is found in a table: nothing wrong, an element whose offset is outside, or the earlier and the later element
-- that share a cell
pub data Found : Type 0 where
  sound : Found
  outside : ℕ → Found
  shared : ℕ → ℕ → Found

-- the first pair of elements with the same offset, the later one searched from the front, shares a cell
abbrev pub pair_found : Option (ℕ × ℕ) → Found
pair_found None = sound
pair_found (Some (e, l)) = shared e l

-- the first offset outside, sought over the whole table; else the first shared cell
unfoldable pub found_in : List ℕ → ℕ → Found
found_in xs padded =
    cond (ltb (first_outside xs padded) (length xs)) (outside (first_outside xs padded)) (pair_found (first_pair xs))

abbrev pub is_sound : Found → Bool
is_sound sound = true
is_sound (outside k) = false
is_sound (shared e l) = false

-- what the code found
abbrev pub found_of : Finding → Found
found_of Sound = sound
found_of (Outside k) = outside k.0
found_of (Shared e l) = shared e.0 l.0

-- the same as facts: every offset is inside
abbrev pub AllInside : List ℕ → ℕ → Type 0
AllInside xs padded = (k : ℕ) → k < length xs → get_or xs k 0 < padded

-- element k is the first whose offset is outside
pub record FirstOutside (xs : List ℕ) (padded k : ℕ) : Type 0 where
  pub inside : k < length xs
  pub past : padded ≤ get_or xs k 0
  pub none_before : (i : ℕ) → i < k → get_or xs i 0 < padded

-- no two elements share a cell
abbrev pub AllDifferent : List ℕ → Type 0
AllDifferent xs = (i k : ℕ) → i < k → k < length xs → get_or xs i 0 ≡ get_or xs k 0 → ⊥

-- two elements share a cell
abbrev pub same_cell : List ℕ → ℕ → ℕ → Bool
same_cell xs i k = eqb (get_or xs i 0) (get_or xs k 0)

-- the elements e and l are the first pair that does, the later one searched from the front
abbrev pub FirstShared : List ℕ → ℕ → ℕ → Type 0
FirstShared xs e l = FirstRepeat (same_cell xs) (length xs) e l
