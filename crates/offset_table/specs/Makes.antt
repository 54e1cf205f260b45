-- Which layout of a list makes a table: its offsets and its padded size. Assumes nothing.
use Rattle.std.specs.Prelude.{ℕ, ◌<◌, ◌≡◌, Bool, ◌&&◌, List, eqb, get_or}
use Rattle.radix.specs.Radix.{every, first, tab}
use Rattle.shape.specs.Shape.{count_of}
use Rattle.shape.specs.declared.Shape.{Shape}
use Rattle.layout.specs.Layout.{blank_layout, padded_of, offset_of}
use Rattle.layout.specs.Agree.{LayoutsAgree}
use Rattle.layout.specs.declared.Layout.{Layout}

-- the table of a layout
abbrev pub table_of : Shape → Layout → List ℕ
table_of s l = tab (offset_of s l) (count_of s)

-- the layout makes the padded size and every offset
unfoldable pub is_maker : Shape → List ℕ → ℕ → Layout → Bool
is_maker s xs padded l =
    eqb (padded_of s l) padded && every (λ (k : ℕ). eqb (get_or xs k 0) (offset_of s l k)) (count_of s)

-- the same as a fact
pub record Makes (s : Shape) (xs : List ℕ) (padded : ℕ) (l : Layout) : Type 0 where
  pub size : padded_of s l ≡ padded
  pub offsets : (k : ℕ) → k < count_of s → get_or xs k 0 ≡ offset_of s l k

-- layout i of a list
abbrev pub layout_at : List Layout → ℕ → Layout
layout_at ys i = get_or ys i blank_layout

-- the first of count layouts that makes the table, or count
unfoldable pub first_maker : Shape → List ℕ → ℕ → List Layout → ℕ → ℕ
first_maker s xs padded ys count = first (λ (i : ℕ). is_maker s xs padded (layout_at ys i)) count

-- the same as facts: layout i makes the table, and none before it does
pub record FirstMaker (s : Shape) (xs : List ℕ) (padded : ℕ) (ys : List Layout) (count i : ℕ) : Type 0 where
  pub below : i < count
  pub makes : Makes s xs padded (layout_at ys i)
  pub none_before : (k : ℕ) → k < i → Makes s xs padded (layout_at ys k) → ⊥

-- no layout of the list does
abbrev pub NoMaker : Shape → List ℕ → ℕ → List Layout → ℕ → Type 0
NoMaker s xs padded ys count = (i : ℕ) → i < count → Makes s xs padded (layout_at ys i) → ⊥

-- two lists whose first count layouts agree up to their counts
abbrev pub ListsAgree : List Layout → List Layout → ℕ → Type 0
ListsAgree ys zs count = (i : ℕ) → i < count → LayoutsAgree (layout_at ys i) (layout_at zs i)
