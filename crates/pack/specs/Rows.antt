-- Packing and unpacking in rows: what the buffers hold with the first elements done, the walk along a table of offsets, and the cut. Assumes nothing.
use Rattle.std.specs.Prelude.{ℕ, suc, ◌+◌, ◌*◌, ◌<◌, ◌≤◌, ◌≡◌, Bool, true, false, cond, List, [], ◌∷◌, ◌++◌, ltb, length, get_or, set, drop, replicate}
use Rattle.radix.specs.Radix.{prod, tab}
use Rattle.tiling.specs.Tile.{padded, offset}
use Rattle.tiling.specs.Cell.{Cell, holds, padding, cell}
use Rattle.tiling.specs.Tiled.{tiles_in}
use Rattle.tiling.specs.declared.tiled.Tiled.{Tiled}
use Rattle.pack.specs.declared.cut.Cut.{Cut}

-- what a cell that had v has with the first n elements stored
abbrev pub put : List ℕ → ℕ → Cell → ℕ → ℕ
put source n (holds e) v = cond (ltb e n) (get_or source e 0) v
put source n padding v = v

unfoldable pub put_at : List ℕ → List ℕ → List (List ℕ) → List ℕ → ℕ → ℕ → ℕ → ℕ
put_at sizes p tss source n k v = cond (ltb k (padded sizes p tss)) (put source n (cell sizes p tss k) v) v

-- the first n elements are stored, and nothing else changes
abbrev pub Stored : List ℕ → List ℕ → List (List ℕ) → List ℕ → ℕ → List ℕ → List ℕ → Type 0
Stored sizes p tss source n before after = (k : ℕ) → get_or after k 0 ≡ put_at sizes p tss source n k (get_or before k 0)

-- the first n elements are loaded, and nothing else changes
abbrev pub Loaded : List ℕ → List ℕ → List (List ℕ) → List ℕ → ℕ → List ℕ → List ℕ → Type 0
Loaded sizes p tss cells n before after = (k : ℕ) → get_or after k 0 ≡ cond (ltb k n) (get_or cells (offset sizes p tss k) 0) (get_or before k 0)

-- one list has room for the elements and the other for the cells: packing goes from elements to cells, unpacking back
abbrev pub HasRoom : Bool → List ℕ → List ℕ → List (List ℕ) → List ℕ → List ℕ → Type 0
HasRoom true sizes p tss from to = (prod sizes ≤ length from) × (padded sizes p tss ≤ length to)
HasRoom false sizes p tss from to = (prod sizes ≤ length to) × (padded sizes p tss ≤ length from)

-- the first n elements are stored, in packing, or loaded, and nothing else changes
abbrev pub CarriedTo : Bool → List ℕ → List ℕ → List (List ℕ) → List ℕ → ℕ → List ℕ → List ℕ → Type 0
CarriedTo true sizes p tss from n before after = Stored sizes p tss from n before after
CarriedTo false sizes p tss from n before after = Loaded sizes p tss from n before after

-- all elements are
abbrev pub Carried : Bool → List ℕ → List ℕ → List (List ℕ) → List ℕ → List ℕ → List ℕ → Type 0
Carried packs sizes p tss from before after = CarriedTo packs sizes p tss from (prod sizes) before after

-- what packing starts from: 0 in the first size cells, where there are fewer elements than cells
abbrev pub start_of : ℕ → ℕ → List ℕ → List ℕ
start_of count size cells = cond (ltb count size) (replicate size 0 ++ drop size cells) cells

-- a step for each cell that the table names, counted from base, with the places from a on
abbrev pub walked : (ℕ → ℕ → List ℕ → List ℕ) → ℕ → List ℕ → ℕ → List ℕ → List ℕ
walked step base [] a xs = xs
walked step base (t ∷ table) a xs = walked step base table (suc a) (step (base + t) a xs)

-- places to cells, and cells to places
abbrev pub scattered : List ℕ → ℕ → List ℕ → ℕ → List ℕ → List ℕ
scattered source = walked (λ (o a : ℕ) (xs : List ℕ). set xs o (get_or source a 0))

abbrev pub gathered : List ℕ → ℕ → List ℕ → ℕ → List ℕ → List ℕ
gathered cells = walked (λ (o a : ℕ) (xs : List ℕ). set xs a (get_or cells o 0))

-- every cell that the table names, counted from base, is below n
abbrev pub Reaches : ℕ → List ℕ → ℕ → Type 0
Reaches base table n = (j : ℕ) → j < length table → base + get_or table j 0 < n

-- a row carried: places to cells, in packing, or cells to places
abbrev pub carried : Bool → List ℕ → ℕ → List ℕ → ℕ → List ℕ → List ℕ
carried true = scattered
carried false = gathered

-- the places from a on are among those of one list, and the cells that the table names, counted from base, among those of the other
abbrev pub RowRoom : Bool → List ℕ → ℕ → List ℕ → ℕ → List ℕ → Type 0
RowRoom true from base table a to = (a + length table ≤ length from) × Reaches base table (length to)
RowRoom false from base table a to = (a + length table ≤ length to) × Reaches base table (length from)

-- the offsets of the first n elements
abbrev pub offsets_from : List ℕ → List ℕ → List (List ℕ) → ℕ → List ℕ
offsets_from sizes p tss n = tab (offset sizes p tss) n

-- after has what before has in its first a places, and in the next len places the first len entries again, each with base added
abbrev pub Repeated : ℕ → ℕ → ℕ → List ℕ → List ℕ → Type 0
Repeated base a len before after = ((k : ℕ) → k < a → get_or after k 0 ≡ get_or before k 0) × ((k : ℕ) → k < len → get_or after (a + k) 0 ≡ base + get_or before k 0)

-- the table has the offsets of the elements below m and below n
abbrev pub HasOffsets : List ℕ → List ℕ → List (List ℕ) → ℕ → ℕ → List ℕ → Type 0
HasOffsets sizes p tss m n table = (k : ℕ) → k < m → k < n → get_or table k 0 ≡ offset sizes p tss k

-- a coordinate of the dimension at place i of the order spans so many elements
pub record IsSpan (sizes p : List ℕ) (i span : ℕ) : Type 0 where
  pub inside : i < length p
  pub same : span ≡ prod (drop (suc (get_or p i 0)) sizes)

-- g cuts the elements of the sizes at the coordinates of a dimension, if there is one
pub record IsCut (g : Cut) (sizes p : List ℕ) : Type 0 where
  pub wide : 0 < g.wide
  pub narrow : g.wide ≤ g.size
  pub span : 0 < g.span
  pub count : g.steps * g.span ≡ prod sizes
  pub room : g.size * g.span ≤ prod sizes
  pub inside : 0 < length sizes → (g.dimension < length sizes) × (g.place < length p) × (get_or p g.place 0 ≡ g.dimension)
  pub same : 0 < length sizes → (g.size ≡ get_or sizes g.dimension 0) × (g.span ≡ prod (drop (suc g.dimension) sizes))

-- from step q on a row has r steps: the offset of each of its elements is that of the first one plus that of its place in the row
pub record IsRow (sizes p : List ℕ) (tss : List (List ℕ)) (g : Cut) (q r : ℕ) : Type 0 where
  pub some : 0 < r
  pub narrow : r ≤ g.wide
  pub inside : q + r ≤ g.steps
  pub same : (j : ℕ) → j < r * g.span → offset sizes p tss (q * g.span + j) ≡ offset sizes p tss (q * g.span) + offset sizes p tss j

-- the same of the lists of a tiled shape: the room, all elements carried, the offsets of the elements below m and n, and those of the first n
abbrev pub HasRoomFor : Tiled → Bool → List ℕ → List ℕ → Type 0
HasRoomFor t packs from to = HasRoom packs t.sizes.now t.order.now (tiles_in t) from to

abbrev pub CarriedBy : Tiled → Bool → List ℕ → List ℕ → List ℕ → Type 0
CarriedBy t packs from before after = Carried packs t.sizes.now t.order.now (tiles_in t) from before after

abbrev pub HasOffsetsOf : Tiled → ℕ → ℕ → List ℕ → Type 0
HasOffsetsOf t m n table = HasOffsets t.sizes.now t.order.now (tiles_in t) m n table

abbrev pub offsets_of : Tiled → ℕ → List ℕ
offsets_of t n = offsets_from t.sizes.now t.order.now (tiles_in t) n
