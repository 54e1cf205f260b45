-- Shapes: 0 to 6 sizes, each 1 to 2^20, product at most 2^40. Assumes nothing.
use Rattle.std.specs.Prelude.{ℕ, Bool, ◌&&◌, List, leb, take}
use Rattle.radix.specs.Radix.{max_size, max_count, prod, is_within}
use Rattle.shape.specs.declared.Shape.{Shape}

-- the most dimensions of a shape
abbrev pub max_rank : ℕ
max_rank = 6

-- the sizes, up to the rank
abbrev pub sizes_of : Shape → List ℕ
sizes_of s = take s.rank s.sizes

-- the element count; rank 0 has one element
abbrev pub count_of : Shape → ℕ
count_of s = prod (sizes_of s)

-- a shape that keeps its limits
unfoldable pub good_shape : Shape → Bool
good_shape s = leb s.rank max_rank && (is_within max_size (sizes_of s) && leb (count_of s) max_count)
