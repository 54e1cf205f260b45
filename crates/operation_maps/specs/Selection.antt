-- Operations whose smaller point has some of the larger point's coordinates: transpose, broadcast, reduce. Assumes nothing.
use Rattle.std.specs.Prelude.{◌≡◌, cond, List, [], map, ℕ, ◌<◌, length, get_or}
use Rattle.radix.specs.Radix.{In}
use Rattle.shape.specs.Dimensions.{place}
use Rattle.expression.specs.Expression.{d, s, Expr}
use Rattle.encoding.specs.Trees.{listed}
use Rattle.map_builder.specs.Raw.{Raw, whole_of}
use Rattle.operation_maps.specs.Lists.{select, is_listed, others}

-- ---- larger to smaller: the dimensions listed

unfoldable pub select_map : List ℕ → List ℕ → Raw
select_map l ns = record { dims = whole_of ns; ranges = []; results = map (λ (k : ℕ). Expr.var d k) l; constraints = [] }

-- ---- smaller to larger: a range variable for each dimension that is not listed, in their order

-- dimension j: the variable of its place in l, or the range variable after those of the others before it
abbrev pub variable_for : List ℕ → ℕ → Expr
variable_for l j = cond (is_listed l j) (Expr.var d (place j l)) (Expr.var s (length (others l j)))

unfoldable pub spread_map : List ℕ → List ℕ → Raw
spread_map l ns =
    record {
      dims = whole_of (select l ns);
      ranges = whole_of (select (others l (length ns)) ns);
      results = listed (variable_for l) (length ns);
      constraints = [];
    }

-- ---- the meaning: the larger point lies inside its shape, and the smaller one has its coordinates at the places listed

abbrev pub select_pairs : List ℕ → List ℕ → List ℕ → List ℕ → Type 0
select_pairs l ns large small = In large ns × (small ≡ select l large)

-- a list of dimensions in range and free of repeats
pub record Choice (l : List ℕ) (n : ℕ) : Type 0 where
  pub inside : (k : ℕ) → k < length l → get_or l k 0 < n
  pub apart : (i j : ℕ) → i < j → j < length l → get_or l i 0 ≡ get_or l j 0 → ⊥
