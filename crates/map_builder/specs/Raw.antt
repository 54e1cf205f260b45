-- A map as lists: the bounds of its variables, and the trees of its results and constraints. Assumes nothing.
use Rattle.std.specs.Prelude.{List, ◌++◌, map, ℕ, ◌-◌, ℤ, pos, length}
use Rattle.expression.specs.Expression.{Expr, Range, span}
use Rattle.expression.specs.Node.{max_variables}
use Rattle.indexing.specs.declared.IndexingMap.{IndexingMap}
use Rattle.folding.specs.Map.{Constraint}
use Rattle.encoding.specs.Encode.{filled, encode_map, Fitting}

pub record Raw : Type 0 where
  pub dims : List Range
  pub ranges : List Range
  pub results : List Expr
  pub constraints : List Constraint

-- ---- bounds

-- 0 .. n - 1
abbrev pub up_to : ℕ → Range
up_to n = span (pos 0) (pos (n - 1))

-- the coordinates of a shape
abbrev pub whole_of : List ℕ → List Range
whole_of ns = map up_to ns

-- ---- the record of a map

abbrev pub lows : List Range → List ℤ
lows rs = map (λ (r : Range). r.lo) rs

abbrev pub highs : List Range → List ℤ
highs rs = map (λ (r : Range). r.hi) rs

-- by places: the dimensions, and the range variables from 8 on
abbrev pub places_of : List ℤ → List ℤ → List ℤ
places_of ds ss = filled max_variables (pos 0) ds ++ ss

unfoldable pub encoded : Raw → IndexingMap
encoded m =
    encode_map (length m.dims) (length m.ranges)
    (places_of (lows m.dims) (lows m.ranges)) (places_of (highs m.dims) (highs m.ranges))
    m.results m.constraints

-- counts within their limits, and trees that their nodes give back
abbrev pub Fits : Raw → Type 0
Fits m = Fitting (length m.dims) (length m.ranges) m.results m.constraints
