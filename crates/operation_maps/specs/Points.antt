-- The pairs of points that a map names, before it is folded and as a record. Assumes nothing.
use Rattle.std.specs.Prelude.{◌≡◌, ◌↔◌, List, [], ◌∷◌, map, ℕ, ℤ, pos}
use Rattle.expression.specs.Expression.{Range, In}
use Rattle.expression.specs.Value.{point_of}
use Rattle.indexing.specs.Map.{Domain}
use Rattle.indexing.specs.declared.IndexingMap.{IndexingMap}
use Rattle.folding.specs.Map.{values_of, Holds}
use Rattle.encoding.specs.Trees.{values_at}
use Rattle.map_builder.specs.Raw.{Raw}

-- ---- the pairs of points that a map names

-- each value lies in its range
pub data Inside : List ℤ → List Range → Type 0 where
  none : Inside [] []
  more : {z : ℤ} {r : Range} {zs : List ℤ} {rs : List Range} → In z r → Inside zs rs → Inside (z ∷ zs) (r ∷ rs)

-- for some values of the range variables the point x is in the domain and the results are y
pub record Names (m : Raw) (x y : List ℤ) : Type 0 where
  pub values : List ℤ
  pub inside-dims : Inside x m.dims
  pub inside-ranges : Inside values m.ranges
  pub holds : Holds (point_of x values) m.constraints
  pub results : values_of (point_of x values) m.results ≡ y

-- the same of a record
pub record Sends (m : IndexingMap) (x y : List ℤ) : Type 0 where
  pub values : List ℤ
  pub domain : Domain m x values
  pub results : values_at m x values ≡ y

-- ---- a relation between points whose coordinates are from 0 on

pub record Points (R : List ℕ → List ℕ → Type 0) (x y : List ℤ) : Type 0 where
  pub from : List ℕ
  pub to : List ℕ
  pub from_is : x ≡ map pos from
  pub to_is : y ≡ map pos to
  pub related : R from to

-- the map names exactly the pairs of the relation
abbrev pub Means : Raw → (List ℕ → List ℕ → Type 0) → Type 0
Means m R = (x y : List ℤ) → Names m x y ↔ Points R x y
