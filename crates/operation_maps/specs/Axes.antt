-- Operations that treat each dimension by itself: elementwise, reverse, slice, concatenate. Assumes nothing.
use Rattle.std.specs.Prelude.{◌≡◌, List, [], ◌∷◌, ◌++◌, map, ℕ, suc, ◌+◌, ◌-◌, ◌*◌, ◌/◌, ◌<◌, pos, negsuc, neg_ℤ}
use Rattle.expression.specs.Expression.{d, floordiv, modulo, Expr, Range, span}
use Rattle.folding.specs.Map.{Constraint}
use Rattle.map_builder.specs.Raw.{Raw, up_to}
use Rattle.operation_maps.specs.declared.Axis.{Axis}
use Rattle.operation_maps.specs.declared.Axis.TheVariants.{Keep, Flip, Cut, Shift}

-- ---- one dimension of a map: the bounds of its variable, the result and the constraints, as trees of that variable

pub record Side : Type 0 where
  pub bound : Range
  pub tree : Expr → Expr
  pub tests : Expr → List Constraint

abbrev pub side_trees : List Side → ℕ → List Expr
side_trees [] k = []
side_trees (x ∷ xs) k = x.tree (Expr.var d k) ∷ side_trees xs (suc k)

abbrev pub side_tests : List Side → ℕ → List Constraint
side_tests [] k = []
side_tests (x ∷ xs) k = x.tests (Expr.var d k) ++ side_tests xs (suc k)

abbrev pub side_map : List Side → Raw
side_map xs =
    record {
      dims = map (λ (x : Side). x.bound) xs;
      ranges = [];
      results = side_trees xs 0;
      constraints = side_tests xs 0;
    }

-- ---- what an operation does to one dimension: it keeps it (size), turns it round (size), cuts it (start, limit, stride), or
-- shifts it (by how much, size)

-- how many are taken from start on, stride apart, below limit
abbrev pub taken : ℕ → ℕ → ℕ → ℕ
taken start limit stride = (limit - 1 - start) / stride + 1

-- x - n
abbrev pub less : Expr → ℕ → Expr
less x n = Expr.add x (Expr.const (neg_ℤ (pos n)))

abbrev pub plain : Range → (Expr → Expr) → Side
plain r f = record { bound = r; tree = f; tests = λ (x : Expr). [] }

-- output to input: identity; size - 1 - d; d * stride + start; an operand's bound, shifted back
abbrev pub out_side : Axis → Side
out_side (Keep n) = plain (up_to n) (λ (x : Expr). x)
out_side (Flip n) = plain (up_to n) (λ (x : Expr). Expr.add (Expr.mul (negsuc 0) x) (Expr.const (pos (n - 1))))
out_side (Cut start limit stride) =
    plain (up_to (taken start limit stride)) (λ (x : Expr). Expr.add (Expr.mul (pos stride) x) (Expr.const (pos start)))
out_side (Shift by n) = plain (span (pos by) (pos (by + (n - 1)))) (λ (x : Expr). less x by)

-- input to output: identity; size - 1 - d; (d - start) floordiv stride, d from start to the last one taken, with
-- (d - start) mod stride in [0, 0]; shifted
abbrev pub in_side : Axis → Side
in_side (Keep n) = plain (up_to n) (λ (x : Expr). x)
in_side (Flip n) = plain (up_to n) (λ (x : Expr). Expr.add (Expr.mul (negsuc 0) x) (Expr.const (pos (n - 1))))
in_side (Cut start limit stride) =
    record {
      bound = span (pos start) (pos (start + (taken start limit stride - 1) * stride));
      tree = λ (x : Expr). Expr.op floordiv (less x start) stride;
      tests = λ (x : Expr). record { expr = Expr.op modulo (less x start) stride; interval = span (pos 0) (pos 0) } ∷ [];
    }
in_side (Shift by n) = plain (up_to n) (λ (x : Expr). Expr.add x (Expr.const (pos by)))

-- ---- the meaning: coordinate o of the output and coordinate i of the input belong together

abbrev pub Meets : Axis → ℕ → ℕ → Type 0
Meets (Keep n) o i = (i < n) × (o ≡ i)
Meets (Flip n) o i = o + i + 1 ≡ n
Meets (Cut start limit stride) o i = (i ≡ o * stride + start) × (i < limit)
Meets (Shift by n) o i = (i < n) × (o ≡ i + by)

-- in every dimension
pub data Each (R : Axis → ℕ → ℕ → Type 0) : List Axis → List ℕ → List ℕ → Type 0 where
  none : Each R [] [] []
  more : {a : Axis} {axs : List Axis} {x y : ℕ} {xs ys : List ℕ}
      → R a x y → Each R axs xs ys → Each R (a ∷ axs) (x ∷ xs) (y ∷ ys)

abbrev pub axes_pairs : List Axis → List ℕ → List ℕ → Type 0
axes_pairs axs o i = Each Meets axs o i

-- ---- sizes and strides are not 0

abbrev pub Sound : Axis → Type 0
Sound (Keep n) = 0 < n
Sound (Flip n) = 0 < n
Sound (Cut start limit stride) = (0 < stride) × (start < limit)
Sound (Shift by n) = 0 < n

abbrev pub AllSound : List Axis → Type 0
AllSound [] = Unit {0}
AllSound (a ∷ axs) = Sound a × AllSound axs

-- ---- the two maps

unfoldable pub axes_out : List Axis → Raw
axes_out axs = side_map (map out_side axs)

unfoldable pub axes_in : List Axis → Raw
axes_in axs = side_map (map in_side axs)
