-- Reshape: linearise over one shape, row major, and split over the other. Assumes nothing.
use Rattle.std.specs.Prelude.{◌≡◌, List, [], ◌∷◌, ℕ, suc, ◌<◌, pos}
use Rattle.radix.specs.Radix.{prod, row_major, In}
use Rattle.expression.specs.Expression.{d, floordiv, modulo, Expr}
use Rattle.map_builder.specs.Raw.{Raw, whole_of}

-- added from the left: each dimension times the product of the sizes after it
unfoldable pub linear_from : Expr → ℕ → List ℕ → Expr
linear_from e k [] = e
linear_from e k (n ∷ ns) = linear_from (Expr.add e (Expr.mul (pos (prod ns)) (Expr.var d k))) (suc k) ns

unfoldable pub linear : List ℕ → Expr
linear [] = Expr.const (pos 0)
linear (n ∷ ns) = linear_from (Expr.mul (pos (prod ns)) (Expr.var d 0)) 1 ns

-- coordinate k is (linear floordiv the product of the sizes after k) mod size k, with no mod for the first
unfoldable pub digit_trees : List ℕ → Expr → List Expr
digit_trees [] e = []
digit_trees (n ∷ ns) e = Expr.op modulo (Expr.op floordiv e (prod ns)) n ∷ digit_trees ns e

unfoldable pub split_trees : List ℕ → Expr → List Expr
split_trees [] e = []
split_trees (n ∷ ns) e = Expr.op floordiv e (prod ns) ∷ digit_trees ns e

-- from one shape to the other
unfoldable pub reshape_map : List ℕ → List ℕ → Raw
reshape_map from to = record { dims = whole_of from; ranges = []; results = split_trees to (linear from); constraints = [] }

-- ---- the meaning: two points, each inside its shape, with one row-major number

abbrev pub reshape_pairs : List ℕ → List ℕ → List ℕ → List ℕ → Type 0
reshape_pairs out inn o i = In o out × (In i inn × (row_major out o ≡ row_major inn i))

-- no size is 0
abbrev pub Positive : List ℕ → Type 0
Positive [] = Unit {0}
Positive (n ∷ ns) = (0 < n) × Positive ns
