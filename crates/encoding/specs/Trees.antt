-- A record read as trees: its results and constraints, its bounds, and the values of its results at a point. Assumes nothing.
use Rattle.std.specs.Prelude.{List, [], ◌∷◌, ◌++◌, ℕ, zero, suc, ◌+◌, ℤ, pos, get_or}
use Rattle.expression.specs.Expression.{Kind, Expr, Range, span}
use Rattle.expression.specs.Decode.{Tree, none, tree}
use Rattle.expression.specs.Value.{bounds}
use Rattle.indexing.specs.Map.{tree_at, value_at}
use Rattle.indexing.specs.declared.IndexingMap.{IndexingMap}
use Rattle.folding.specs.Map.{Constraint}

-- f 0, f 1, .. for the numbers below n
unfoldable pub listed : {A : Type 0} → (ℕ → A) → ℕ → List A
listed f zero = []
listed f (suc n) = listed f n ++ (f n ∷ [])

-- the tree of run i; an accepted map has one
abbrev pub expr_of : Tree → Expr
expr_of none = Expr.const (pos 0)
expr_of (tree e) = e

abbrev pub expr_at : IndexingMap → ℕ → Expr
expr_at m i = expr_of (tree_at m i)

abbrev pub constraint_at : IndexingMap → ℕ → Constraint
constraint_at m k =
    record {
      expr = expr_at m (m.results + k);
      interval = span (get_or m.constraint_lower k (pos 0)) (get_or m.constraint_upper k (pos 0));
    }

abbrev pub result_trees : IndexingMap → List Expr
result_trees m = listed (expr_at m) m.results

abbrev pub map_constraints : IndexingMap → List Constraint
map_constraints m = listed (constraint_at m) m.constraints

-- the bounds of the variables
abbrev pub map_bounds : IndexingMap → Kind → ℕ → Range
map_bounds m = bounds m.lower m.upper

-- the values of the results at a point
abbrev pub values_at : IndexingMap → List ℤ → List ℤ → List ℤ
values_at m ds ss = listed (value_at m ds ss) m.results
