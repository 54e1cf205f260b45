-- Folding the results and the constraints of a map, and what a map's results and constraints are at a point. Assumes nothing.
use Rattle.std.specs.Prelude.{Bool, true, cond, ◌&&◌, List, [], ◌∷◌, map, ℕ, ℤ, pos}
use Rattle.std.specs.Int.Signed.{le_z}
use Rattle.expression.specs.Expression.{Kind, Expr, Range, In, eval, is_small, every_node}
use Rattle.expression.specs.Node.{is_divisor}
use Rattle.folding.specs.Sum.{sum_range}
use Rattle.folding.specs.Fold.{fold_sum, sum_tree}
use Rattle.folding.specs.Working.{small_working}

-- "expression in interval"
pub record Constraint : Type 0 where
  pub expr : Expr
  pub interval : Range

abbrev pub constraint_trees : List Constraint → List Expr
constraint_trees xs = map (λ (x : Constraint). x.expr) xs

-- ---- at a point

abbrev pub values_of : (Kind → ℕ → ℤ) → List Expr → List ℤ
values_of ρ es = map (λ (e : Expr). eval ρ e) es

-- the value of every constraint's expression lies in its interval
unfoldable pub Holds : (Kind → ℕ → ℤ) → List Constraint → Type 0
Holds ρ [] = Unit {0}
Holds ρ (x ∷ xs) = In (eval ρ x.expr) x.interval × Holds ρ xs

-- ---- folding

-- the folded sum of a tree, as a tree
unfoldable pub fold_tree : (Kind → ℕ → Range) → Expr → Expr
fold_tree β e = sum_tree (fold_sum β e)

abbrev pub fold_results : (Kind → ℕ → Range) → List Expr → List Expr
fold_results β es = map (λ (e : Expr). fold_tree β e) es

-- range r lies inside range q
unfoldable pub is_inside : Range → Range → Bool
is_inside r q = le_z q.lo r.lo && le_z r.hi q.hi

-- a constraint whose folded range lies inside its interval goes; another is folded and keeps its interval
unfoldable pub fold_constraints : (Kind → ℕ → Range) → List Constraint → List Constraint
fold_constraints β [] = []
fold_constraints β (x ∷ xs) =
    cond (is_inside (sum_range (fold_sum β x.expr) β) x.interval)
    (fold_constraints β xs)
    (record { expr = fold_tree β x.expr; interval = x.interval } ∷ fold_constraints β xs)

-- ---- the limits

-- folding passes no limit at any tree of a list
unfoldable pub small_trees : (Kind → ℕ → Range) → List Expr → Bool
small_trees β [] = true
small_trees β (e ∷ es) = small_working β e && small_trees β es

-- a constant or factor is within +-2^62, a divisor from 1 to 2^40
abbrev pub good_number : Expr → Bool
good_number (Expr.var k n) = true
good_number (Expr.const z) = is_small z
good_number (Expr.add a b) = true
good_number (Expr.mul z a) = is_small z
good_number (Expr.op o a c) = is_divisor (pos c)

-- at every node of a tree
unfoldable pub good_numbers : Expr → Bool
good_numbers e = every_node good_number e
