-- Number 8: every folded sum formed, terms in their order: its coefficients, its constant and the range of each term and prefix. Assumes nothing.
use Rattle.std.specs.Prelude.{Bool, true, false, cond, ◌&&◌, List, [], ◌∷◌, ◌++◌, ℕ, zero, suc, eqb, pos}
use Rattle.expression.specs.Expression.{Kind, Op, Expr, Range, span, add_range, mul_range, is_small, small_range}
use Rattle.folding.specs.Sum.{Sum, atom_range}
use Rattle.folding.specs.Fold.{is, again, add_sums, scale_sum, part_r, divisors_tried, one_quotient, apply_rule, apply_rules, fuel_for, fold_sum}

-- the rest of a sum, behind a prefix of range r
unfoldable pub small_from : (Kind → ℕ → Range) → Range → Sum → Bool
small_from β r (Sum.const k) = is_small k && small_range (add_range r (span k k))
small_from β r (Sum.term c a t) =
    let p = mul_range c (atom_range a β) in
    let q = add_range r p in
    is_small c && small_range p && small_range q && small_from β q t

unfoldable pub small_sum : (Kind → ℕ → Range) → Sum → Bool
small_sum β t = small_from β (span (pos 0) (pos 0)) t

unfoldable pub small_sums : (Kind → ℕ → Range) → List Sum → Bool
small_sums β [] = true
small_sums β (t ∷ ts) = small_sum β t && small_sums β ts

-- R for each g tried, up to the one that fits
unfoldable pub rests_tried : (Kind → ℕ → Range) → Sum → List ℕ → List Sum
rests_tried β t [] = []
rests_tried β t (g ∷ gs) = let r = part_r g t in r ∷ elim (one_quotient β g r) [ true ↦ [] | false ↦ rests_tried β t gs ]

-- S, R for each g tried, P + q (the next S), the outcome
unfoldable pub sums_formed : ℕ → (Kind → ℕ → Range) → Op → Sum → ℕ → List Sum
sums_formed zero β o t c = []
sums_formed (suc n) β o t c =
    t
    ∷ (cond (eqb c 1) [] (rests_tried β t (divisors_tried c t))
    ++ elim (apply_rule β o t c) [ is u ↦ u ∷ [] | again k u e a ↦ sums_formed n β o u e ++ (add_sums (scale_sum k (apply_rules n β o u e)) a ∷ []) ])

-- every sum formed while a tree is folded
unfoldable pub tree_sums : (Kind → ℕ → Range) → Expr → List Sum
tree_sums β (Expr.var k n) = fold_sum β (Expr.var k n) ∷ []
tree_sums β (Expr.const z) = fold_sum β (Expr.const z) ∷ []
tree_sums β (Expr.add a b) = tree_sums β a ++ (tree_sums β b ++ (fold_sum β (Expr.add a b) ∷ []))
tree_sums β (Expr.mul z a) = tree_sums β a ++ (fold_sum β (Expr.mul z a) ∷ [])
tree_sums β (Expr.op o a c) = tree_sums β a ++ sums_formed (fuel_for (fold_sum β a) c) β o (fold_sum β a) c

-- folding a tree passes no limit
unfoldable pub small_working : (Kind → ℕ → Range) → Expr → Bool
small_working β e = small_sums β (tree_sums β e)
