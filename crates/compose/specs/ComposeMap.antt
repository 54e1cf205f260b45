-- Composing f then g: f's results put for g's dimension variables, the composed map, the rules in the order of their numbers, and the
-- answer. Assumes nothing.
use Rattle.std.specs.Prelude.{Bool, cond, ◌&&◌, List, [], ◌∷◌, ◌++◌, map, ℕ, ◌+◌, ◌-◌, leb, ltb, eqb, ℤ, pos, length, get_or, Result}
use Rattle.refusal.specs.Number.{Answer}
use Rattle.refusal.specs.Judge.{Rule, rule, judge}
use Rattle.refusal.specs.declared.Refusal.{Refusal}
use Rattle.refusal.specs.declared.Refusal.TheVariants.{Attribute, WrongLength, CountLimit, WorkingLimit}
use Rattle.expression.specs.Expression.{d, s, rt, Expr, span}
use Rattle.expression.specs.Node.{max_variables, max_places, max_nodes}
use Rattle.expression.specs.Value.{bounds}
use Rattle.indexing.specs.Map.{max_constraints, good_parts, good_counts, good_ranges}
use Rattle.indexing.specs.Answers.{answered_map, map_by}
use Rattle.indexing.specs.declared.IndexingMap.{IndexingMap}
use Rattle.folding.specs.Map.{Constraint}
use Rattle.encoding.specs.Encode.{trees_of, nodes_of, encode_map, all_small}
use Rattle.encoding.specs.Trees.{listed, expr_at, result_trees, map_constraints}

-- ---- trees and bounds

-- a tree with t n for dimension variable n, and its range variables numbered from r on
unfoldable pub substitute : (ℕ → Expr) → ℕ → Expr → Expr
substitute t r (Expr.var d n) = t n
substitute t r (Expr.var s n) = Expr.var s (r + n)
substitute t r (Expr.var rt n) = Expr.var rt n
substitute t r (Expr.const z) = Expr.const z
substitute t r (Expr.add a b) = Expr.add (substitute t r a) (substitute t r b)
substitute t r (Expr.mul z a) = Expr.mul z (substitute t r a)
substitute t r (Expr.op o a c) = Expr.op o (substitute t r a) c

-- the ends of bounds by places: those of one map, of its dimensions and its r range variables, then those of the other's range variables
abbrev pub end_at : ℕ → List ℤ → List ℤ → ℕ → ℤ
end_at r fs gs p = cond (ltb p (max_variables + r)) (get_or fs p (pos 0)) (get_or gs (p - r) (pos 0))

abbrev pub joined_ends : ℕ → List ℤ → List ℤ → List ℤ
joined_ends r fs gs = listed (end_at r fs gs) max_places

-- ---- the composed map

-- a tree of g with f's results put for its dimension variables
abbrev pub put_into : IndexingMap → Expr → Expr
put_into f e = substitute (expr_at f) f.ranges e

abbrev pub composed_results : IndexingMap → IndexingMap → List Expr
composed_results f g = map (λ (e : Expr). put_into f e) (result_trees g)

-- result i of f is inside g's bound
abbrev pub inside_at : IndexingMap → IndexingMap → ℕ → Constraint
inside_at f g i = record { expr = expr_at f i; interval = span (get_or g.lower i (pos 0)) (get_or g.upper i (pos 0)) }

abbrev pub substituted : IndexingMap → Constraint → Constraint
substituted f c = record { expr = put_into f c.expr; interval = c.interval }

-- one per result of f
abbrev pub inside_constraints : IndexingMap → IndexingMap → List Constraint
inside_constraints f g = listed (inside_at f g) f.results

-- g's with the substitution
abbrev pub substituted_constraints : IndexingMap → IndexingMap → List Constraint
substituted_constraints f g = map (λ (c : Constraint). substituted f c) (map_constraints g)

-- f's, then one per result of f (inside g's bound), then g's with the substitution
abbrev pub composed_constraints : IndexingMap → IndexingMap → List Constraint
composed_constraints f g = map_constraints f ++ (inside_constraints f g ++ substituted_constraints f g)

abbrev pub composed_trees : IndexingMap → IndexingMap → List Expr
composed_trees f g = trees_of (composed_results f g) (composed_constraints f g)

-- the bounds of the variables: f's dimensions; f's ranges, then g's
abbrev pub composed_lower : IndexingMap → IndexingMap → List ℤ
composed_lower f g = joined_ends f.ranges f.lower g.lower

abbrev pub composed_upper : IndexingMap → IndexingMap → List ℤ
composed_upper f g = joined_ends f.ranges f.upper g.upper

unfoldable pub composed_map : IndexingMap → IndexingMap → IndexingMap
composed_map f g =
    encode_map f.dims (f.ranges + g.ranges) (composed_lower f g) (composed_upper f g) (composed_results f g) (composed_constraints f g)

-- ---- the rules

-- number 7 of the result: its range variables, its constraints and its nodes
unfoldable pub few_composed : IndexingMap → IndexingMap → Bool
few_composed f g =
    leb (f.ranges + g.ranges) max_variables
    && (leb (length (composed_constraints f g)) max_constraints
    && leb (length (nodes_of (composed_trees f g))) max_nodes)

-- number 8 of the result: the range of every node of every tree with the substitution, by the bounds of the composed map
unfoldable pub small_composed : IndexingMap → IndexingMap → Bool
small_composed f g = all_small (bounds (composed_lower f g) (composed_upper f g)) (composed_trees f g)

-- 7 of the result, 8 of either map, 8 of the result
abbrev pub work_rules : IndexingMap → IndexingMap → List Rule
work_rules f g =
    rule (few_composed f g) CountLimit
    ∷ rule (good_ranges f) WorkingLimit
    ∷ rule (good_ranges g) WorkingLimit
    ∷ rule (small_composed f g) WorkingLimit
    ∷ []

-- 2 of either map, 6, 7 of either map and then of the result, 8 of either map and then of the result
abbrev pub compose_rules : IndexingMap → IndexingMap → List Rule
compose_rules f g =
    rule (good_parts f) Attribute
    ∷ rule (good_parts g) Attribute
    ∷ rule (eqb f.results g.dims) WrongLength
    ∷ rule (good_counts f) CountLimit
    ∷ rule (good_counts g) CountLimit
    ∷ work_rules f g

-- ---- the answer: the composed map, which is not folded, or a map of zeros

unfoldable pub compose_answer : IndexingMap → IndexingMap → Answer IndexingMap
compose_answer f g = map_by (compose_rules f g) (composed_map f g)

-- of maps to which 2, 6 and 7 do not apply
unfoldable pub formed_compose : IndexingMap → IndexingMap → Result IndexingMap Refusal
formed_compose f g = answered_map (judge (work_rules f g)) (composed_map f g)
