-- Worked examples of the definitions: lists of what is computed beside what it is, and that the two agree. Assumes nothing.
use mathlib.Core.Path.{refl}
use mathlib.Core.Bool.{Bool, true, false}
use mathlib.Core.List.{List, [], ◌∷◌}
use lib.IntN.{ℤ, pos, neg_ℤ}
use Rattle.integer.specs.Exact.{limit}
use Rattle.integer.proofs.Samples.{Agree}
use Rattle.expression.specs.Expression.{d, s, Op, floordiv, modulo, Expr, eval, op_of, Range, span, eqℤ, add_range, mul_range, op_range, range_of, every_node, small_ranges}
use Rattle.expression.specs.Node.{node_of, nodes_at}
use Rattle.expression.specs.Machine.{walk}
use Rattle.expression.specs.Decode.{Tree, none, tree, decode}
use Rattle.expression.specs.Value.{point_of, bounds}

-- (d0 + 4) floordiv 7 and (d0 + 4) mod 7
abbrev pub shifted : Op → Expr
shifted o = Expr.op o (Expr.add (Expr.var d 0) (Expr.const (pos 4))) 7

-- values at -5 and at 3
abbrev pub value_samples : List (ℤ × ℤ)
value_samples =
    (eval (point_of (neg_ℤ (pos 5) ∷ []) []) (shifted floordiv), neg_ℤ (pos 1))
    ∷ (eval (point_of (neg_ℤ (pos 5) ∷ []) []) (shifted modulo), pos 6)
    ∷ (eval (point_of (pos 3 ∷ []) []) (shifted floordiv), pos 1)
    ∷ (eval (point_of (pos 3 ∷ []) []) (shifted modulo), pos 0)
    ∷ []

pub value-samples : Agree value_samples
unfolding eval op_of point_of
value-samples = refl

-- ranges: floordiv; mod with one quotient and with two; a product by a negative constant
abbrev pub range_samples : List (Range × Range)
range_samples =
    (range_of (bounds (neg_ℤ (pos 5) ∷ []) (pos 3 ∷ [])) (shifted floordiv), span (neg_ℤ (pos 1)) (pos 1))
    ∷ (range_of (bounds (neg_ℤ (pos 4) ∷ []) (pos 2 ∷ [])) (shifted modulo), span (pos 0) (pos 6))
    ∷ (range_of (bounds (neg_ℤ (pos 3) ∷ []) (pos 1 ∷ [])) (shifted modulo), span (pos 1) (pos 5))
    ∷ (range_of (bounds (neg_ℤ (pos 5) ∷ []) (pos 3 ∷ [])) (shifted modulo), span (pos 0) (pos 6))
    ∷ (range_of (bounds (neg_ℤ (pos 5) ∷ []) (pos 3 ∷ [])) (Expr.mul (neg_ℤ (pos 2)) (Expr.var d 0)), span (neg_ℤ (pos 6)) (pos 10))
    ∷ []

pub range-samples : Agree range_samples
unfolding range_of add_range mul_range op_range eqℤ bounds point_of
range-samples = refl

-- 2^62 is within the limit, twice it is not, and neither is a sum of a part that passes and one that brings it back
abbrev pub limit_samples : List (Bool × Bool)
limit_samples =
    (small_ranges (bounds [] []) (Expr.const (pos limit)), true)
    ∷ (small_ranges (bounds [] []) (Expr.mul (pos 2) (Expr.const (pos limit))), false)
    ∷ (small_ranges (bounds [] []) (Expr.add (Expr.mul (pos 2) (Expr.const (pos limit))) (Expr.const (neg_ℤ (pos limit)))), false)
    ∷ []

pub limit-samples : Agree limit_samples
unfolding small_ranges every_node range_of add_range mul_range
limit-samples = refl

-- nodes: d0, 4, sum, floordiv 7 is a tree; without the sum, with a variable past its count, or with a divisor 0 it is none
abbrev pub decode_samples : List (Tree × Tree)
decode_samples =
    (decode (nodes_at 1 0 (0 ∷ 1 ∷ 2 ∷ 4 ∷ []) (pos 0 ∷ pos 4 ∷ pos 9 ∷ pos 7 ∷ []) 0 4), tree (shifted floordiv))
    ∷ (decode (nodes_at 1 0 (0 ∷ 1 ∷ 4 ∷ []) (pos 0 ∷ pos 4 ∷ pos 7 ∷ []) 0 3), none)
    ∷ (decode (nodes_at 1 0 (0 ∷ []) (pos 1 ∷ []) 0 1), none)
    ∷ (decode (nodes_at 1 2 (0 ∷ []) (pos 9 ∷ []) 0 1), tree (Expr.var s 1))
    ∷ (decode (nodes_at 1 0 (0 ∷ 5 ∷ []) (pos 0 ∷ pos 0 ∷ []) 0 2), none)
    ∷ (decode (nodes_at 1 0 [] [] 0 0), none)
    ∷ []

pub decode-samples : Agree decode_samples
unfolding decode walk nodes_at node_of
decode-samples = refl
