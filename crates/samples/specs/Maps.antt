-- The maps of the samples, as document 01 prints them. Assumes nothing.
use Rattle.std.specs.Prelude.{List, [], ◌∷◌, ℕ, ℤ, pos, neg_ℤ}
use Rattle.expression.specs.Expression.{d, floordiv, modulo, Expr, span}
use Rattle.indexing.specs.declared.IndexingMap.{IndexingMap}
use Rattle.folding.specs.Map.{Constraint}
use Rattle.encoding.specs.Encode.{encode_map}

abbrev dim : ℕ → Expr
dim n = Expr.var d n

-- e + k
abbrev shifted : Expr → ℤ → Expr
shifted e k = Expr.add e (Expr.const k)

-- e in [0, 0]
abbrev is_zero : Expr → Constraint
is_zero e = record { expr = e; interval = span (pos 0) (pos 0) }

-- [32] to [4,8], output to input: d0 in [0, 3], d1 in [0, 7]
abbrev join_of : Expr → IndexingMap
join_of e = encode_map 2 0 (pos 0 ∷ pos 0 ∷ []) (pos 3 ∷ pos 7 ∷ []) (e ∷ []) []

-- d0 * 8 + d1
abbrev joined : Expr
joined = Expr.add (Expr.mul (pos 8) (dim 0)) (dim 1)

abbrev pub join_map : IndexingMap
join_map = join_of joined

-- [10,20,50] with the slices [5:10:1], [3:20:7] and [0:50:2], input to output: d0 in [5, 9], d1 in [3, 17], d2 in [0, 48]
abbrev slice_of : List Expr → List Constraint → IndexingMap
slice_of = encode_map 3 0 (pos 5 ∷ pos 3 ∷ pos 0 ∷ []) (pos 9 ∷ pos 17 ∷ pos 48 ∷ [])

-- d0 - 5, (d1 + 4) floordiv 7 - 1 and d2 floordiv 2, with (d1 + 4) mod 7 and d2 mod 2 in [0, 0]
abbrev pub slice_map : IndexingMap
slice_map =
    slice_of
    (shifted (dim 0) (neg_ℤ (pos 5))
    ∷ shifted (Expr.op floordiv (shifted (dim 1) (pos 4)) 7) (neg_ℤ (pos 1))
    ∷ Expr.op floordiv (dim 2) 2
    ∷ [])
    (is_zero (Expr.op modulo (shifted (dim 1) (pos 4)) 7) ∷ is_zero (Expr.op modulo (dim 2) 2) ∷ [])

-- [4,8] to [2,4,4], output to input: d0 in [0, 1], d1 in [0, 3], d2 in [0, 3]
abbrev split_of : List Expr → IndexingMap
split_of es = encode_map 3 0 (pos 0 ∷ pos 0 ∷ pos 0 ∷ []) (pos 1 ∷ pos 3 ∷ pos 3 ∷ []) es []

-- d0 * 2 + d1 floordiv 2 and d2 + (d1 mod 2) * 4
abbrev pub split_map : IndexingMap
split_map =
    split_of
    (Expr.add (Expr.mul (pos 2) (dim 0)) (Expr.op floordiv (dim 1) 2)
    ∷ Expr.add (dim 2) (Expr.mul (pos 4) (Expr.op modulo (dim 1) 2))
    ∷ [])
