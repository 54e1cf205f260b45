-- Worked examples of document 000 and document 01: the answers of the operations. Assumes nothing.
use mathlib.Core.Path.{refl}
use mathlib.Core.List.{List, [], ◌∷◌}
use Prim.Native.Nat.{ℕ}
use lib.IntN.{ℤ, pos, neg_ℤ}
use lib.ListN.{length}
use Rattle.integer.proofs.Samples.{Agree}
use Rattle.radix.specs.Radix.{is_within}
use Rattle.refusal.specs.Number.{Answer, done, refusal}
use Rattle.refusal.specs.declared.Refusal.TheVariants.{Attribute, Repeat}
use Rattle.shape.specs.Shape.{good_shape}
use Rattle.shape.specs.Repeats.{later_in, earlier_in}
use Rattle.shape.specs.Dimensions.{in_range, place}
use Rattle.shape.specs.declared.Shape.{Shape}
use Rattle.expression.specs.Expression.{d, s, floordiv, modulo, Expr, Range, span}
use Rattle.indexing.specs.declared.IndexingMap.{IndexingMap}
use Rattle.folding.specs.Map.{Constraint}
use Rattle.indexing.specs.Answers.{no_map}
use Rattle.fold.proofs.Samples.{folds-maps}
use Rattle.map_builder.specs.Raw.{encoded, up_to, whole_of}
use Rattle.operation_maps.specs.Axes.{axes_out, axes_in}
use Rattle.operation_maps.specs.Reshape.{linear_from, linear, digit_trees, split_trees, reshape_map}
use Rattle.operation_maps.specs.Lists.{others}
use Rattle.operation_maps.specs.Selection.{select_map, spread_map}
use Rattle.operation_maps.specs.Operation.{Operation, joined_before, output_to_input_answer, input_to_output_answer}

-- the line `unfolding makes-maps` opens all that the map of an operation computes with
unfoldable pub makes-maps : Unit {0}
unfolding folds-maps output_to_input_answer input_to_output_answer encoded axes_out axes_in linear_from linear digit_trees split_trees reshape_map others select_map spread_map joined_before
makes-maps = tt

abbrev shape_of : List ℕ → Shape
shape_of ns = record { rank = length ns; sizes = ns }

abbrev D : ℕ → Expr
D n = Expr.var d n

abbrev S : ℕ → Expr
S n = Expr.var s n

abbrev plus : Expr → ℤ → Expr
plus e k = Expr.add e (Expr.const k)

abbrev answer : List Range → List Range → List Expr → List Constraint → Answer IndexingMap
answer ds ss es cs = done (encoded (record { dims = ds; ranges = ss; results = es; constraints = cs }) ∷ [])

abbrev is_zero : Expr → Constraint
is_zero e = record { expr = e; interval = span (pos 0) (pos 0) }

-- the operations of the examples
abbrev broadcast : Operation
broadcast = Operation.broadcast (shape_of (20 ∷ [])) (shape_of (10 ∷ 20 ∷ 30 ∷ [])) (1 ∷ [])

abbrev transposed : Operation
transposed = Operation.transpose (shape_of (3 ∷ 12288 ∷ 6 ∷ 128 ∷ [])) (0 ∷ 2 ∷ 3 ∷ 1 ∷ [])

abbrev reversed : Operation
reversed = Operation.reverse (shape_of (1 ∷ 17 ∷ 9 ∷ 9 ∷ [])) (1 ∷ 2 ∷ [])

abbrev reduced : Operation
reduced = Operation.reduce (shape_of (256 ∷ 10 ∷ [])) (0 ∷ [])

abbrev reduced_init : Operation
reduced_init = Operation.reduce_init (shape_of (256 ∷ 10 ∷ [])) (0 ∷ [])

abbrev sliced : Operation
sliced = Operation.slice (shape_of (10 ∷ 20 ∷ 50 ∷ [])) (5 ∷ 3 ∷ 0 ∷ []) (10 ∷ 20 ∷ 50 ∷ []) (1 ∷ 7 ∷ 2 ∷ [])

abbrev joined32 : Operation
joined32 = Operation.reshape (shape_of (32 ∷ [])) (shape_of (4 ∷ 8 ∷ []))

abbrev split244 : Operation
split244 = Operation.reshape (shape_of (4 ∷ 8 ∷ [])) (shape_of (2 ∷ 4 ∷ 4 ∷ []))

abbrev concatenated : ℕ → Operation
concatenated j = Operation.concatenate 3 (shape_of (2 ∷ 5 ∷ 7 ∷ []) ∷ shape_of (2 ∷ 11 ∷ 7 ∷ []) ∷ shape_of (2 ∷ 17 ∷ 7 ∷ []) ∷ []) 1 j

abbrev samples : List (Answer IndexingMap × Answer IndexingMap)
samples =
    (output_to_input_answer broadcast, answer (whole_of (10 ∷ 20 ∷ 30 ∷ [])) [] (D 1 ∷ []) [])
    ∷ (input_to_output_answer broadcast, answer (whole_of (20 ∷ [])) (whole_of (10 ∷ 30 ∷ [])) (S 0 ∷ D 0 ∷ S 1 ∷ []) [])
    ∷ (output_to_input_answer transposed, answer (whole_of (3 ∷ 6 ∷ 128 ∷ 12288 ∷ [])) [] (D 0 ∷ D 3 ∷ D 1 ∷ D 2 ∷ []) [])
    ∷ (input_to_output_answer transposed, answer (whole_of (3 ∷ 12288 ∷ 6 ∷ 128 ∷ [])) [] (D 0 ∷ D 2 ∷ D 3 ∷ D 1 ∷ []) [])
    ∷ (
      output_to_input_answer reversed,
      answer (whole_of (1 ∷ 17 ∷ 9 ∷ 9 ∷ [])) []
          (D 0 ∷ plus (Expr.mul (neg_ℤ (pos 1)) (D 1)) (pos 16) ∷ plus (Expr.mul (neg_ℤ (pos 1)) (D 2)) (pos 8) ∷ D 3 ∷ []) [],
    )
    ∷ (output_to_input_answer reduced, answer (whole_of (10 ∷ [])) (whole_of (256 ∷ [])) (S 0 ∷ D 0 ∷ []) [])
    ∷ (input_to_output_answer reduced, answer (whole_of (256 ∷ 10 ∷ [])) [] (D 1 ∷ []) [])
    ∷ (
      output_to_input_answer (Operation.reduce (shape_of (2 ∷ 3 ∷ 4 ∷ [])) (2 ∷ 0 ∷ [])),
      answer (whole_of (3 ∷ [])) (whole_of (2 ∷ 4 ∷ [])) (S 0 ∷ D 0 ∷ S 1 ∷ []) [],
    )
    ∷ (output_to_input_answer reduced_init, answer (whole_of (10 ∷ [])) [] [] [])
    ∷ (input_to_output_answer reduced_init, answer [] (whole_of (10 ∷ [])) (S 0 ∷ []) [])
    ∷ (output_to_input_answer sliced, answer (whole_of (5 ∷ 3 ∷ 25 ∷ [])) [] (plus (D 0) (pos 5) ∷ plus (Expr.mul (pos 7) (D 1)) (pos 3) ∷ Expr.mul (pos 2) (D 2) ∷ []) [])
    ∷ (
      input_to_output_answer sliced,
      answer (span (pos 5) (pos 9) ∷ span (pos 3) (pos 17) ∷ span (pos 0) (pos 48) ∷ []) []
          (plus (D 0) (neg_ℤ (pos 5)) ∷ plus (Expr.op floordiv (plus (D 1) (pos 4)) 7) (neg_ℤ (pos 1)) ∷ Expr.op floordiv (D 2) 2 ∷ [])
          (is_zero (Expr.op modulo (plus (D 1) (pos 4)) 7) ∷ is_zero (Expr.op modulo (D 2) 2) ∷ []),
    )
    ∷ (output_to_input_answer joined32, answer (whole_of (4 ∷ 8 ∷ [])) [] (Expr.add (Expr.mul (pos 8) (D 0)) (D 1) ∷ []) [])
    ∷ (
      output_to_input_answer split244,
      answer (whole_of (2 ∷ 4 ∷ 4 ∷ [])) []
          (Expr.add (Expr.mul (pos 2) (D 0)) (Expr.op floordiv (D 1) 2) ∷ Expr.add (D 2) (Expr.mul (pos 4) (Expr.op modulo (D 1) 2)) ∷ []) [],
    )
    ∷ (output_to_input_answer (concatenated 1), answer (up_to 2 ∷ span (pos 5) (pos 15) ∷ up_to 7 ∷ []) [] (D 0 ∷ plus (D 1) (neg_ℤ (pos 5)) ∷ D 2 ∷ []) [])
    ∷ (input_to_output_answer (concatenated 2), answer (whole_of (2 ∷ 17 ∷ 7 ∷ [])) [] (D 0 ∷ plus (D 1) (pos 16) ∷ D 2 ∷ []) [])
    ∷ (output_to_input_answer (Operation.transpose (shape_of (2 ∷ 3 ∷ 4 ∷ [])) (1 ∷ 0 ∷ 1 ∷ [])), refusal (no_map ∷ []) (Repeat 0 2))
    ∷ (output_to_input_answer (Operation.transpose (shape_of (2 ∷ 3 ∷ 4 ∷ [])) (1 ∷ 3 ∷ 1 ∷ [])), refusal (no_map ∷ []) Attribute)
    ∷ []

pub operation-samples : Agree samples
unfolding makes-maps good_shape is_within in_range later_in earlier_in place
operation-samples = refl
