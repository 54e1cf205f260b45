-- Worked examples of composing: a map that is made, and refusals with 6, 7 and 8. Assumes nothing.
use mathlib.Core.Path.{refl}
use mathlib.Core.List.{List, [], ◌∷◌, ◌++◌}
use Prim.Native.Nat.{ℕ, ◌^◌}
use lib.IntN.{ℤ, pos}
use lib.ListN.{replicate}
use Rattle.integer.proofs.Samples.{Agree}
use Rattle.refusal.specs.Number.{Answer, done, refusal}
use Rattle.refusal.specs.declared.Refusal.TheVariants.{WrongLength, CountLimit, WorkingLimit}
use Rattle.expression.specs.Expression.{d, s, Expr, span}
use Rattle.expression.specs.Node.{max_variables}
use Rattle.indexing.specs.declared.IndexingMap.{IndexingMap}
use Rattle.folding.specs.Map.{Constraint}
use Rattle.encoding.specs.Encode.{filled, encode_map}
use Rattle.encoding.proofs.Samples.{reads-maps}
use Rattle.indexing.specs.Answers.{no_map}
use Rattle.compose.specs.ComposeMap.{substitute, composed_map, few_composed, small_composed, compose_answer}

abbrev dim : ℕ → Expr
dim n = Expr.var d n

abbrev range : ℕ → Expr
range n = Expr.var s n

-- the ends of dimensions and of range variables, by places
abbrev ends : List ℤ → List ℤ → List ℤ
ends ds ss = filled max_variables (pos 0) ds ++ ss

abbrev within : Expr → ℕ → ℕ → Constraint
within e a b = record { expr = e; interval = span (pos a) (pos b) }

-- (d0)[s0] -> (s0, d0), d0 in [0, 9], s0 in [0, 4], s0 + d0 in [0, 7]
abbrev pub first_map : IndexingMap
first_map =
    encode_map 1 1 (ends (pos 0 ∷ []) (pos 0 ∷ [])) (ends (pos 9 ∷ []) (pos 4 ∷ []))
    (range 0 ∷ dim 0 ∷ []) (within (Expr.add (range 0) (dim 0)) 0 7 ∷ [])

-- (d0, d1)[s0] -> (d0 * 2 + s0, d1), d0 in [0, 3], d1 in [0, 8], s0 in [0, 1], d0 + s0 in [0, 4]
abbrev pub then_map : IndexingMap
then_map =
    encode_map 2 1 (ends (pos 0 ∷ pos 0 ∷ []) (pos 0 ∷ [])) (ends (pos 3 ∷ pos 8 ∷ []) (pos 1 ∷ []))
    (Expr.add (Expr.mul (pos 2) (dim 0)) (range 0) ∷ dim 1 ∷ []) (within (Expr.add (dim 0) (range 0)) 0 4 ∷ [])

-- (d0)[s0, s1] -> (s0 * 2 + s1, d0), d0 in [0, 9], s0 in [0, 4], s1 in [0, 1], s0 + d0 in [0, 7], s0 in [0, 3], d0 in [0, 8], s0 + s1 in [0, 4]
abbrev pub both_map : IndexingMap
both_map =
    encode_map 1 2 (ends (pos 0 ∷ []) (pos 0 ∷ pos 0 ∷ [])) (ends (pos 9 ∷ []) (pos 4 ∷ pos 1 ∷ []))
    (Expr.add (Expr.mul (pos 2) (range 0)) (range 1) ∷ dim 0 ∷ [])
    (within (Expr.add (range 0) (dim 0)) 0 7 ∷ within (range 0) 0 3 ∷ within (dim 0) 0 8 ∷ within (Expr.add (range 0) (range 1)) 0 4 ∷ [])

-- (d0)[s0, .., s4] -> (d0), all in [0, 1]
abbrev wide : IndexingMap
wide = encode_map 1 5 (ends (pos 0 ∷ []) (replicate 5 (pos 0))) (ends (pos 1 ∷ []) (replicate 5 (pos 1))) (dim 0 ∷ []) []

-- (d0) -> (d0 * k), d0 in [0, n]
abbrev times : ℕ → ℕ → IndexingMap
times k n = encode_map 1 0 (pos 0 ∷ []) (pos n ∷ []) (Expr.mul (pos k) (dim 0) ∷ []) []

-- results are too many for the dimensions; ten range variables; a product that passes 2^62 only with the substitution
abbrev pub samples : List (Answer IndexingMap × Answer IndexingMap)
samples =
    (compose_answer first_map then_map, done (both_map ∷ []))
    ∷ (compose_answer then_map first_map, refusal (no_map ∷ []) WrongLength)
    ∷ (compose_answer wide wide, refusal (no_map ∷ []) CountLimit)
    ∷ (compose_answer (times (2 ^ 40) (2 ^ 20)) (times 4 10), done (encode_map 1 0 (pos 0 ∷ []) (pos (2 ^ 20) ∷ []) (Expr.mul (pos 4) (Expr.mul (pos (2 ^ 40)) (dim 0)) ∷ []) (within (Expr.mul (pos (2 ^ 40)) (dim 0)) 0 10 ∷ []) ∷ []))
    ∷ (compose_answer (times (2 ^ 40) (2 ^ 20)) (times 8 10), refusal (no_map ∷ []) WorkingLimit)
    ∷ []

pub samples-agree : Agree samples
unfolding reads-maps substitute composed_map few_composed small_composed compose_answer
samples-agree = refl
