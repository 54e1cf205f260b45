-- What the calls on shapes answer: the rules in the order of their numbers, and the values. Assumes nothing.
use Rattle.std.specs.Prelude.{ℕ, ◌+◌, ◌-◌, List, [], ◌∷◌, ◌++◌, ltb, eqb, length, replicate, Result, Ok, Err}
use Rattle.radix.specs.Radix.{row_major, digits, is_inside}
use Rattle.refusal.specs.Number.{Answer, done, refusal, answered}
use Rattle.refusal.specs.Judge.{Rule, rule, judge}
use Rattle.refusal.specs.declared.Refusal.{Refusal}
use Rattle.refusal.specs.declared.Refusal.TheVariants.{ShapeLimits, Outside, WrongLength}
use Rattle.shape.specs.Shape.{max_rank, sizes_of, count_of, good_shape}
use Rattle.shape.specs.declared.Shape.{Shape}
use Rattle.shape.specs.declared.Element.{Element}
use Rattle.shape.specs.declared.Point.{Point}

-- the element count
abbrev pub counted_answer : Result ℕ Refusal → Answer ℕ
counted_answer (Ok n) = done (n ∷ [])
counted_answer (Err r) = refusal (0 ∷ []) r

abbrev pub count_rules : Shape → List Rule
count_rules s = rule (good_shape s) ShapeLimits ∷ []

unfoldable pub element_count : Shape → Answer ℕ
element_count s = answered (0 ∷ []) (judge (count_rules s)) (count_of s ∷ [])

-- the element number of a point
abbrev pub numbered_answer : Result Element Refusal → Answer ℕ
numbered_answer (Ok e) = done (e.0 ∷ [])
numbered_answer (Err r) = refusal (0 ∷ []) r

abbrev pub inside_rules : Shape → List ℕ → List Rule
inside_rules s point = rule (eqb (length point) s.rank) WrongLength ∷ rule (is_inside point (sizes_of s)) Outside ∷ []

abbrev pub number_rules : Shape → List ℕ → List Rule
number_rules s point = rule (good_shape s) ShapeLimits ∷ inside_rules s point

unfoldable pub element_number : Shape → List ℕ → Answer ℕ
element_number s point = answered (0 ∷ []) (judge (number_rules s point)) (row_major (sizes_of s) point ∷ [])

-- the point of an element: the rank and six coordinates, 0 past the rank
abbrev pub located_answer : Result Point Refusal → Answer ℕ
located_answer (Ok p) = done (p.rank ∷ p.coordinates)
located_answer (Err r) = refusal (replicate (1 + max_rank) 0) r

abbrev pub point_rules : Shape → ℕ → List Rule
point_rules s n = rule (good_shape s) ShapeLimits ∷ rule (ltb n (count_of s)) Outside ∷ []

unfoldable pub element_point : Shape → ℕ → Answer ℕ
element_point s n =
    answered (replicate (1 + max_rank) 0) (judge (point_rules s n)) (s.rank ∷ (digits (sizes_of s) n ++ replicate (max_rank - s.rank) 0))
