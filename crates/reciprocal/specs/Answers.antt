-- What the calls on multipliers answer: the rule of a divisor, and the values (Q-8). Assumes nothing.
use Rattle.std.specs.Prelude.{ℕ, ◌/◌, Bool, ◌&&◌, List, [], ◌∷◌, leb, Result, Ok, Err}
use Rattle.refusal.specs.Number.{Answer, done, refusal, answered}
use Rattle.refusal.specs.Judge.{Rule, rule, judge}
use Rattle.refusal.specs.declared.Refusal.{Refusal}
use Rattle.refusal.specs.declared.Refusal.TheVariants.{Attribute}
use Rattle.reciprocal.specs.Multiplier.{max_divisor, multiplier_of}

abbrev pub reckoned_answer : Result ℕ Refusal → Answer ℕ
reckoned_answer (Ok n) = done (n ∷ [])
reckoned_answer (Err r) = refusal (0 ∷ []) r

-- a divisor is one of 1 to 1,024
abbrev pub good_divisor : ℕ → Bool
good_divisor d = leb 1 d && leb d max_divisor

abbrev pub divisor_rules : ℕ → List Rule
divisor_rules d = rule (good_divisor d) Attribute ∷ []

-- the multiplier of d
unfoldable pub multiplier_entry : ℕ → Answer ℕ
multiplier_entry d = answered (0 ∷ []) (judge (divisor_rules d)) (multiplier_of d ∷ [])

-- the floor of n/d
unfoldable pub floor_quotient : ℕ → ℕ → Answer ℕ
floor_quotient n d = answered (0 ∷ []) (judge (divisor_rules d)) (n / d ∷ [])
