-- Exact working within +-2^62: a number is kept within the limit, and passes beyond it. Assumes nothing.
use Rattle.std.specs.Prelude.{Bool, true, false, cond, [], ◌∷◌, ℕ, ◌^◌, leb, ℤ, pos, neg_ℤ, nat_abs, Option, Some, None}
use Rattle.refusal.specs.Number.{Answer, done, refusal}
use Rattle.refusal.specs.declared.Refusal.TheVariants.{WorkingLimit}

-- the largest magnitude of exact working
abbrev pub limit : ℕ
limit = 2 ^ 62

-- the number itself, where it lies within the limit, both ends included
unfoldable pub exactly : ℤ → Option ℤ
exactly z = cond (leb (nat_abs z) limit) (Some z) None

-- the answer on paper: the number of the refusal (0 for done, 8 past the limit), and the values
abbrev pub exact_answer : Option ℤ → Answer ℤ
exact_answer (Some z) = done (z ∷ [])
exact_answer None = refusal (pos 0 ∷ []) WorkingLimit

-- the number of magnitude m, below 0 where the sign is true
abbrev pub sign_of : Bool → ℕ → ℤ
sign_of true m = neg_ℤ (pos m)
sign_of false m = pos m
