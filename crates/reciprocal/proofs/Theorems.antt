-- The theorems on the multipliers (Q-8): the table, the rule of every entry, the quotient, and when a call refuses. Assumes nothing.
use mathlib.Core.Path.{◌≡◌, ap, ◌∙◌}
use mathlib.Core.List.{[], ◌∷◌}
use Prim.Native.Nat.{ℕ, ◌+◌, ◌-◌, ◌*◌, ◌/◌, ◌<◌, ◌≤◌}
use native.Mathlib.Omega.{arith}
use lib.ListN.{length, get_or}
use Rattle.radix.proofs.Radix.{get_d-tab, length-tab}
use Rattle.refusal.specs.Number.{done, refusal}
use Rattle.refusal.specs.declared.Refusal.TheVariants.{Attribute}
use Rattle.reciprocal.specs.Multiplier.{max_divisor, whole, reached, multiplier_of, multiplier_table}
use Rattle.reciprocal.specs.Answers.{multiplier_entry, floor_quotient}
use Rattle.reciprocal.proofs.Dividing.{entry, reciprocal}
use Rattle.reciprocal.proofs.Judged.{divisor-kept, divisor-broken}

-- The table, which that of the code is equal to, has 1,024 entries; that of the divisor d stands at place d - 1.
pub table-length : length multiplier_table ≡ max_divisor
table-length = length-tab (λ (k : ℕ). multiplier_of (k + 1)) max_divisor

pub table-entry : (d : ℕ) → 0 < d → d ≤ max_divisor → get_or multiplier_table (d - 1) 0 ≡ multiplier_of d
table-entry d p h =
    let e : d - 1 + 1 ≡ d = omega arith in
    get_d-tab (λ (k : ℕ). multiplier_of (k + 1)) max_divisor (d - 1) 0 (omega arith) ∙ ap multiplier_of e

-- Every entry times its divisor is above 2^34, by 1 to the divisor. It is tested once over all entries.
pub entry-rule : (d : ℕ) → 0 < d → d ≤ max_divisor → (1 ≤ multiplier_of d * d - whole) × (multiplier_of d * d - whole ≤ d)
entry-rule d p h = let r = entry d p h in (omega (arith, r.0), omega (arith, r.1))

-- A number below 2^24 times the entry, floor-divided by 2^34, is the number floor-divided by the divisor.
pub entry-quotient : (n d : ℕ) → 0 < d → d ≤ max_divisor → n < reached → n * multiplier_of d / whole ≡ n / d
entry-quotient = reciprocal

-- A divisor from 1 to 1,024 is answered, with its entry or with the quotient.
pub multiplier-done : (d : ℕ) → 0 < d → d ≤ max_divisor → multiplier_entry d ≡ done (multiplier_of d ∷ [])
unfolding multiplier_entry
multiplier-done d p h = rw (divisor-kept d p h)

pub quotient-done : (n d : ℕ) → 0 < d → d ≤ max_divisor → floor_quotient n d ≡ done (n / d ∷ [])
unfolding floor_quotient
quotient-done n d p h = rw (divisor-kept d p h)

-- Any other divisor is refused, with number 2 and zeros.
pub multiplier-refused : (d : ℕ) → ((0 < d) × (d ≤ max_divisor) → ⊥) → multiplier_entry d ≡ refusal (0 ∷ []) Attribute
unfolding multiplier_entry
multiplier-refused d out = rw (divisor-broken d out)

pub quotient-refused : (n d : ℕ) → ((0 < d) × (d ≤ max_divisor) → ⊥) → floor_quotient n d ≡ refusal (0 ∷ []) Attribute
unfolding floor_quotient
quotient-refused n d out = rw (divisor-broken d out)
