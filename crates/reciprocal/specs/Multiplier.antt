-- The multipliers (Q-8): a table of 1,024 entries, one for each divisor. Assumes nothing.
use Rattle.std.specs.Prelude.{ℕ, ◌+◌, ◌*◌, ◌/◌, ◌^◌, ◌<◌, ◌≡◌, Bool, ◌&&◌, List, leb, length, get_or}
use Rattle.radix.specs.Radix.{tab}

-- the largest divisor of the table
abbrev pub max_divisor : ℕ
max_divisor = 1024

-- 2^34, and the numbers below which the table is used
abbrev pub whole : ℕ
whole = 2 ^ 34

abbrev pub reached : ℕ
reached = 2 ^ 24

-- the multiplier of d: the floor of 2^34/d, plus 1
abbrev pub multiplier_of : ℕ → ℕ
multiplier_of d = whole / d + 1

-- the table: that of d at place d - 1
abbrev pub multiplier_table : List ℕ
multiplier_table = tab (λ (k : ℕ). multiplier_of (k + 1)) max_divisor

-- the rule of an entry m for the divisor d: m * d is above 2^34, by d at most
abbrev pub is_reciprocal : ℕ → ℕ → Bool
is_reciprocal d m = leb (whole + 1) (m * d) && leb (m * d) (whole + d)

-- the lent table has the multiplier of k + 1 at place k, as far as it goes
pub record AreMultipliers (m : List ℕ) : Type 0 where
  pub at : (k : ℕ) → k < length m → get_or m k 0 ≡ multiplier_of (k + 1)
