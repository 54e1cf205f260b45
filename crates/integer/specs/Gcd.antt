-- The greatest common divisor: by what divides what, and computed; and the rounds that a pair takes. Assumes nothing.
use Rattle.std.specs.Prelude.{ℕ, zero, suc, ◌-◌, ◌%◌, min}
use Rattle.std.specs.Int.{◌∣◌}

-- r divides a and b, and whatever divides both divides r
pub record IsGcd (a b r : ℕ) : Type 0 where
  pub left : r ∣ a
  pub right : r ∣ b
  pub greatest : (d : ℕ) → d ∣ a → d ∣ b → d ∣ r

-- by Euclid's steps, at most n of them
abbrev pub gcd_by : ℕ → ℕ → ℕ → ℕ
gcd_by zero a b = a
gcd_by (suc n) a zero = a
gcd_by (suc n) a (suc b) = gcd_by n (suc b) (a % suc b)

-- b steps are enough
unfoldable pub gcd_of : ℕ → ℕ → ℕ
gcd_of a b = gcd_by b a b

-- the least absolute remainder of x by y: how far x is from the nearest multiple of y
abbrev pub least_remainder : ℕ → ℕ → ℕ
least_remainder x y = min (x % y) (y - x % y)

-- the rounds until b is 0, one division each: from a and b to b and the least absolute remainder; at most n are counted
abbrev pub rounds_by : ℕ → ℕ → ℕ → ℕ
rounds_by zero a b = 0
rounds_by (suc n) a zero = 0
rounds_by (suc n) a (suc b) = suc (rounds_by n (suc b) (least_remainder a (suc b)))

-- there are no more than b
unfoldable pub rounds_of : ℕ → ℕ → ℕ
rounds_of a b = rounds_by b a b
