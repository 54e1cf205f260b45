-- Laws of a round by the least absolute remainder, and of the number of rounds. Assumes nothing.
use mathlib.Core.Path.{◌≡◌, refl, ap}
use mathlib.Core.Logic.{◌↔◌}
use Prim.Native.Nat.{ℕ, zero, suc, ◌-◌, ◌*◌, ◌%◌, ◌^◌, ◌<◌, ◌≤◌, ◌∣◌}
use native.Mathlib.Decide.{dec_lt}
use native.Mathlib.Nat.{mod-lt, dvd-mod_iff, dvd-sub_iff_right, min-eq_left, min-eq_right, two-pow-succ}
use native.Mathlib.Omega.{arith}
use Rattle.integer.specs.Gcd.{gcd_of, least_remainder, rounds_by, rounds_of}
use Rattle.integer.proofs.Divisors.{gcd-keeps, gcd-is, gcd-unique}

module _ (x y : ℕ) (h : 0 < y) where
  -- the least absolute remainder is at most half of y
  pub least-half : 2 * least_remainder x y ≤ y
  least-half = omega (arith, mod-lt x h)

  -- a divisor of y divides it where it divides x
  least-divided : (d : ℕ) → d ∣ y → (d ∣ least_remainder x y) ↔ (d ∣ x)
  least-divided d p = by (dec_lt (y - x % y) (x % y))
    where
      by : Dec (y - x % y < x % y) → (d ∣ least_remainder x y) ↔ (d ∣ x)
      by (yes l) =
          let m = dvd-mod_iff d {m = x} p in
          let s = dvd-sub_iff_right d {k = x % y} (omega (arith, mod-lt x h)) p in
          rw (min-eq_right {n = y - x % y} {m = x % y} (omega arith)) (λ q. m.0 (s.0 q), λ q. s.1 (m.1 q))
      by (no l) = rw (min-eq_left {n = x % y} {m = y - x % y} (omega arith)) (dvd-mod_iff d p)

  -- a round keeps the greatest common divisor
  pub gcd-kept : gcd_of x y ≡ gcd_of y (least_remainder x y)
  gcd-kept =
      let r = least_remainder x y in
      gcd-unique x y _ _ (gcd-is x y) (gcd-keeps x y r _ least-divided (gcd-is y r))

-- the rounds are at most the binary digits of b
by_digits : (n k a b : ℕ) → b < 2 ^ k → rounds_by n a b ≤ k
by_digits zero k a b h = omega arith
by_digits (suc n) k a zero h = omega arith
by_digits (suc n) zero a (suc b) h = absurd (omega arith)
by_digits (suc n) (suc k) a (suc b) h =
    let l = least-half a (suc b) (omega arith) in
    let r = by_digits n k (suc b) (least_remainder a (suc b)) (omega (arith, two-pow-succ k)) in
    omega arith

-- however many are counted, if at least b
by-enough : (n m a b : ℕ) → b ≤ n → b ≤ m → rounds_by n a b ≡ rounds_by m a b
by-enough zero zero a b h k = refl
by-enough zero (suc m) a zero h k = refl
by-enough zero (suc m) a (suc b) h k = absurd (omega arith)
by-enough (suc n) zero a zero h k = refl
by-enough (suc n) zero a (suc b) h k = absurd (omega arith)
by-enough (suc n) (suc m) a zero h k = refl
by-enough (suc n) (suc m) a (suc b) h k =
    let l = least-half a (suc b) (omega arith) in
    ap suc (by-enough n m (suc b) (least_remainder a (suc b)) (omega arith) (omega arith))

-- the same of all rounds
pub rounds-digits : (k a b : ℕ) → b < 2 ^ k → rounds_of a b ≤ k
unfolding rounds_of
rounds-digits k a b h = by_digits b k a b h

-- one more than the pair that goes on
pub rounds-more : (a b : ℕ) → 0 < b → rounds_of a b ≡ suc (rounds_of b (least_remainder a b))
unfolding rounds_of
rounds-more a zero h = absurd (omega arith)
rounds-more a (suc b) h =
    let l = least-half a (suc b) (omega arith) in
    ap suc (by-enough b (least_remainder a (suc b)) (suc b) (least_remainder a (suc b)) (omega arith) (omega arith))

-- where no round is left, b is 0
pub rounds-none : (a b : ℕ) → rounds_of a b ≡ 0 → b ≡ 0
rounds-none a zero e = refl
rounds-none a (suc b) e = absurd (omega (arith, rounds-more a (suc b) (omega arith)))

-- and then the other number is the greatest common divisor
pub gcd-ended : (a b r : ℕ) → b ≡ 0 → gcd_of a b ≡ r → a ≡ r
unfolding gcd_of
gcd-ended a b r e g = rw e at g
