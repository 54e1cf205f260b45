-- Magnitude and sign of a product. Assumes nothing.
use mathlib.Core.Path.{◌≡◌, refl, ap}
use mathlib.Core.Bool.{false, not, beq}
use Prim.Native.Nat.{ℕ, zero, suc, ◌*◌}
use native.Mathlib.Omega.{arith}
use lib.IntN.{ℤ, pos, negsuc, neg_ℤ, nat_abs, ◌*ℤ◌}
use lib.Signed.{lt_z}
use borrow.Author.Tests.{le-ltb}
use Rattle.integer.specs.Exact.{sign_of}

pub abs_neg : (a : ℤ) → nat_abs (neg_ℤ a) ≡ nat_abs a
abs_neg (pos zero) = refl
abs_neg (pos (suc n)) = refl
abs_neg (negsuc n) = refl

pub abs-mul : (a b : ℤ) → nat_abs (a *ℤ b) ≡ nat_abs a * nat_abs b
abs-mul (pos m) (pos n) = refl
abs-mul (pos m) (negsuc n) = abs_neg (pos (m * suc n))
abs-mul (negsuc m) (pos n) = abs_neg (pos (suc m * n))
abs-mul (negsuc m) (negsuc n) = refl

pub abs-zero : (a : ℤ) → nat_abs a ≡ 0 → a ≡ pos 0
abs-zero (pos n) e = ap pos e
abs-zero (negsuc n) e = absurd (omega arith)

not-below-0 : (n : ℕ) → lt_z (pos n) (pos 0) ≡ false
not-below-0 n = le-ltb n 0 (omega arith)

-- a product is below 0 where just one factor is
pub mul-signed : (a b : ℤ) → sign_of (not (beq (lt_z a (pos 0)) (lt_z b (pos 0)))) (nat_abs a * nat_abs b) ≡ a *ℤ b
mul-signed (pos m) (pos n) = rw (not-below-0 m, not-below-0 n)
mul-signed (pos m) (negsuc n) = rw (not-below-0 m)
mul-signed (negsuc m) (pos n) = rw (not-below-0 n)
mul-signed (negsuc m) (negsuc n) = refl
