-- Numbers by sign and magnitude. Assumes nothing.
use mathlib.Core.Path.{◌≡◌, refl}
use mathlib.Core.Bool.{Bool, true, false, not}
use Prim.Native.Nat.{ℕ, zero, suc, ◌+◌, ◌-◌, ◌*◌, ◌/◌, ◌<◌, ◌≤◌}
use native.Mathlib.Omega.{arith}
use native.Mathlib.Nat.{div-lt_iff_lt-mul, le-div_iff_mul-le}
use borrow.Author.Tests.{le-ltb}
use lib.IntN.{ℤ, pos, negsuc, neg_ℤ, nat_abs, ◌+ℤ◌, neg_ℤ-+ℤ}
use lib.Signed.{lt_z}
use Rattle.integer.specs.Exact.{sign_of}
use Rattle.integer.proofs.Linear.{same, add_parts, up_neg, dn-neg, abs-parts}

pub sign-abs : (e : ℤ) → sign_of (lt_z e (pos 0)) (nat_abs e) ≡ e
sign-abs (pos n) = rw (le-ltb n 0 (omega arith)) refl
sign-abs (negsuc n) = refl

pub abs-sign : (s : Bool) (n : ℕ) → nat_abs (sign_of s n) ≡ n
abs-sign false n = refl
abs-sign true zero = refl
abs-sign true (suc n) = refl

pub one-sign : (s : Bool) (m f : ℕ) → sign_of s (m + f) ≡ sign_of s m +ℤ sign_of s f
one-sign false m f = refl
one-sign true m f = neg_ℤ-+ℤ (pos m) (pos f)

pub first-larger : (s : Bool) (m f : ℕ) → f ≤ m → sign_of s (m - f) ≡ sign_of s m +ℤ sign_of (not s) f
first-larger false m f h = same _ _ (omega (arith, add_parts (pos m) (neg_ℤ (pos f)), up_neg (pos f), dn-neg (pos f)))
first-larger true m f h = same _ _ (omega (arith, add_parts (neg_ℤ (pos m)) (pos f), up_neg (pos m), dn-neg (pos m), up_neg (pos (m - f)), dn-neg (pos (m - f))))

pub second-larger : (s : Bool) (m f : ℕ) → m < f → sign_of (not s) (f - m) ≡ sign_of s m +ℤ sign_of (not s) f
second-larger false m f h = same _ _ (omega (arith, add_parts (pos m) (neg_ℤ (pos f)), up_neg (pos f), dn-neg (pos f), up_neg (pos (f - m)), dn-neg (pos (f - m))))
second-larger true m f h = same _ _ (omega (arith, add_parts (neg_ℤ (pos m)) (pos f), up_neg (pos m), dn-neg (pos m)))

pub room : (x y : ℕ) → (x ≡ 0 → ⊥) → y ≤ 18446744073709551615 / x → x * y ≤ 18446744073709551615
room x y z h = let p : 0 < x = omega arith in omega (arith, (le-div_iff_mul-le p).0 h)

pub no_room : (x y : ℕ) → (x ≡ 0 → ⊥) → 18446744073709551615 / x < y → 18446744073709551615 < x * y
no_room x y z h = let p : 0 < x = omega arith in omega (arith, (div-lt_iff_lt-mul p).0 h)

pub far : (z e : ℤ) → 18446744073709551615 < nat_abs z → nat_abs e ≤ 9223372036854775808 → 4611686018427387904 < nat_abs (z +ℤ e)
far (pos m) (pos n) h k = omega arith
far (pos m) (negsuc n) h k = omega (arith, add_parts (pos m) (negsuc n), abs-parts (pos m +ℤ negsuc n))
far (negsuc m) (pos n) h k = omega (arith, add_parts (negsuc m) (pos n), abs-parts (negsuc m +ℤ pos n))
far (negsuc m) (negsuc n) h k = omega arith
