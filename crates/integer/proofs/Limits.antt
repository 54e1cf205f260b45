-- Laws of a limit: what is kept and what passes, and a product compared by a quotient. Assumes nothing.
use Rattle.std.specs.Prelude.{Option, Some, None}
use Rattle.std.specs.Bool.{then_some}
use mathlib.Core.Path.{◌≡◌, refl}
use mathlib.Core.Bool.{Bool, true, false, cond}
use lib.Dec.{leb}
use Prim.Native.Nat.{ℕ, ◌*◌, ◌/◌, ◌<◌, ◌≤◌}
use native.Mathlib.Nat.{div-lt_iff_lt-mul, le-div_iff_mul-le}
use native.Mathlib.Omega.{arith}
use lib.IntN.{ℤ, nat_abs}
use borrow.Author.Tests.{le-leb, lt-leb}
use mir.Syntax.{w64}
use mir.Val.{SFits}
use native.Mathlib.Decide.{dec_lt}
use Rattle.integer.specs.Exact.{limit, exactly}
use Rattle.integer.proofs.Linear.{abs-parts, fits_by}

-- within the limit a number is kept
pub exact-in : (z : ℤ) → nat_abs z ≤ limit → exactly z ≡ Some z
unfolding exactly
exact-in z h = rw (le-leb (nat_abs z) limit h)

-- beyond it, it has passed
pub exact-out : (z : ℤ) → limit < nat_abs z → exactly z ≡ None
unfolding exactly
exact-out z h = rw (lt-leb (nat_abs z) limit h)

-- the test that keeps it
pub exact-test : (z : ℤ) (u l : ℕ) → u ≡ nat_abs z → l ≡ limit → then_some (leb u l) z ≡ exactly z
unfolding exactly
exact-test z u l e f = rw (e, f) (go (leb (nat_abs z) limit))
  where
    go : (b : Bool) → then_some b z ≡ cond b (Some z) None
    go true = refl
    go false = refl

-- what an i64 doesn't hold is beyond it
pub exact-unfit : (z : ℤ) → (SFits w64 z → ⊥) → exactly z ≡ None
exact-unfit z h = go (dec_lt limit (nat_abs z))
  where
    go : Dec (limit < nat_abs z) → exactly z ≡ None
    go (yes l) = exact-out z l
    go (no f) = absurd (h (fits_by z (omega (arith, abs-parts z))))

-- no answer is both
pub exact_one : {r : Option ℤ} {v : ℤ} → r ≡ Some v → r ≡ None → ⊥
exact_one p q = cc

-- a product and a bound l, by the quotient of l
module _ (l x y : ℕ) (p : x ≡ 0 → ⊥) where
  positive : 0 < x
  positive = omega arith

  pub product-in : y ≤ l / x → x * y ≤ l
  product-in h = omega (arith, (le-div_iff_mul-le positive).0 h)

  pub product-out : l / x < y → l < x * y
  product-out h = omega (arith, (div-lt_iff_lt-mul positive).0 h)
