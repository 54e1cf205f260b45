-- Laws of the greatest common divisor: Euclid's step, its end, and that there is just one. Assumes nothing.
use mathlib.Core.Path.{◌≡◌, refl}
use mathlib.Core.Logic.{◌↔◌}
use Prim.Native.Nat.{ℕ, zero, suc, ◌%◌, ◌≤◌, ◌∣◌}
use native.Mathlib.Nat.{dvd-mod_iff, dvd_refl, dvd-zero, dvd_antisymm, mod-lt}
use native.Mathlib.Omega.{arith}
use Rattle.integer.specs.Gcd.{IsGcd, gcd_by, gcd_of}

-- x may give way to z where a divisor of y divides both or neither
pub gcd-keeps : (x y z r : ℕ) → ((d : ℕ) → d ∣ y → (d ∣ z) ↔ (d ∣ x)) → IsGcd y z r → IsGcd x y r
gcd-keeps x y z r e g =
    record {
      left = (e r g.left).0 g.right;
      right = g.left;
      greatest = λ d p q. g.greatest d q ((e d q).1 p);
    }

gcd-last : (x y : ℕ) → y ≡ 0 → IsGcd x y x
gcd-last x y e = rw e (record { left = dvd_refl x; right = dvd-zero x; greatest = λ d p q. p })

by-is : (n a b : ℕ) → b ≤ n → IsGcd a b (gcd_by n a b)
by-is zero a b h = gcd-last a b (omega arith)
by-is (suc n) a zero h = gcd-last a 0 refl
by-is (suc n) a (suc b) h =
    gcd-keeps a (suc b) (a % suc b) _ (λ d. dvd-mod_iff d)
    (by-is n (suc b) (a % suc b) (omega (arith, mod-lt a {m = suc b} (omega arith))))

pub gcd-is : (a b : ℕ) → IsGcd a b (gcd_of a b)
unfolding gcd_of
gcd-is a b = by-is b a b (omega arith)

pub gcd-unique : (a b r s : ℕ) → IsGcd a b r → IsGcd a b s → r ≡ s
gcd-unique a b r s g h = dvd_antisymm (h.greatest r g.left g.right) (g.greatest s h.left h.right)
