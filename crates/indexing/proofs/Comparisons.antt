-- Comparisons on ℤ: one test by another, and as a fact. Assumes nothing.
use mathlib.Core.Path.{◌≡◌, refl, sym, subst}
use mathlib.Core.Bool.{Bool, true, false}
use Prim.Native.Nat.{ℕ}
use native.Mathlib.Omega.{arith}
use lib.Dec.{T}
use lib.IntN.{ℤ, pos, negsuc}
use lib.Signed.{le_z, ◌≤ℤ◌, lt_z}
use mathlib.Core.Logic.{◌↔◌}
use Rattle.expression.proofs.Order.{Le, order-Le}
use borrow.Author.Tests.{ltb-true, ltb-false, le-leb, lt-leb}

no : {X : Type 0} → false ≡ true → X
no e = let z : ◌≡◌ {A = ℕ} 0 1 = cc in absurd (omega arith)

pub lt_not_le : (a b : ℤ) → lt_z b a ≡ true → le_z a b ≡ false
lt_not_le (pos a) (pos b) t = lt-leb a b (ltb-true b a t)
lt_not_le (pos a) (negsuc b) t = refl
lt_not_le (negsuc a) (pos b) t = no t
lt_not_le (negsuc a) (negsuc b) t = lt-leb b a (ltb-true a b t)

pub not-lt-le : (a b : ℤ) → lt_z b a ≡ false → le_z a b ≡ true
not-lt-le (pos a) (pos b) t = le-leb a b (ltb-false b a t)
not-lt-le (pos a) (negsuc b) t = no (sym t)
not-lt-le (negsuc a) (pos b) t = refl
not-lt-le (negsuc a) (negsuc b) t = le-leb b a (ltb-false a b t)

-- the test is the order
pub le_test : (a b : ℤ) → (le_z a b ≡ true) ↔ (a ≤ℤ b)
le_test a b = (λ e. record { le = subst T (sym e) tt }, λ h. yes_of (le_z a b) h.le)
  where
    yes_of : (t : Bool) → T t → t ≡ true
    yes_of true w = refl
    yes_of false w = absurd w

pub le-fact : (a b : ℤ) → le_z a b ≡ true → Le a b
le-fact a b e = order-Le ((le_test a b).0 e)

-- two tests that pass together are the same
pub same_test : (a b : Bool) → (a ≡ true → b ≡ true) → (b ≡ true → a ≡ true) → a ≡ b
same_test true b f g = sym (f refl)
same_test false true f g = g refl
same_test false false f g = refl
