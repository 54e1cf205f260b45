-- Places and numbers: n different numbers below n leave none out. Assumes nothing.
use mathlib.Core.Path.{◌≡◌, refl}
use mathlib.Core.Bool.{Bool, true, false, cond}
use mathlib.Core.Logic.{⊎_elim}
use Prim.Native.Nat.{ℕ, zero, suc, ◌-◌, ◌<◌, ◌≤◌}
use native.Mathlib.Nat.{not-suc-le-zero, eq-or-lt_of_le}
use native.Mathlib.Omega.{arith}
use lib.Dec.{ltb}
use borrow.Author.Tests.{ltb-true, ltb-false}
use Rattle.radix.proofs.Lists.{le-or-lt}

le-ne-lt : (x b : ℕ) → x ≤ b → (x ≡ b → ⊥) → x < b
le-ne-lt x b l n = ⊎_elim (λ (e : x ≡ b). absurd (n e)) (λ h. h) (eq-or-lt_of_le l)

-- the numbers other than b, closed up
abbrev close : ℕ → ℕ → ℕ
close b x = cond (ltb b x) (x - 1) x

close-below : (n b x : ℕ) → b < suc n → x < suc n → (x ≡ b → ⊥) → close b x < n
close-below n b x hb hx ne = go (ltb b x) refl
  where
    go : (t : Bool) → ltb b x ≡ t → cond t (x - 1) x < n
    go true e = omega (arith, ltb-true b x e)
    go false e = omega (arith, le-ne-lt x b (ltb-false b x e) ne)

close-same : (b x y : ℕ) → (x ≡ b → ⊥) → (y ≡ b → ⊥) → close b x ≡ close b y → x ≡ y
close-same b x y nx ny = go (ltb b x) refl (ltb b y) refl
  where
    go : (t : Bool) → ltb b x ≡ t → (u : Bool) → ltb b y ≡ u → cond t (x - 1) x ≡ cond u (y - 1) y → x ≡ y
    go true e true f h = omega (arith, ltb-true b x e, ltb-true b y f, h)
    go true e false f h = absurd (omega (arith, ltb-true b x e, le-ne-lt y b (ltb-false b y f) ny, h))
    go false e true f h = absurd (omega (arith, le-ne-lt x b (ltb-false b x e) nx, ltb-true b y f, h))
    go false e false f h = h

-- f takes the numbers below n to different numbers below n: it leaves no b out
pub none-left-out : (n : ℕ) (f : ℕ → ℕ) (b : ℕ) → b < n
    → ((k : ℕ) → k < n → f k < n) → ((i j : ℕ) → i < j → j < n → f i ≡ f j → ⊥) → ((k : ℕ) → k < n → f k ≡ b → ⊥) → ⊥
none-left-out zero f b l into apart missed = not-suc-le-zero l
none-left-out (suc n) f b l into apart missed =
    none-left-out n (λ (k : ℕ). close b (f k)) (close b (f n)) (lower n (omega arith))
    (λ k h. lower k (omega arith))
    (λ i j h g e. apart i j h (omega arith) (same i j (omega arith) (omega arith) e))
    (λ k h e. apart k n h (omega arith) (same k n (omega arith) (omega arith) e))
  where
    lower : (k : ℕ) → k < suc n → close b (f k) < n
    lower k h = close-below n b (f k) l (into k h) (missed k h)

    same : (i j : ℕ) → i < suc n → j < suc n → close b (f i) ≡ close b (f j) → f i ≡ f j
    same i j h g = close-same b (f i) (f j) (missed i h) (missed j g)

-- so different numbers below m for all numbers below n are at most as many
pub at_most : (n m : ℕ) (f : ℕ → ℕ) → ((k : ℕ) → k < n → f k < m) → ((i j : ℕ) → i < j → j < n → f i ≡ f j → ⊥) → n ≤ m
at_most n m f into apart = ⊎_elim (λ h. h) (λ g. absurd (over g)) (le-or-lt n m)
  where
    over : m < n → ⊥
    over g =
        none-left-out m f (f m) (into m g) (λ k h. into k (omega arith)) (λ i j h l. apart i j h (omega arith)) (λ k h. apart k m h g)
