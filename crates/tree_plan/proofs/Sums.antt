-- Sums of n terms. Assumes nothing.
use Prim.Native.Nat.{ℕ, zero, suc, ◌+◌, ◌*◌, ◌≤◌, ◌<◌}
use mathlib.Core.Path.{◌≡◌, refl, ap, ap₂}
use mathlib.Core.Logic.{⊎_elim}
use native.Mathlib.Omega.{arith}
use native.Mathlib.Nat.{eq-or-lt_of_le, add-mul}
use native.Mathlib.Numerals.{add-one}
use Rattle.tree_plan.specs.Tree.{sum_to}

pub sum-agree : (n : ℕ) (f g : ℕ → ℕ) → ((i : ℕ) → i < n → f i ≡ g i) → sum_to n f ≡ sum_to n g
unfolding sum_to
sum-agree zero f g h = refl
sum-agree (suc n) f g h = ap₂ ◌+◌ (sum-agree n f g (λ i l. h i (omega arith))) (h n (omega arith))

pub sum-add : (n : ℕ) (f g : ℕ → ℕ) → sum_to n (λ i. f i + g i) ≡ sum_to n f + sum_to n g
unfolding sum_to
sum-add zero f g = refl
sum-add (suc n) f g = omega (arith, sum-add n f g)

pub sum-scale : (n : ℕ) (f : ℕ → ℕ) (c : ℕ) → sum_to n (λ i. f i * c) ≡ sum_to n f * c
unfolding sum_to
sum-scale zero f c = omega arith
sum-scale (suc n) f c = omega (arith, sum-scale n f c, add-mul (sum_to n f) (f n) c)

-- term by term
pub sum-each : (n : ℕ) (f g : ℕ → ℕ) → ((i : ℕ) → i < n → f i ≤ g i) → sum_to n f ≤ sum_to n g
unfolding sum_to
sum-each zero f g h = omega arith
sum-each (suc n) f g h = omega (arith, sum-each n f g (λ i l. h i (omega arith)), h n (omega arith))

-- n times the same
pub sum_same : (n x : ℕ) → sum_to n (λ i. x) ≡ n * x
unfolding sum_to
sum_same zero x = omega arith
sum_same (suc n) x = omega (arith, sum_same n x, add-mul n 1 x, ap (λ (y : ℕ). y * x) (add-one n))

-- one term is at most the sum
pub term-le : (n : ℕ) (f : ℕ → ℕ) (i : ℕ) → i < n → f i ≤ sum_to n f
unfolding sum_to
term-le zero f i h = omega arith
term-le (suc n) f i h =
    ⊎_elim (λ (e : i ≡ n). omega (arith, ap f e)) (λ (l : i < n). omega (arith, term-le n f i l)) (eq-or-lt_of_le (omega arith))

-- the first term taken out
pub sum_head : (n : ℕ) (f : ℕ → ℕ) → sum_to (suc n) f ≡ f 0 + sum_to n (λ i. f (suc i))
unfolding sum_to
sum_head zero f = omega arith
sum_head (suc n) f = omega (arith, sum_head n f)

-- sums that differ at u only
pub sum_bump :
    (n : ℕ) (f g : ℕ → ℕ) (u x : ℕ) →
    u < n →
    ((i : ℕ) → i < n → (i ≡ u → ⊥) → g i ≡ f i) →
    g u ≡ f u + x →
    sum_to n g ≡ sum_to n f + x
unfolding sum_to
sum_bump zero f g u x l h e = absurd (omega arith)
sum_bump (suc n) f g u x l h e =
    ⊎_elim
    (λ (q : u ≡ n).
    omega (
      arith,
      sum-agree n g f (λ i m. h i (omega arith) (λ z. omega arith)),
      ap g q,
      ap f q,
    ))
    (λ (m : u < n).
    omega (arith, sum_bump n f g u x m (λ i y z. h i (omega arith) z) e, h n (omega arith) (λ z. omega arith)))
    (eq-or-lt_of_le (omega arith))

pub sum-bump-le :
    (n : ℕ) (f g : ℕ → ℕ) (u x : ℕ) →
    u < n →
    ((i : ℕ) → i < n → (i ≡ u → ⊥) → g i ≡ f i) →
    g u ≤ f u + x →
    sum_to n g ≤ sum_to n f + x
unfolding sum_to
sum-bump-le zero f g u x l h e = absurd (omega arith)
sum-bump-le (suc n) f g u x l h e =
    ⊎_elim
    (λ (q : u ≡ n).
    omega (
      arith,
      sum-agree n g f (λ i m. h i (omega arith) (λ z. omega arith)),
      ap g q,
      ap f q,
    ))
    (λ (m : u < n).
    omega (arith, sum-bump-le n f g u x m (λ i y z. h i (omega arith) z) e, h n (omega arith) (λ z. omega arith)))
    (eq-or-lt_of_le (omega arith))
