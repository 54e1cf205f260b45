-- A buffer of zeros that is filled from the front. Assumes nothing.
use mathlib.Core.Path.{◌≡◌, refl, ap}
use mathlib.Core.List.{List, ◌∷◌}
use Prim.Native.Nat.{ℕ, zero, suc, ◌+◌, ◌<◌}
use native.Mathlib.Numerals.{add-one}
use native.Mathlib.Omega.{arith}
use lib.IntN.{ℤ, pos}
use lib.ListN.{length, set, replicate}
use Rattle.indexing.specs.Answers.{front}

pub front-none : (f : ℕ → ℤ) (n : ℕ) → front f 0 n ≡ replicate n (pos 0)
unfolding front
front-none f zero = refl
front-none f (suc n) = ap (λ (l : List ℤ). pos 0 ∷ l) (front-none f n)

pub front_length : (f : ℕ → ℤ) (i n : ℕ) → length (front f i n) ≡ n
unfolding front
front_length f i zero = refl
front_length f zero (suc n) = ap suc (front_length f zero n)
front_length f (suc i) (suc n) = ap suc (front_length (λ (k : ℕ). f (suc k)) i n)

zeros-any : (f g : ℕ → ℤ) (n : ℕ) → front f 0 n ≡ front g 0 n
unfolding front
zeros-any f g zero = refl
zeros-any f g (suc n) = ap (λ (l : List ℤ). pos 0 ∷ l) (zeros-any f g n)

front-suc : (f : ℕ → ℤ) (i n : ℕ) → i < n → set (front f i n) i (f i) ≡ front f (suc i) n
unfolding front
front-suc f i zero h = absurd (omega arith)
front-suc f zero (suc n) h = ap (λ (l : List ℤ). f 0 ∷ l) (zeros-any f (λ (k : ℕ). f (suc k)) n)
front-suc f (suc i) (suc n) h = ap (λ (l : List ℤ). f 0 ∷ l) (front-suc (λ (k : ℕ). f (suc k)) i n (omega arith))

-- one entry more
pub front-next : (f : ℕ → ℤ) (i n : ℕ) → i < n → set (front f i n) i (f i) ≡ front f (i + 1) n
front-next f i n h = rw add-one (front-suc f i n h)
