-- The place of the least, and what agrees below n has one least. Assumes nothing.
use Prim.Native.Nat.{ℕ, zero, suc, ◌*◌, ◌-◌, ◌≤◌, ◌<◌, min}
use mathlib.Core.Path.{◌≡◌, refl, ap₂}
use mathlib.Core.Bool.{Bool, true, false}
use lib.Dec.{ltb}
use native.Mathlib.Omega.{arith}
use Rattle.plan.specs.Net.{Coming}
use Rattle.plan.specs.Value.{pick, least_of, place_of, through}

-- The place of the least is a place.
pub place-low : (n : ℕ) (f : ℕ → ℕ) → place_of n f ≤ n - 1
unfolding place_of
place-low zero f = omega arith
place-low (suc n) f = low (place-low n f) (ltb (f n) (least_of n f))
  where
    low : place_of n f ≤ n - 1 → (t : Bool) → pick t n (place_of n f) ≤ suc n - 1
    low h true = omega arith
    low h false = omega arith

-- What agrees below n.
pub least-agree : (n : ℕ) (f g : ℕ → ℕ) → ((b : ℕ) → b < n → f b ≡ g b) → least_of n f ≡ least_of n g
unfolding least_of
least-agree zero f g h = refl
least-agree (suc n) f g h =
    ap₂ min (least-agree n f g (λ b l. h b (omega arith))) (h n (omega arith))

pub place-agree : (n : ℕ) (f g : ℕ → ℕ) → ((b : ℕ) → b < n → f b ≡ g b) → place_of n f ≡ place_of n g
unfolding place_of
place-agree zero f g h = refl
place-agree (suc n) f g h =
    simp (h n (omega arith), least-agree n f g (λ b l. h b (omega arith)), place-agree n f g (λ b l. h b (omega arith)))

-- two ways of coming that cost the same and move alike at place b
pub record Same (from from' : Coming) (b : ℕ) : Type 0 where
  pub moves : from.moves b ≡ from'.moves b
  pub paid : from.moves b * from.price b ≡ from'.moves b * from'.price b

pub through-agree :
    (cells m : ℕ) (size size' : ℕ → ℕ) (from from' : Coming) (rest rest' : ℕ → ℕ) (b : ℕ) →
    size b ≡ size' b →
    Same from from' b →
    rest b ≡ rest' b →
    through cells m size from rest b ≡ through cells m size' from' rest' b
unfolding through
through-agree cells m size size' from from' rest rest' b s f r = rw f.paid (simp (s, f.moves, r))
