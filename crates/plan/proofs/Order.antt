-- List order, and the one list that is least and first. Assumes nothing.
use Prim.Native.Nat.{ℕ, ◌≤◌, ◌<◌}
use mathlib.Core.Path.{◌≡◌, sym}
use mathlib.Core.Logic.{◌⊎◌, ⊎_elim}
use mathlib.Core.List.{List, [], ◌∷◌}
use native.Mathlib.Omega.{arith}
use Rattle.plan.specs.Net.{Before}

-- list order does not hold both ways
before-asym : (p q : List ℕ) → Before p q → Before q p → ⊥
unfolding Before
before-asym [] q b c = b
before-asym (a ∷ p) [] b c = b
before-asym (a ∷ p) (x ∷ q) b c =
    ⊎_elim
    (λ (l : a < x). ⊎_elim (λ (m : x < a). omega arith) (λ m. omega (arith, m.0)) c)
    (λ l. ⊎_elim (λ (m : x < a). omega (arith, l.0)) (λ m. before-asym p q l.1 m.1) c)
    b

-- a list of least cost among some, and first in list order among those of equal cost
pub record LeastFirst (In : List ℕ → Type 0) (cost : List ℕ → ℕ) (p : List ℕ) : Type 0 where
  pub held : In p
  pub least : (q : List ℕ) → In q → cost p ≤ cost q
  pub first : (q : List ℕ) → In q → cost q ≡ cost p → (q ≡ p) ⊎ Before p q

-- there is one only
pub one-least :
    (In : List ℕ → Type 0) (cost : List ℕ → ℕ) (p q : List ℕ) → LeastFirst In cost p → LeastFirst In cost q → p ≡ q
one-least In cost p q r s =
    ⊎_elim (λ (e : q ≡ p). sym e)
    (λ b. ⊎_elim (λ (e : p ≡ q). e) (λ c. absurd (before-asym p q b c)) (s.first p r.held same))
    (r.first q s.held (sym same))
  where
    same : cost p ≡ cost q
    same = omega (arith, r.least q s.held, s.least p r.held)
