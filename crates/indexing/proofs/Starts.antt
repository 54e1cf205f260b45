-- Where runs start: one after another, each inside what all of them take. Assumes nothing.
use mathlib.Core.Path.{◌≡◌, refl, sym, ◌∙◌}
use Prim.Native.Nat.{ℕ, zero, suc, ◌+◌, ◌-◌, ◌<◌, ◌≤◌, min}
use native.Mathlib.Nat.{le_of_suc-le-suc, eq-or-lt_of_le}
use native.Mathlib.Numerals.{add-one}
use native.Mathlib.Omega.{arith}
use mathlib.Core.Logic.{⊎_elim}
use mathlib.Core.Bool.{Bool, true, false}
use lib.Dec.{leb}
use borrow.Author.Tests.{le-leb, lt-leb, leb-true, leb-false}
use Rattle.expression.specs.Node.{max_nodes}
use Rattle.indexing.specs.Map.{start_of}

module _ (f : ℕ → ℕ) where
  pub start-suc : (i : ℕ) → start_of f (suc i) ≡ start_of f i + f i
  unfolding start_of
  start-suc i = refl

  pub start-next : (i : ℕ) → start_of f (i + 1) ≡ start_of f i + f i
  start-next i = rw add-one (start-suc i)

  -- a run starts no later than the ones after it
  pub start-le : (i j : ℕ) → i ≤ j → start_of f i ≤ start_of f j
  start-le i zero h = let e : i ≡ 0 = omega arith in rw e (omega arith)
  start-le i (suc j) h =
      ⊎_elim
      (λ (q : i ≡ suc j). rw q (omega arith))
      (λ (q : i < suc j). omega (arith, start-le i j (le_of_suc-le-suc q), start-suc j))
      (eq-or-lt_of_le h)

  -- a run that starts past the nodes, or does not end inside them, is cut off
  module _ (i from count : ℕ) (a : from ≡ min (start_of f i) (max_nodes + 1)) (b : count ≡ f i) where
    pub past-cut : max_nodes < from → leb (start_of f (suc i)) max_nodes ≡ false
    past-cut h = lt-leb (start_of f (suc i)) max_nodes (omega (arith, start-suc i))

    pub ends-cut : max_nodes - from < count → from ≤ max_nodes → leb (start_of f (suc i)) max_nodes ≡ false
    ends-cut g h = lt-leb (start_of f (suc i)) max_nodes (omega (arith, start-suc i))

    -- any other is held
    pub ends_held : count ≤ max_nodes - from → from ≤ max_nodes → (leb (start_of f (suc i)) max_nodes ≡ true) × (from ≡ start_of f i)
    ends_held g h = (le-leb (start_of f (suc i)) max_nodes (omega (arith, start-suc i)), omega arith)

-- a sum that stops one past the most nodes says whether the sum is at most that
pub capped : (x r : ℕ) → r ≡ min x (max_nodes + 1) → leb r max_nodes ≡ leb x max_nodes
capped x r e = go (leb x max_nodes) refl
  where
    go : (b : Bool) → leb x max_nodes ≡ b → leb r max_nodes ≡ leb x max_nodes
    go true t = let h = leb-true x max_nodes t in le-leb r max_nodes (omega arith) ∙ sym t
    go false t = let h = leb-false x max_nodes t in lt-leb r max_nodes (omega arith) ∙ sym t
