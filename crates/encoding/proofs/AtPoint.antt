-- A map that is formed, at a point: the values of its trees, and its constraints one by one. Assumes nothing.
use mathlib.Core.Path.{◌≡◌, sym, ap, subst}
use mathlib.Core.Logic.{⊎_elim}
use mathlib.Core.List.{List, [], ◌∷◌, ◌++◌}
use Prim.Native.Nat.{ℕ, zero, suc, ◌+◌, ◌<◌}
use native.Mathlib.Nat.{le_of_suc-le-suc, eq-or-lt_of_le}
use native.Mathlib.Omega.{arith}
use lib.IntN.{ℤ}
use Rattle.expression.specs.Expression.{Kind, In, eval}
use Rattle.expression.specs.Value.{point_of, tree_value}
use Rattle.indexing.specs.Map.{value_at, Domain}
use Rattle.indexing.specs.Ready.{Formed}
use Rattle.indexing.specs.declared.IndexingMap.{IndexingMap}
use Rattle.folding.specs.Map.{Constraint, Holds}
use Rattle.encoding.specs.Trees.{listed, expr_at, constraint_at, map_constraints}
use Rattle.encoding.proofs.Trees.{tree_is}

-- ---- constraints one by one

module _ (ρ : Kind → ℕ → ℤ) where
  abbrev InInterval : Constraint → Type 0
  InInterval c = In (eval ρ c.expr) c.interval

  holds-next : (xs : List Constraint) (x : Constraint) → Holds ρ xs → InInterval x → Holds ρ (xs ++ (x ∷ []))
  unfolding Holds
  holds-next [] x h k = (k, tt)
  holds-next (y ∷ xs) x h k = (h.0, holds-next xs x h.1 k)

  holds-before : (xs : List Constraint) (x : Constraint) → Holds ρ (xs ++ (x ∷ [])) → Holds ρ xs × InInterval x
  unfolding Holds
  holds-before [] x h = (tt, h.0)
  holds-before (y ∷ xs) x h = let w = holds-before xs x h.1 in ((h.0, w.0), w.1)

  pub listed-holds : (f : ℕ → Constraint) (n : ℕ) → ((k : ℕ) → k < n → InInterval (f k)) → Holds ρ (listed f n)
  unfolding listed Holds
  listed-holds f zero h = tt
  listed-holds f (suc n) h = holds-next (listed f n) (f n) (listed-holds f n (λ k l. h k (omega arith))) (h n (omega arith))

  pub holds-listed : (f : ℕ → Constraint) (n : ℕ) → Holds ρ (listed f n) → (k : ℕ) → k < n → InInterval (f k)
  unfolding listed
  holds-listed f zero h k l = absurd (omega arith)
  holds-listed f (suc n) h k l =
      let w = holds-before (listed f n) (f n) h in
      ⊎_elim (λ (q : k ≡ n). subst (λ (i : ℕ). InInterval (f i)) (sym q) w.1) (λ (q : k < n). holds-listed f n w.0 k q) (eq-or-lt_of_le (le_of_suc-le-suc l))

-- ---- a map that is formed, at a point

module _ (m : IndexingMap) (f : Formed m) (ds ss : List ℤ) where
  pub value_of : (i : ℕ) → i < m.results + m.constraints → value_at m ds ss i ≡ eval (point_of ds ss) (expr_at m i)
  value_of i h = ap (tree_value ds ss) (tree_is m f i h)

  pub domain-holds : Domain m ds ss → Holds (point_of ds ss) (map_constraints m)
  domain-holds h =
      listed-holds (point_of ds ss) (constraint_at m) m.constraints
      (λ k l. subst (λ (z : ℤ). In z (constraint_at m k).interval) (value_of (m.results + k) (omega arith)) (h.holds k l))

  pub holds-at : Holds (point_of ds ss) (map_constraints m) → (k : ℕ) → k < m.constraints → In (value_at m ds ss (m.results + k)) (constraint_at m k).interval
  holds-at h k l =
      subst (λ (z : ℤ). In z (constraint_at m k).interval) (sym (value_of (m.results + k) (omega arith)))
      (holds-listed (point_of ds ss) (constraint_at m) m.constraints h k l)
