-- Tables that agree on the stations, places and moves that there are have the same least weight. Assumes nothing.
use Prim.Native.Nat.{ℕ, zero, suc, ◌+◌, ◌-◌, ◌≤◌, ◌<◌}
use mathlib.Core.Path.{◌≡◌, refl, ap, ap₂, subst}
use mathlib.Core.Bool.{Bool, true, false}
use native.Mathlib.Omega.{arith}
use borrow.Author.Tests.{eqb-true}
use lib.Dec.{leb, eqb}
use Rattle.plan.specs.Value.{pick}
use Rattle.tree_plan.specs.Merge.{Links, Table, via_place, reach, joined, merge, merged, least_in}
use Rattle.tree_plan.proofs.Lowest.{lowest-agree}

module _ (L : Links) (columns : ℕ) where
  -- on stations 0 to v and their places, with fewer than `columns` moves left
  unfoldable pub Agree : ℕ → Table → Table → Type 0
  Agree v t s = (u a k : ℕ) → u ≤ v → a < L.count u → k < columns → t u a k ≡ s u a k

  via-agree :
      (v : ℕ) (t s : Table) (a j b : ℕ) → Agree v t s → b < L.count v → j < columns → via_place L t v a j b ≡ via_place L s v a j b
  unfolding via_place Agree
  via-agree v t s a j b h l g = go (leb (L.moves v a b) j)
    where
      go :
          (x : Bool) →
          pick x (t v b (j - L.moves v a b) + L.weight v a b) L.none
          ≡ pick x (s v b (j - L.moves v a b) + L.weight v a b) L.none
      go true = ap (λ (y : ℕ). y + L.weight v a b) (h v b (j - L.moves v a b) (omega arith) l (omega arith))
      go false = refl

  reach-agree : (v : ℕ) (t s : Table) (a j : ℕ) → Agree v t s → j < columns → reach L t v a j ≡ reach L s v a j
  unfolding reach
  reach-agree v t s a j h g =
      lowest-agree L.none (L.count v) (via_place L t v a j) (via_place L s v a j) (λ b l. via-agree v t s a j b h l g)

  joined-agree :
      (v : ℕ) (t s : Table) (a k : ℕ) →
      L.parent v ≤ v →
      Agree v t s →
      a < L.count (L.parent v) →
      k < columns →
      joined L t v a k ≡ joined L s v a k
  unfolding joined Agree
  joined-agree v t s a k low h l g =
      lowest-agree L.none (suc k) _ _
      (λ j y. ap₂ ◌+◌ (h (L.parent v) a _ low l (omega arith)) (reach-agree v t s a j h (omega arith)))

  merge-agree : (v : ℕ) (t s : Table) → L.parent (suc v) ≤ v → Agree (suc v) t s → Agree v (merge L t (suc v)) (merge L s (suc v))
  unfolding merge Agree
  merge-agree v t s low h u a k l g y = go (eqb u (L.parent (suc v))) refl
    where
      go :
          (x : Bool) →
          eqb u (L.parent (suc v)) ≡ x →
          pick x (joined L t (suc v) a k) (t u a k) ≡ pick x (joined L s (suc v) a k) (s u a k)
      go true e = joined-agree (suc v) t s a k (omega arith) h (subst (λ (x : ℕ). a < L.count x) (eqb-true _ _ e) g) y
      go false e = h u a k (omega arith) g y

  module _ (n : ℕ) (earlier : (i : ℕ) → i < n → L.parent (suc i) ≤ i) where
    pub least-agree : (v : ℕ) (t s : Table) (m : ℕ) → v ≤ n → Agree v t s → m < columns → least_in L v t m ≡ least_in L v s m
    unfolding least_in merged Agree
    least-agree zero t s m l h g =
        lowest-agree L.none (L.count 0) (λ b. t 0 b m) (λ b. s 0 b m) (λ b y. h 0 b m (omega arith) y g)
    least-agree (suc v) t s m l h g =
        least-agree v (merge L t (suc v)) (merge L s (suc v)) m (omega arith) (merge-agree v t s (earlier v (omega arith)) h) g
