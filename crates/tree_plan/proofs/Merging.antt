-- Merging the last station into its parent keeps the least weight. Assumes nothing.
use Prim.Native.Nat.{ℕ, zero, suc, ◌+◌, ◌-◌, ◌≤◌, ◌<◌}
use mathlib.Core.Path.{◌≡◌, refl, sym, ap, ap₂, subst, ◌∙◌}
use mathlib.Core.Logic.{⊎_elim}
use mathlib.Core.Bool.{Bool, true, false}
use native.Mathlib.Omega.{arith}
use native.Mathlib.Nat.{eq-or-lt_of_le}
use borrow.Author.Tests.{leb-true, le-leb, eq-eqb, ne_eqb}
use lib.Dec.{leb}
use Rattle.plan.specs.Value.{pick}
use Rattle.tree_plan.specs.Tree.{sum_to}
use Rattle.tree_plan.specs.Merge.{Links, Table, lowest, via_place, reach, joined, merge, merged, least_in}
use Rattle.tree_plan.proofs.Sums.{sum-agree, sum_bump, sum-bump-le, term-le}
use Rattle.tree_plan.proofs.Lowest.{lowest-le, Hit, lowest-hit, put, put_same, put_other}

-- the first station of stations 0 to n is come to without a move, and each other's parent is earlier
pub record Rooted (L : Links) (n : ℕ) : Type 0 where
  pub moves : (a b : ℕ) → L.moves 0 a b ≡ 0
  pub weight : (a b : ℕ) → L.weight 0 a b ≡ 0
  pub earlier : (i : ℕ) → i < n → L.parent (suc i) ≤ i

module _ (L : Links) where
  -- the moves that station i takes, k i of them for what was merged into it
  abbrev pub used : (ℕ → ℕ) → (ℕ → ℕ) → ℕ → ℕ
  used p k i = k i + L.moves i (p (L.parent i)) (p i)

  -- and its weight
  abbrev pub weighs : Table → (ℕ → ℕ) → (ℕ → ℕ) → ℕ → ℕ
  weighs t p k i = t i (p i) (k i) + L.weight i (p (L.parent i)) (p i)

  pub merge-at : (t : Table) (v a k : ℕ) → merge L t v (L.parent v) a k ≡ joined L t v a k
  unfolding merge
  merge-at t v a k = simp (eq-eqb (L.parent v) (L.parent v) refl)

  pub merge-other : (t : Table) (v u a k : ℕ) → (u ≡ L.parent v → ⊥) → merge L t v u a k ≡ t u a k
  unfolding merge
  merge-other t v u a k h = simp (ne_eqb u (L.parent v) h)

  via-ok : (t : Table) (v a j b : ℕ) → L.moves v a b ≤ j → via_place L t v a j b ≡ t v b (j - L.moves v a b) + L.weight v a b
  unfolding via_place
  via-ok t v a j b h = simp (le-leb _ _ h)

  reach-le : (t : Table) (v a b x : ℕ) → b < L.count v → reach L t v a (x + L.moves v a b) ≤ t v b x + L.weight v a b
  unfolding reach
  reach-le t v a b x h =
      let e : x + L.moves v a b - L.moves v a b ≡ x = omega arith in
      omega (
        arith,
        lowest-le L.none (L.count v) (via_place L t v a (x + L.moves v a b)) b h,
        via-ok t v a (x + L.moves v a b) b (omega arith),
        ap (λ (y : ℕ). t v b y) e,
      )

  joined-le : (t : Table) (v a x j : ℕ) → joined L t v a (x + j) ≤ t (L.parent v) a x + reach L t v a j
  unfolding joined
  joined-le t v a x j =
      let e : x + j - j ≡ x = omega arith in
      omega (
        arith,
        lowest-le L.none (suc (x + j)) (λ i. t (L.parent v) a (x + j - i) + reach L t v a i) j (omega arith),
        ap (λ (y : ℕ). t (L.parent v) a y) e,
      )

  module _ (n : ℕ) (R : Rooted L n) where
    -- no choice of places and moves weighs less
    pub lower :
        (v : ℕ) (t : Table) (m : ℕ) (p k : ℕ → ℕ) →
        v ≤ n →
        ((i : ℕ) → i ≤ v → p i < L.count i) →
        sum_to (suc v) (used p k) ≡ m →
        least_in L v t m ≤ sum_to (suc v) (weighs t p k)
    unfolding least_in merged sum_to
    lower zero t m p k l h e =
        let q : k 0 ≡ m = omega (arith, R.moves (p (L.parent 0)) (p 0)) in
        omega (
          arith,
          lowest-le L.none (L.count 0) (λ b. t 0 b m) (p 0) (h 0 (omega arith)),
          ap (λ (x : ℕ). t 0 (p 0) x) q,
        )
    lower (suc x) t m p k l h e =
        omega (
          arith,
          lower x (merge L t v) m p k' (omega arith) (λ i y. h i (omega arith)) (omega (arith, moved)),
          weight,
          reach-le t v (p u) (p v) (k v) (h v (omega arith)),
        )
      where
        v : ℕ
        v = suc x

        u : ℕ
        u = L.parent v

        low : u < suc x
        low = omega (arith, R.earlier x (omega arith))

        j : ℕ
        j = k v + L.moves v (p u) (p v)

        k' : ℕ → ℕ
        k' = put k u (k u + j)

        moved : sum_to (suc x) (used p k') ≡ sum_to (suc x) (used p k) + j
        moved =
            sum_bump (suc x) (used p k) (used p k') u j low
            (λ i y z. omega (arith, put_other k u (k u + j) i z))
            (omega (arith, put_same k u (k u + j)))

        weight : sum_to (suc x) (weighs (merge L t v) p k') ≤ sum_to (suc x) (weighs t p k) + reach L t v (p u) j
        weight =
            sum-bump-le (suc x) (weighs t p k) (weighs (merge L t v) p k') u (reach L t v (p u) j) low
            (λ i y z. omega (arith, merge-other t v i (p i) (k' i) z, ap (t i (p i)) (put_other k u (k u + j) i z)))
            (omega (
              arith,
              merge-at t v (p u) (k' u),
              ap (joined L t v (p u)) (put_same k u (k u + j)),
              joined-le t v (p u) (k u) j,
            ))

  -- places, and moves left for what was merged, that weigh w and take m moves
  pub record Attained (v : ℕ) (t : Table) (m w : ℕ) : Type 0 where
    pub places : ℕ → ℕ
    pub left : ℕ → ℕ
    pub below : (i : ℕ) → i ≤ v → places i < L.count i
    pub spent : sum_to (suc v) (used places left) ≡ m
    pub total : sum_to (suc v) (weighs t places left) ≡ w

  -- a place that a move is left for
  record Through (t : Table) (v a j b : ℕ) : Type 0 where
    pub move : L.moves v a b ≤ j
    pub weight : via_place L t v a j b ≡ t v b (j - L.moves v a b) + L.weight v a b

  via-open : (t : Table) (v a j b : ℕ) → via_place L t v a j b < L.none → Through t v a j b
  unfolding via_place
  via-open t v a j b h = go (leb (L.moves v a b) j) refl h
    where
      go :
          (s : Bool) →
          leb (L.moves v a b) j ≡ s →
          pick s (t v b (j - L.moves v a b) + L.weight v a b) L.none < L.none →
          Through t v a j b
      go true e l =
          let g : L.moves v a b ≤ j = leb-true _ _ e in
          record { move = g; weight = via-ok t v a j b g }
      go false e l = absurd (omega arith)

  module _ (n : ℕ) (R : Rooted L n) where
    -- a link reads two places that stations 0 to x have
    pub link-agree :
        (f : ℕ → ℕ → ℕ → ℕ) →
        ((a b : ℕ) → f 0 a b ≡ 0) →
        (x : ℕ) (p q : ℕ → ℕ) →
        x ≤ n →
        ((i : ℕ) → i ≤ x → q i ≡ p i) →
        (i : ℕ) →
        i ≤ x →
        f i (q (L.parent i)) (q i) ≡ f i (p (L.parent i)) (p i)
    link-agree f z x p q l h zero y = z _ _ ∙ sym (z _ _)
    link-agree f z x p q l h (suc i) y =
        ap₂ (f (suc i)) (h (L.parent (suc i)) (omega (arith, R.earlier i (omega arith)))) (h (suc i) y)

    module _ (x : ℕ) (t : Table) (m w : ℕ) (l : x < n) (r : Attained x (merge L t (suc x)) m w) (lt : w < L.none) where
      abbrev v : ℕ
      v = suc x

      abbrev u : ℕ
      u = L.parent v

      abbrev p : ℕ → ℕ
      p = r.places

      abbrev k : ℕ → ℕ
      k = r.left

      low : u < suc x
      low = omega (arith, R.earlier x l)

      -- the moves for station v
      J : Hit (suc (k u)) (λ j. t u (p u) (k u - j) + reach L t v (p u) j) (joined L t v (p u) (k u))
      unfolding joined
      J =
          lowest-hit L.none (suc (k u)) (λ j. t u (p u) (k u - j) + reach L t v (p u) j)
          (omega (
            arith,
            lt,
            r.total,
            term-le (suc x) (weighs (merge L t v) p k) u low,
            merge-at t v (p u) (k u),
          ))

      joined-low : joined L t v (p u) (k u) < L.none
      joined-low =
          omega (
            arith,
            lt,
            r.total,
            term-le (suc x) (weighs (merge L t v) p k) u low,
            merge-at t v (p u) (k u),
          )

      abbrev j : ℕ
      j = J.place

      -- and its place
      B : Hit (L.count v) (via_place L t v (p u) j) (reach L t v (p u) j)
      unfolding reach
      B = lowest-hit L.none (L.count v) (via_place L t v (p u) j) (omega (arith, joined-low, J.has))

      abbrev b : ℕ
      b = B.place

      W : Through t v (p u) j b
      W = via-open t v (p u) j b (omega (arith, joined-low, J.has, B.has))

      abbrev p' : ℕ → ℕ
      p' = put p v b

      abbrev k'' : ℕ → ℕ
      k'' = put k u (k u - j)

      abbrev k' : ℕ → ℕ
      k' = put k'' v (j - L.moves v (p u) b)

      p-agree : (i : ℕ) → i ≤ x → p' i ≡ p i
      p-agree i h = put_other p v b i (λ e. omega arith)

      k-agree : (i : ℕ) → i < suc x → (i ≡ u → ⊥) → k' i ≡ k i
      k-agree i h z = put_other k'' v _ i (λ e. omega arith) ∙ put_other k u (k u - j) i z

      k-at : k' u ≡ k u - j
      k-at = put_other k'' v _ u (λ e. omega (arith, low)) ∙ put_same k u (k u - j)

      k-new : k' v ≡ j - L.moves v (p u) b
      k-new = put_same k'' v _

      p-new : p' v ≡ b
      p-new = put_same p v b

      moves-agree : (i : ℕ) → i < suc x → L.moves i (p' (L.parent i)) (p' i) ≡ L.moves i (p (L.parent i)) (p i)
      moves-agree i h = link-agree L.moves R.moves x p p' (omega arith) p-agree i (omega arith)

      weight-agree : (i : ℕ) → i < suc x → L.weight i (p' (L.parent i)) (p' i) ≡ L.weight i (p (L.parent i)) (p i)
      weight-agree i h = link-agree L.weight R.weight x p p' (omega arith) p-agree i (omega arith)

      spent-rest : sum_to (suc x) (used p k) ≡ sum_to (suc x) (used p' k') + j
      spent-rest =
          sum_bump (suc x) (used p' k') (used p k) u j low
          (λ i h z. omega (arith, k-agree i h z, moves-agree i h))
          (omega (arith, k-at, moves-agree u low, J.low))

      total-rest : sum_to (suc x) (weighs (merge L t v) p k) ≡ sum_to (suc x) (weighs t p' k') + reach L t v (p u) j
      total-rest =
          sum_bump (suc x) (weighs t p' k') (weighs (merge L t v) p k) u (reach L t v (p u) j) low
          (λ i h z. omega (arith, merge-other t v i (p i) (k i) z, ap₂ (t i) (p-agree i (omega arith)) (k-agree i h z), weight-agree i h))
          (omega (
            arith,
            merge-at t v (p u) (k u),
            J.has,
            ap₂ (t u) (p-agree u (omega (arith, low))) k-at,
            weight-agree u low,
          ))

      below_new : (i : ℕ) → i ≤ v → p' i < L.count i
      below_new i h =
          ⊎_elim (λ (e : i ≡ v). subst (λ (y : ℕ). p' y < L.count y) (sym e) (omega (arith, p-new, B.low)))
          (λ (y : i < v). omega (arith, p-agree i (omega arith), r.below i (omega arith)))
          (eq-or-lt_of_le h)

      pub attained-step : Attained (suc x) t m w
      unfolding sum_to
      attained-step =
          record {
            places = p';
            left = k';
            below = below_new;
            spent =
                omega (
                  arith,
                  spent-rest,
                  r.spent,
                  k-new,
                  ap₂ (L.moves v) (p-agree u (omega (arith, low))) p-new,
                  W.move,
                );
            total =
                omega (
                  arith,
                  total-rest,
                  r.total,
                  ap₂ (t v) p-new k-new,
                  ap₂ (L.weight v) (p-agree u (omega (arith, low))) p-new,
                  W.weight,
                  B.has,
                );
          }

    first-attained : (t : Table) (m : ℕ) → lowest L.none (L.count 0) (λ b. t 0 b m) < L.none → Attained 0 t m (lowest L.none (L.count 0) (λ b. t 0 b m))
    unfolding sum_to
    first-attained t m h =
        let H : Hit (L.count 0) (λ b. t 0 b m) (lowest L.none (L.count 0) (λ b. t 0 b m)) = lowest-hit L.none (L.count 0) (λ b. t 0 b m) h in
        record {
          places = λ i. H.place;
          left = λ i. m;
          below = λ i y. let e : 0 ≡ i = omega arith in subst (λ (y : ℕ). H.place < L.count y) e H.low;
          spent = omega (arith, R.moves H.place H.place);
          total = omega (arith, R.weight H.place H.place, H.has);
        }

    -- the least weight is some choice's
    pub attained : (v : ℕ) (t : Table) (m : ℕ) → v ≤ n → least_in L v t m < L.none → Attained v t m (least_in L v t m)
    unfolding least_in merged
    attained zero t m l h = first-attained t m h
    attained (suc x) t m l h = attained-step x t m _ (omega arith) (attained x (merge L t (suc x)) m (omega arith) h) h

    -- the same places, given otherwise
    pub attained-agree :
        (v : ℕ) (t : Table) (m w : ℕ) →
        v ≤ n →
        (r : Attained v t m w) (q : ℕ → ℕ) →
        ((i : ℕ) → i ≤ v → q i ≡ r.places i) →
        (sum_to (suc v) (used q r.left) ≡ m) × (sum_to (suc v) (weighs t q r.left) ≡ w)
    attained-agree v t m w l r q h = (
      sum-agree (suc v) (used q r.left) (used r.places r.left)
          (λ i y. ap (λ (z : ℕ). r.left i + z) (link-agree L.moves R.moves v r.places q l h i (omega arith)))
          ∙ r.spent,
      sum-agree (suc v) (weighs t q r.left) (weighs t r.places r.left)
          (λ i y.
          ap₂ ◌+◌ (ap (λ (z : ℕ). t i z (r.left i)) (h i (omega arith)))
          (link-agree L.weight R.weight v r.places q l h i (omega arith)))
          ∙ r.total,
    )
