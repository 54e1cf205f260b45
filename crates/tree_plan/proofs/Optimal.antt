-- The least weight gives the best plan over the tree. Assumes nothing.
use Prim.Native.Nat.{ℕ, suc, ◌+◌, ◌*◌, ◌-◌, ◌/◌, ◌^◌, ◌≤◌, ◌<◌}
use mathlib.Core.Path.{◌≡◌, refl, sym, ap, subst, ◌∙◌}
use mathlib.Core.Bool.{Bool, true, false}
use mathlib.Core.List.{List}
use lib.ListN.{length}
use lib.Dec.{leb}
use native.Mathlib.Omega.{arith}
use native.Mathlib.Numerals.{add-one}
use native.Mathlib.Decide.{dec_lt}
use native.Mathlib.Nat.{add-mul, zero-mul, mul-le-mul_right}
use borrow.Author.Tests.{leb-true, le-leb}
use Rattle.radix.specs.Radix.{tab}
use Rattle.radix.proofs.Radix.{length-tab, get_d-tab, is-tab}
use Rattle.plan.specs.Value.{pick}
use Rattle.plan.proofs.Order.{one-least}
use Rattle.tree_plan.specs.Tree.{Tree, Earlier, Formed, sum_to, at, link_moves, link_cost, plan_moves, plan_cost, Admitted, Best}
use Rattle.tree_plan.specs.Merge.{least_in}
use Rattle.tree_plan.specs.Weight.{scale, unit, far_weight, weight_of, weighed, own, least_weight, place_in, best_plan, least_cost}
use Rattle.tree_plan.proofs.Sums.{sum-agree, sum-add, sum-scale, sum_same, sum_bump, term-le}
use Rattle.tree_plan.proofs.Lowest.{put, put_same, put_other}
use Rattle.tree_plan.proofs.Bounds.{Small, cost-190}
use Rattle.tree_plan.proofs.Merging.{Rooted, used, weighs, lower, Attained, attained, attained-agree}
use Rattle.tree_plan.proofs.Digits.{num_from, sum_number, number-first, digits_low, digits-place, digits-cost}

own-ok : (T : Tree) (i b k : ℕ) → T.size i b ≤ T.cells → own T i b k ≡ T.size i b * scale + b * unit i
unfolding own
own-ok T i b k h = simp (le-leb _ _ h)

own-fits : (T : Tree) (i b k : ℕ) → own T i b k < far_weight → T.size i b ≤ T.cells
unfolding own
own-fits T i b k h = go (leb (T.size i b) T.cells) refl h
  where
    go :
        (s : Bool) →
        leb (T.size i b) T.cells ≡ s →
        pick s (T.size i b * scale + b * unit i) far_weight < far_weight →
        T.size i b ≤ T.cells
    go true e l = leb-true _ _ e
    go false e l = absurd (omega arith)

-- the lesser cost, of two weights
cost-le : (c d x y : ℕ) → y < scale → c * scale + x ≤ d * scale + y → c ≤ d
cost-le c d x y l h =
    elim (dec_lt d c) [
      | yes g ↦
          let le : (d + 1) * scale ≤ c * scale = mul-le-mul_right scale (omega arith) in
          absurd (omega (arith, add-mul d 1 scale))
      | no g ↦ omega arith
    ]

module _ (T : Tree) (F : Formed T) where
  abbrev last : ℕ
  last = T.stations - 1

  up : suc last ≡ T.stations
  up = omega (arith, F.some)

  rooted : Rooted (weighed T) last
  unfolding Earlier
  rooted =
      record {
        moves = λ a b. refl;
        weight = λ a b. simp zero-mul;
        earlier = λ i h. let e : suc i < T.stations = omega (arith, F.some) in go i e;
      }
    where
      go : (i : ℕ) → suc i < T.stations → T.parent (suc i) ≤ i
      go i e = omega (arith, rw add-one at (F.earlier i (omega arith)))

  -- a plan's weight, station by station
  weight-sum :
      (p : List ℕ) (k : ℕ → ℕ) →
      ((i : ℕ) → i < T.stations → T.size i (at p i) ≤ T.cells) →
      sum_to T.stations (weighs (weighed T) (own T) (at p) k) ≡ weight_of T p
  unfolding weight_of plan_cost
  weight-sum p k h =
      sum-agree T.stations (weighs (weighed T) (own T) (at p) k)
      (λ i. (T.size i (at p i) + link_cost T i (at p (T.parent i)) (at p i)) * scale + at p i * unit i)
      (λ i l.
      omega (
        arith,
        own-ok T i (at p i) (k i) (h i l),
        add-mul (T.size i (at p i)) (link_cost T i (at p (T.parent i)) (at p i)) scale,
      ))
      ∙ sum-add T.stations
      (λ i. (T.size i (at p i) + link_cost T i (at p (T.parent i)) (at p i)) * scale)
      (λ i. at p i * unit i)
      ∙ ap (λ (x : ℕ). x + sum_to T.stations (λ i. at p i * unit i))
      (sum-scale T.stations (λ i. T.size i (at p i) + link_cost T i (at p (T.parent i)) (at p i)) scale)

  -- its moves
  moves-sum : (p : List ℕ) (k : ℕ → ℕ) → sum_to T.stations (used (weighed T) (at p) k) ≡ sum_to T.stations k + plan_moves T p
  unfolding plan_moves
  moves-sum p k = sum-add T.stations k (λ i. link_moves T i (at p (T.parent i)) (at p i))

  -- and its digits
  weight_is : (p : List ℕ) → length p ≡ T.stations → weight_of T p ≡ plan_cost T p * scale + num_from 0 p
  unfolding weight_of
  weight_is p e =
      ap (λ (x : ℕ). plan_cost T p * scale + x)
      (ap (λ (n : ℕ). sum_to n (λ i. at p i * unit i)) (sym e)
      ∙ sum-agree (length p) (λ i. at p i * unit i) (λ i. at p i * unit (0 + i))
      (λ i l. let z : i ≡ 0 + i = omega arith in ap (λ (x : ℕ). at p i * unit x) z)
      ∙ sum_number 0 p)

  module _ (m : ℕ) where
    -- no admitted plan weighs less
    weight-le : (p : List ℕ) → Admitted T m p → least_weight T m ≤ weight_of T p
    unfolding least_weight
    weight-le p a =
        subst (λ (x : ℕ). least_in (weighed T) last (own T) m ≤ x)
        (ap (λ (n : ℕ). sum_to n (weighs (weighed T) (own T) (at p) k)) up ∙ weight-sum p k a.fits)
        (lower (weighed T) last rooted last (own T) m (at p) k (omega arith) (λ i l. a.below i (omega (arith, F.some)))
        (ap (λ (n : ℕ). sum_to n (used (weighed T) (at p) k)) up
        ∙ moves-sum p k
        ∙ omega (arith, spare, a.within)))
      where
        k : ℕ → ℕ
        k = put (λ i. 0) 0 (m - plan_moves T p)

        spare : sum_to T.stations k ≡ m - plan_moves T p
        spare =
            omega (
              arith,
              sum_bump T.stations (λ i. 0) k 0 (m - plan_moves T p) (omega (arith, F.some))
                  (λ i l z. put_other (λ x. 0) 0 (m - plan_moves T p) i z)
                  (omega (arith, put_same (λ x. 0) 0 (m - plan_moves T p))),
              sum_same T.stations 0,
            )

    below-eight : (p : List ℕ) → Admitted T m p → (i : ℕ) → i < length p → at p i < 8
    below-eight p a i l = omega (arith, a.long, a.below i (omega (arith, a.long)), F.places i (omega (arith, a.long)))

    -- the plan that has the least weight
    record Having (w : ℕ) : Type 0 where
      pub plan : List ℕ
      pub admitted : Admitted T m plan
      pub weight : weight_of T plan ≡ w

    having : (w : ℕ) → w < far_weight → Attained (weighed T) last (own T) m w → Having w
    having w h r =
        record {
          plan = p;
          admitted =
              record {
                long = length-tab r.places T.stations;
                below = λ i l. omega (arith, at-is i l, r.below i (omega arith));
                fits = fits;
                within = omega (arith, moves-sum p r.left, spent);
              };
          weight = sym (weight-sum p r.left fits) ∙ total;
        }
      where
        p : List ℕ
        p = tab r.places T.stations

        at-is : (i : ℕ) → i < T.stations → at p i ≡ r.places i
        at-is i l = get_d-tab r.places T.stations i 0 l

        both :
            (sum_to (suc last) (used (weighed T) (at p) r.left) ≡ m)
            × (sum_to (suc last) (weighs (weighed T) (own T) (at p) r.left) ≡ w)
        both = attained-agree (weighed T) last rooted last (own T) m w (omega arith) r (at p) (λ i l. at-is i (omega (arith, F.some)))

        spent : sum_to T.stations (used (weighed T) (at p) r.left) ≡ m
        spent = ap (λ (n : ℕ). sum_to n (used (weighed T) (at p) r.left)) (sym up) ∙ both.0

        total : sum_to T.stations (weighs (weighed T) (own T) (at p) r.left) ≡ w
        total = ap (λ (n : ℕ). sum_to n (weighs (weighed T) (own T) (at p) r.left)) (sym up) ∙ both.1

        fits : (i : ℕ) → i < T.stations → T.size i (at p i) ≤ T.cells
        fits i l =
            own-fits T i (at p i) (r.left i)
            (omega (arith, term-le T.stations (weighs (weighed T) (own T) (at p) r.left) i l, total, h))

    -- the digits of its weight are its places
    plan-is : (w : ℕ) (r : Having w) → r.plan ≡ tab (place_in w) T.stations
    plan-is w r =
        is-tab (place_in w) r.plan T.stations r.admitted.long
        (λ i l.
        sym
        (digits-place r.plan (omega (arith, r.admitted.long, F.few)) (below-eight r.plan r.admitted) (plan_cost T r.plan) w
        (sym r.weight ∙ weight_is r.plan r.admitted.long)
        i
        (omega (arith, r.admitted.long))))

    best_of : (w : ℕ) → w ≡ least_weight T m → (r : Having w) → Best T m (w / scale) r.plan
    best_of w e r =
        record {
          admitted = r.admitted;
          total = digits-cost p (long p r.admitted) (below-eight p r.admitted) (plan_cost T p) w (sym r.weight ∙ weight_is p r.admitted.long);
          least = λ q a. cost-le (plan_cost T p) (plan_cost T q) (num_from 0 p) (num_from 0 q) (digits_low q (long q a) (below-eight q a)) (order q a);
          first =
              λ q a c.
              number-first 0 p q (r.admitted.long ∙ sym a.long) (omega (arith, long p r.admitted)) (below-eight q a)
              (omega (arith, order q a, ap (λ (x : ℕ). x * scale) c));
        }
      where
        p : List ℕ
        p = r.plan

        long : (q : List ℕ) → Admitted T m q → length q ≤ 64
        long q a = omega (arith, a.long, F.few)

        order : (q : List ℕ) → Admitted T m q → plan_cost T p * scale + num_from 0 p ≤ plan_cost T q * scale + num_from 0 q
        order q a =
            omega (arith, weight_is p r.admitted.long, weight_is q a.long, r.weight, e, weight-le q a)

    -- Where the least weight is below `far_weight`, the plan is the best one, and the least cost is its cost.
    pub found : least_weight T m < far_weight → Best T m (least_cost T m) (best_plan T m)
    unfolding least_weight
    found h =
        let r : Having (least_weight T m) = having (least_weight T m) h (attained (weighed T) last rooted last (own T) m (omega arith) h) in
        subst (λ (p : List ℕ). Best T m (least_cost T m) p) (plan-is (least_weight T m) r) (best_of (least_weight T m) refl r)

module _ (T : Tree) (F : Formed T) (S : Small T) (m : ℕ) (p : List ℕ) (a : Admitted T m p) where
  -- Where it is not, no plan is admitted.
  pub none-admitted : far_weight ≤ least_weight T m → ⊥
  unfolding far_weight
  none-admitted h =
      let le : (plan_cost T p + 1) * scale ≤ 2 ^ 57 * scale = mul-le-mul_right scale (omega (arith, cost-190 T F S m p a)) in
      omega (
        arith,
        weight-le T F m p a,
        weight_is T F p a.long,
        digits_low p (omega (arith, a.long, F.few)) (below-eight T F m p a),
        add-mul (plan_cost T p) 1 scale,
      )

-- The best plan is the only one, and so is its total.
pub only-best : (T : Tree) (m v w : ℕ) (p q : List ℕ) → Best T m v p → Best T m w q → (p ≡ q) × (v ≡ w)
only-best T m v w p q r s = (same, r.total ∙ ap (plan_cost T) same ∙ sym s.total)
  where
    same : p ≡ q
    same =
        one-least (Admitted T m) (plan_cost T) p q
        (record { held = r.admitted; least = r.least; first = r.first })
        (record { held = s.admitted; least = s.least; first = s.first })
