-- The recursive definition gives the best plan: the induction over the stations. Assumes nothing.
use Prim.Native.Nat.{ℕ, zero, suc, ◌+◌, ◌*◌, ◌-◌, ◌≤◌, ◌<◌, min}
use mathlib.Core.Path.{◌≡◌, refl, sym, ap, subst, ◌∙◌}
use mathlib.Core.Logic.{◌⊎◌, inl, inr, ⊎_elim}
use mathlib.Core.Bool.{Bool, true, false}
use mathlib.Core.List.{List, [], ◌∷◌}
use native.Mathlib.Omega.{arith}
use native.Mathlib.Nat.{eq-or-lt_of_le}
use native.Mathlib.Decide.{dec_lt}
use borrow.Author.Tests.{ltb-true, ltb-false, leb-true, le-leb}
use lib.Dec.{leb, ltb}
use Rattle.plan.specs.Net.{Net, Coming, still, after, Keeps, moves_of, cost_of, Before, Admitted, Best}
use Rattle.plan.specs.Value.{far, pick, least_of, place_of, through, value_of, choice, plan_of, least_cost, best_plan}
use Rattle.plan.proofs.Bounds.{Small, cost-190}

-- The least of a function below n.
pub least-cap : (n : ℕ) (f : ℕ → ℕ) → least_of n f ≤ far
unfolding least_of
least-cap zero f = omega arith
least-cap (suc n) f = omega (arith, least-cap n f)

pub least-le : (n : ℕ) (f : ℕ → ℕ) (k : ℕ) → k < n → least_of n f ≤ f k
unfolding least_of
least-le zero f k h = omega arith
least-le (suc n) f k h =
    ⊎_elim (λ (e : k ≡ n). omega (arith, ap f e)) (λ (l : k < n). omega (arith, least-le n f k l))
    (eq-or-lt_of_le (omega arith))

-- What is known of the place that has the least.
pub record First (n : ℕ) (f : ℕ → ℕ) (v a : ℕ) : Type 0 where
  pub hit : v < far → (a < n) × (f a ≡ v)
  pub first : (k : ℕ) → k < a → v < f k

first_of : (n : ℕ) (f : ℕ → ℕ) → First n f (least_of n f) (place_of n f)
unfolding least_of place_of
first_of zero f = record { hit = λ h. absurd (omega arith); first = λ k h. absurd (omega arith) }
first_of (suc n) f = go (first_of n f) (ltb (f n) (least_of n f)) refl
  where
    go :
        First n f (least_of n f) (place_of n f) →
        (t : Bool) →
        ltb (f n) (least_of n f) ≡ t →
        First (suc n) f (min (least_of n f) (f n)) (pick t n (place_of n f))
    go r true e =
        let l : f n < least_of n f = ltb-true _ _ e in
        record {
          hit = λ h. (omega arith, omega arith);
          first = λ k h. omega (arith, least-le n f k h);
        }
    go r false e =
        let l : least_of n f ≤ f n = ltb-false _ _ e in
        record {
          hit =
              λ h.
              let w : (place_of n f < n) × (f (place_of n f) ≡ least_of n f) = r.hit (omega arith) in
              (omega arith, omega arith);
          first = λ k h. omega (arith, r.first k h);
        }

-- The cost through a place.
pub through-ok :
    (cells m : ℕ) (size : ℕ → ℕ) (from : Coming) (rest : ℕ → ℕ) (b : ℕ) →
    size b ≤ cells →
    from.moves b ≤ m →
    through cells m size from rest b ≡ size b + from.moves b * from.price b + rest b
unfolding through
through-ok cells m size from rest b s w = simp (le-leb _ _ s, le-leb _ _ w)

pub record Open (cells m : ℕ) (size : ℕ → ℕ) (from : Coming) (rest : ℕ → ℕ) (b : ℕ) : Type 0 where
  pub fits : size b ≤ cells
  pub move : from.moves b ≤ m
  pub cost : through cells m size from rest b ≡ size b + from.moves b * from.price b + rest b

pub through-open :
    (cells m : ℕ) (size : ℕ → ℕ) (from : Coming) (rest : ℕ → ℕ) (b : ℕ) → through cells m size from rest b < far → Open cells m size from rest b
unfolding through
through-open cells m size from rest b h = go (leb (size b) cells) refl (leb (from.moves b) m) refl h
  where
    go :
        (s : Bool) →
        leb (size b) cells ≡ s →
        (t : Bool) →
        leb (from.moves b) m ≡ t →
        pick s (pick t (size b + from.moves b * from.price b + rest b) far) far < far →
        Open cells m size from rest b
    go true es true et l =
        let hs : size b ≤ cells = leb-true _ _ es in
        let ht : from.moves b ≤ m = leb-true _ _ et in
        record { fits = hs; move = ht; cost = through-ok cells m size from rest b hs ht }
    go true es false et l = absurd (omega arith)
    go false es t et l = absurd (omega arith)

compared : (a b : ℕ) → (a < b) ⊎ ((a ≡ b) ⊎ (b < a))
compared a b = elim (dec_lt a b) [ yes l ↦ inl l | no n ↦ inr (elim (dec_lt b a) [ yes g ↦ inr g | no m ↦ inl (omega arith) ]) ]

-- The plan p for the k stations from station i on, with m moves left: within both limits, of cost v, and the best of them.
pub record BestFrom (N : Net) (k i m : ℕ) (from : Coming) (v : ℕ) (p : List ℕ) : Type 0 where
  pub keeps : Keeps N k i p
  pub within : moves_of N i from p ≤ m
  pub total : cost_of N i from p ≡ v
  pub least : (q : List ℕ) → Keeps N k i q → moves_of N i from q ≤ m → v ≤ cost_of N i from q
  pub first : (q : List ℕ) → Keeps N k i q → moves_of N i from q ≤ m → cost_of N i from q ≡ v → (q ≡ p) ⊎ Before p q

module _ (N : Net) where
  -- The cost from each place of station i on, with m moves left before it.
  abbrev pub rest : ℕ → ℕ → ℕ → Coming → ℕ → ℕ
  rest k i m from b = value_of N k (i + 1) (m - from.moves b) (after N i b)

  pub value-le :
      (k i m : ℕ) (from : Coming) (p : List ℕ) → Keeps N k i p → moves_of N i from p ≤ m → value_of N k i m from ≤ cost_of N i from p
  unfolding Keeps moves_of cost_of value_of
  value-le zero i m from p h w = omega arith
  value-le (suc k) i m from [] h w = absurd h
  value-le (suc k) i m from (b ∷ p) h w =
      omega (
        arith,
        least-le (N.count i) (through N.cells m (N.size i) from (rest k i m from)) b h.0,
        through-ok N.cells m (N.size i) from (rest k i m from) b h.1 (omega arith),
        value-le k (i + 1) (m - from.moves b) (after N i b) p h.2 (omega arith),
      )

  -- One station more: from the best plan from the chosen place on to the best plan.
  pub best-step :
      (k i m : ℕ) (from : Coming) (v a : ℕ) (p : List ℕ) →
      First (N.count i) (through N.cells m (N.size i) from (rest k i m from)) v a →
      v ≡ value_of N (suc k) i m from →
      v < far →
      BestFrom N k (i + 1) (m - from.moves a) (after N i a) (rest k i m from a) p →
      BestFrom N (suc k) i m from v (a ∷ p)
  unfolding Keeps moves_of cost_of Before
  best-step k i m from v a p f e l r =
      record {
        keeps = (hit.0, way.fits, r.keeps);
        within = omega (arith, r.within, way.move);
        total = omega (arith, r.total, way.cost, hit.1);
        least = λ q h w. omega (arith, value-le (suc k) i m from q h w);
        first = tie;
      }
    where
      hit : (a < N.count i) × (through N.cells m (N.size i) from (rest k i m from) a ≡ v)
      hit = f.hit l

      way : Open N.cells m (N.size i) from (rest k i m from) a
      way = through-open N.cells m (N.size i) from (rest k i m from) a (omega (arith, hit.1))

      -- the same place, so the rest decides
      same :
          (b : ℕ) (q : List ℕ) →
          a ≡ b →
          (b < N.count i) × (N.size i b ≤ N.cells) × Keeps N k (i + 1) q →
          from.moves b + moves_of N (i + 1) (after N i b) q ≤ m →
          N.size i b + from.moves b * from.price b + cost_of N (i + 1) (after N i b) q ≡ v →
          (b ∷ q ≡ a ∷ p) ⊎ Before (a ∷ p) (b ∷ q)
      same b q eq =
          subst
          (λ (x : ℕ).
          (x < N.count i) × (N.size i x ≤ N.cells) × Keeps N k (i + 1) q →
          from.moves x + moves_of N (i + 1) (after N i x) q ≤ m →
          N.size i x + from.moves x * from.price x + cost_of N (i + 1) (after N i x) q ≡ v →
          (x ∷ q ≡ a ∷ p) ⊎ Before (a ∷ p) (x ∷ q))
          eq
          (λ h w c.
          ⊎_elim (λ (e : q ≡ p). inl (ap (λ (l : List ℕ). a ∷ l) e)) (λ b. inr (inr (refl, b)))
          (r.first q h.2 (omega arith) (omega (arith, way.cost, hit.1))))

      tie :
          (q : List ℕ) →
          Keeps N (suc k) i q →
          moves_of N i from q ≤ m →
          cost_of N i from q ≡ v →
          (q ≡ a ∷ p) ⊎ Before (a ∷ p) q
      tie [] h w c = absurd h
      tie (b ∷ q) h w c =
          ⊎_elim (λ (lt : a < b). inr (inl lt))
          (⊎_elim
          (λ (eq : a ≡ b). same b q eq h w c)
          (λ (gt : b < a).
          absurd
          (omega (
            arith,
            f.first b gt,
            through-ok N.cells m (N.size i) from (rest k i m from) b h.1 (omega arith),
            value-le k (i + 1) (m - from.moves b) (after N i b) q h.2 (omega arith),
          ))))
          (compared a b)

  pub value-best :
      (k i m : ℕ) (from : Coming) → value_of N k i m from < far → BestFrom N k i m from (value_of N k i m from) (plan_of N k i m from)
  unfolding Keeps moves_of cost_of Before value_of plan_of
  value-best zero i m from l =
      record {
        keeps = tt;
        within = omega arith;
        total = refl;
        least = λ q h w. omega arith;
        first = elim [ [] ↦ λ h w c. inl refl | b ∷ q ↦ λ h w c. absurd h ];
      }
  value-best (suc k) i m from l =
      best-step k i m from _ _ _ f refl l (value-best k (i + 1) (m - from.moves a) (after N i a) (omega (arith, w.cost, hit.1)))
    where
      a : ℕ
      a = choice N k i m from

      f : First (N.count i) (through N.cells m (N.size i) from (rest k i m from)) (value_of N (suc k) i m from) a
      f = first_of (N.count i) (through N.cells m (N.size i) from (rest k i m from))

      hit : (a < N.count i) × (through N.cells m (N.size i) from (rest k i m from) a ≡ value_of N (suc k) i m from)
      hit = f.hit l

      w : Open N.cells m (N.size i) from (rest k i m from) a
      w = through-open N.cells m (N.size i) from (rest k i m from) a (omega (arith, hit.1))

-- Where the least cost is `far`, no plan is admitted.
pub none-admitted :
    (N : Net) (moves : ℕ) → Small N → N.stations ≤ 64 → far ≤ least_cost N moves → (p : List ℕ) → Admitted N moves p → ⊥
none-admitted N moves s n v p a =
    omega (
      arith,
      value-le N N.stations 0 moves still p a.keeps a.within,
      cost-190 N s n moves p a,
    )

-- Where it is below, the plan is the best, and it is its cost.
pub found : (N : Net) (moves : ℕ) → least_cost N moves < far → Best N moves (least_cost N moves) (best_plan N moves)
found N moves l =
    record {
      admitted = record { keeps = r.keeps; within = r.within };
      total = sym r.total;
      least = λ q a. omega (arith, r.total, r.least q a.keeps a.within);
      first = λ q a e. r.first q a.keeps a.within (e ∙ r.total);
    }
  where
    r : BestFrom N N.stations 0 moves still (least_cost N moves) (best_plan N moves)
    r = value-best N N.stations 0 moves still l
