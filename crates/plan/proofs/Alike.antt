-- Two nets that agree on the stations and places that there are have the same least cost and the same best plan. Assumes nothing.
use Rattle.std.specs.Prelude.{Option, Some, None}
use Prim.Native.Nat.{ℕ, zero, suc, ◌+◌, ◌*◌, ◌-◌, ◌≤◌, ◌<◌}
use mathlib.Core.Path.{◌≡◌, refl, ap, ap₂, ◌∙◌}
use mathlib.Core.Bool.{cond}
use mathlib.Core.List.{List, ◌∷◌}
use native.Mathlib.Omega.{arith}
use lib.Dec.{ltb}
use Rattle.plan.specs.Net.{Net, Coming, price, still, after}
use Rattle.plan.specs.Value.{far, least_of, place_of, through, value_of, choice, plan_of, least_cost, best_plan}
use Rattle.plan.specs.Answer.{spread, plan_answer}
use Rattle.plan.specs.declared.Plan.{Plan}
use Rattle.plan.proofs.Scan.{Same, least-agree, place-agree, through-agree, place-low}
use Rattle.plan.proofs.Optimal.{rest}

pub record Alike (N N' : Net) : Type 0 where
  pub stations : N.stations ≡ N'.stations
  pub cells : N.cells ≡ N'.cells
  pub some : (i : ℕ) → i < N.stations → 0 < N.count i
  pub count : (i : ℕ) → i < N.stations → N.count i ≡ N'.count i
  pub size : (i a : ℕ) → i < N.stations → a < N.count i → N.size i a ≡ N'.size i a
  pub moved : (i a b : ℕ) → i + 1 < N.stations → a < N.count i → b < N.count (i + 1) → N.moved i a b ≡ N'.moved i a b

module _ (N N' : Net) (A : Alike N N') where
  -- coming from a place that there is
  after_same : (i a b : ℕ) → i + 1 < N.stations → a < N.count i → b < N.count (i + 1) → Same (after N i a) (after N' i a) b
  after_same i a b l h g =
      let m = A.moved i a b l h g in
      record { moves = m; paid = ap₂ ◌*◌ m (ap₂ price (A.size i a (omega arith) h) (A.size (i + 1) b l g)) }

  module _ (from from' : Coming) (i : ℕ) (f : (b : ℕ) → i < N.stations → b < N.count i → Same from from' b) where
    -- the cost through a place, where what follows agrees
    through-alike :
        (k m : ℕ) →
        i < N.stations →
        ((b : ℕ) → b < N.count i → (x : ℕ) → value_of N k (i + 1) x (after N i b) ≡ value_of N' k (i + 1) x (after N' i b)) →
        (b : ℕ) →
        b < N.count i →
        through N.cells m (N.size i) from (rest N k i m from) b
        ≡ through N'.cells m (N'.size i) from' (rest N' k i m from') b
    through-alike k m l v b h =
        through-agree N.cells m _ _ _ _ _ _ b (A.size i b l h) (f b l h)
        (v b h _ ∙ ap (λ (x : ℕ). value_of N' k (i + 1) (m - x) (after N' i b)) (f b l h).moves)
        ∙ ap (λ (c : ℕ). through c m (N'.size i) from' (rest N' k i m from') b) A.cells

  value-alike :
      (k i m : ℕ) (from from' : Coming) →
      i + k ≤ N.stations →
      ((b : ℕ) → i < N.stations → b < N.count i → Same from from' b) →
      value_of N k i m from ≡ value_of N' k i m from'
  unfolding value_of
  value-alike zero i m from from' l f = refl
  value-alike (suc k) i m from from' l f =
      least-agree (N.count i) _ _
      (through-alike from from' i f k m (omega arith)
      (λ b h x. value-alike k (i + 1) x (after N i b) (after N' i b) (omega arith) (λ c n g. after_same i b c n h g)))
      ∙ ap (λ (n : ℕ). least_of n (through N'.cells m (N'.size i) from' (rest N' k i m from'))) (A.count i (omega arith))

  plan-alike :
      (k i m : ℕ) (from from' : Coming) →
      i + k ≤ N.stations →
      ((b : ℕ) → i < N.stations → b < N.count i → Same from from' b) →
      plan_of N k i m from ≡ plan_of N' k i m from'
  unfolding plan_of
  plan-alike zero i m from from' l f = refl
  plan-alike (suc k) i m from from' l f =
      ap₂ (λ (x : ℕ) (p : List ℕ). x ∷ p) chosen
      (plan-alike k (i + 1) _ (after N i a) (after N' i a) (omega arith) (λ c n g. after_same i a c n low g)
      ∙ ap (λ (x : ℕ). plan_of N' k (i + 1) (m - x) (after N' i a)) (f a (omega arith) low).moves
      ∙ ap (λ (x : ℕ). plan_of N' k (i + 1) (m - from'.moves x) (after N' i x)) chosen)
    where
      a : ℕ
      a = choice N k i m from

      low : a < N.count i
      low = omega (arith, A.some i (omega arith), place-low (N.count i) (through N.cells m (N.size i) from (rest N k i m from)))

      chosen : a ≡ choice N' k i m from'
      chosen =
          place-agree (N.count i) _ _
          (through-alike from from' i f k m (omega arith)
          (λ b h x. value-alike k (i + 1) x (after N i b) (after N' i b) (omega arith) (λ c n g. after_same i b c n h g)))
          ∙ ap (λ (n : ℕ). place_of n (through N'.cells m (N'.size i) from' (rest N' k i m from'))) (A.count i (omega arith))

  still-same : (b : ℕ) → Same still still b
  still-same b = record { moves = refl; paid = refl }

  pub cost-alike : (moves : ℕ) → least_cost N moves ≡ least_cost N' moves
  cost-alike moves =
      value-alike N.stations 0 moves still still (omega arith) (λ b l h. still-same b)
      ∙ ap (λ (n : ℕ). value_of N' n 0 moves still) A.stations

  pub best-alike : (moves : ℕ) → best_plan N moves ≡ best_plan N' moves
  best-alike moves =
      plan-alike N.stations 0 moves still still (omega arith) (λ b l h. still-same b)
      ∙ ap (λ (n : ℕ). plan_of N' n 0 moves still) A.stations

  pub answer-alike : (moves : ℕ) → plan_answer N moves ≡ plan_answer N' moves
  unfolding plan_answer
  answer-alike moves =
      ap₂
      (λ (c : ℕ) (p : List ℕ). cond {A = Option Plan} (ltb c far) (Some (record { places = p; total = c })) None)
      (cost-alike moves)
      (ap₂ spread A.stations (best-alike moves))
