-- The theorems of the planner: its answer is the best plan, and there is one best plan only. Assumes nothing.
use Prim.Native.Nat.{ℕ, ◌+◌, ◌*◌, ◌^◌, ◌≤◌, ◌<◌}
use mathlib.Core.Path.{◌≡◌, sym, ap, ◌∙◌}
use mathlib.Core.List.{List}
use Rattle.plan.specs.Net.{Net, still, moves_of, plan_cost, Admitted, Best}
use Rattle.plan.specs.Value.{far, least_cost, best_plan}
use Rattle.plan.proofs.Bounds.{Small, cost-most, cost-190}
use Rattle.plan.proofs.Order.{one-least}
use Rattle.plan.proofs.Optimal.{found, none-admitted}

-- Where the least cost is below `far`, the plan is the best one, and the least cost is its cost.
pub best-found : (N : Net) (moves : ℕ) → least_cost N moves < far → Best N moves (least_cost N moves) (best_plan N moves)
best-found = found

-- Where it is not, no plan is admitted.
pub none_found :
    (N : Net) (moves : ℕ) → Small N → N.stations ≤ 64 → far ≤ least_cost N moves → (p : List ℕ) → Admitted N moves p → ⊥
none_found = none-admitted

-- A plan costs at most the cell limit for each station, and twice the cell limit for each move.
pub cost-bound :
    (N : Net) (moves : ℕ) (p : List ℕ) →
    Admitted N moves p →
    plan_cost N p ≤ N.stations * N.cells + moves_of N 0 still p * (2 * N.cells)
cost-bound = cost-most

-- So it costs at most 190 * 2^40, which is below `far`: 2^40 for each of 64 stations, twice that for each of 63 moves.
pub cost-at-most :
    (N : Net) → Small N → N.stations ≤ 64 → (moves : ℕ) (p : List ℕ) → Admitted N moves p → plan_cost N p ≤ 190 * 2 ^ 40
cost-at-most = cost-190

-- The best plan is the only one, and so is its total.
pub best-one : (N : Net) (moves v w : ℕ) (p q : List ℕ) → Best N moves v p → Best N moves w q → (p ≡ q) × (v ≡ w)
best-one N moves v w p q r s = (same, r.total ∙ ap (plan_cost N) same ∙ sym s.total)
  where
    same : p ≡ q
    same =
        one-least (Admitted N moves) (plan_cost N) p q
        (record { held = r.admitted; least = r.least; first = r.first })
        (record { held = s.admitted; least = s.least; first = s.first })
