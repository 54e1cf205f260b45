-- The theorems of the planner over a tree: its answer is the best plan or there is none, there is one best plan only,
-- and on a tree without forks it is the plan of the stations in a row. Assumes nothing.
use Prim.Native.Nat.{ℕ, ◌+◌, ◌*◌, ◌^◌, ◌≤◌, ◌<◌}
use mathlib.Core.Path.{◌≡◌}
use mathlib.Core.List.{List}
use Rattle.plan.specs.Answer.{plan_answer}
use Rattle.tree_plan.specs.Tree.{Tree, Formed, plan_moves, plan_cost, Admitted, Best}
use Rattle.tree_plan.specs.Weight.{far_weight, least_weight, best_plan, least_cost}
use Rattle.tree_plan.specs.Answer.{tree_answer, Unforked, in_row}
use Rattle.tree_plan.proofs.Bounds.{Small, cost-most, cost-190}
use Rattle.tree_plan.proofs.Optimal.{found, none-admitted, only-best}
use Rattle.tree_plan.proofs.Chain.{same_answer}

-- Where the least weight is below `far_weight`, the plan is the best one, and the least cost is its cost.
pub best-found : (T : Tree) → Formed T → (m : ℕ) → least_weight T m < far_weight → Best T m (least_cost T m) (best_plan T m)
best-found = found

-- Where it is not, no plan is admitted.
pub none_found :
    (T : Tree) → Formed T → Small T → (m : ℕ) → far_weight ≤ least_weight T m → (p : List ℕ) → Admitted T m p → ⊥
none_found T F S m h p a = none-admitted T F S m p a h

-- The best plan is the only one, and so is its total.
pub best-one : (T : Tree) (m v w : ℕ) (p q : List ℕ) → Best T m v p → Best T m w q → (p ≡ q) × (v ≡ w)
best-one = only-best

-- A plan costs at most the cell limit for each station, and twice the cell limit for each move.
pub cost-bound :
    (T : Tree) →
    Formed T →
    (m : ℕ) (p : List ℕ) →
    Admitted T m p →
    plan_cost T p ≤ T.stations * T.cells + plan_moves T p * (2 * T.cells)
cost-bound = cost-most

-- So it costs at most 190 * 2^40: 2^40 for each of 64 stations, twice that for each of 63 moves.
pub cost-at-most : (T : Tree) → Formed T → Small T → (m : ℕ) (p : List ℕ) → Admitted T m p → plan_cost T p ≤ 190 * 2 ^ 40
cost-at-most = cost-190

-- On a tree without forks the answer is the old one, of the stations in a row.
pub row-answer : (T : Tree) → Formed T → Unforked T → Small T → (m : ℕ) → tree_answer T m ≡ plan_answer (in_row T) m
row-answer = same_answer
