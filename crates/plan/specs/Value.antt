-- The least cost of the stations from i on, and the plan that has it, as the planner computes them. Assumes nothing.
use Rattle.std.specs.Prelude.{ℕ, zero, suc, ◌+◌, ◌*◌, ◌-◌, ◌^◌, min, Bool, true, false, List, [], ◌∷◌, leb, ltb}
use Rattle.plan.specs.Net.{Net, Coming, still, after}

-- more than any plan costs: stands for no plan
abbrev pub far : ℕ
far = 2 ^ 60

abbrev pub pick : Bool → ℕ → ℕ → ℕ
pick true a b = a
pick false a b = b

-- the least of f below n, or `far`
unfoldable pub least_of : ℕ → (ℕ → ℕ) → ℕ
least_of zero f = far
least_of (suc n) f = min (least_of n f) (f n)

-- and the smallest place that has it
unfoldable pub place_of : ℕ → (ℕ → ℕ) → ℕ
place_of zero f = 0
place_of (suc n) f = pick (ltb (f n) (least_of n f)) n (place_of n f)

-- the cost from place b of a station on, where `rest b` is the cost after it, or `far` where b breaks a limit
unfoldable pub through : ℕ → ℕ → (ℕ → ℕ) → Coming → (ℕ → ℕ) → ℕ → ℕ
through cells m size from rest b =
    pick (leb (size b) cells) (pick (leb (from.moves b) m) (size b + from.moves b * from.price b + rest b) far) far

-- the least cost of the k stations from station i on, with m moves left
unfoldable pub value_of : Net → ℕ → ℕ → ℕ → Coming → ℕ
value_of N zero i m from = 0
value_of N (suc k) i m from =
    least_of (N.count i) (through N.cells m (N.size i) from (λ b. value_of N k (i + 1) (m - from.moves b) (after N i b)))

-- the smallest place of station i that has it
abbrev pub choice : Net → ℕ → ℕ → ℕ → Coming → ℕ
choice N k i m from =
    place_of (N.count i) (through N.cells m (N.size i) from (λ b. value_of N k (i + 1) (m - from.moves b) (after N i b)))

-- the plan: at each station the smallest place that has the least cost
unfoldable pub plan_of : Net → ℕ → ℕ → ℕ → Coming → List ℕ
plan_of N zero i m from = []
plan_of N (suc k) i m from =
    choice N k i m from
    ∷ plan_of N k (i + 1) (m - from.moves (choice N k i m from)) (after N i (choice N k i m from))

-- of the whole route
abbrev pub least_cost : Net → ℕ → ℕ
least_cost N moves = value_of N N.stations 0 moves still

abbrev pub best_plan : Net → ℕ → List ℕ
best_plan N moves = plan_of N N.stations 0 moves still

-- a plan keeps both limits
abbrev pub has_plan : Net → ℕ → Bool
has_plan N moves = ltb (least_cost N moves) far
