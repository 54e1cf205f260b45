-- The planner's answer: the best plan and its cost with zeros in the unused places, or none where no plan is admitted. Assumes nothing.
use Rattle.std.specs.Prelude.{ℕ, ◌-◌, cond, Option, Some, None, List, ◌++◌, replicate}
use Rattle.plan.specs.Net.{Net}
use Rattle.plan.specs.Value.{least_cost, best_plan, has_plan}
use Rattle.plan.specs.declared.Plan.{Plan}

-- the most stations
abbrev pub max_stations : ℕ
max_stations = 64

-- a plan's places, and 0 in the unused ones
abbrev pub spread : ℕ → List ℕ → List ℕ
spread n p = p ++ replicate (max_stations - n) 0

unfoldable pub plan_answer : Net → ℕ → Option Plan
plan_answer N moves =
    cond (has_plan N moves)
    (Some (record { places = spread N.stations (best_plan N moves); total = least_cost N moves }))
    None
