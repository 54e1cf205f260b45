-- The planner's answer over a tree, and a tree without forks. Assumes nothing.
use Rattle.std.specs.Prelude.{ℕ, suc, ◌<◌, ◌≡◌, cond, Option, Some, None}
use Rattle.plan.specs.Net.{Net}
use Rattle.plan.specs.Answer.{spread}
use Rattle.plan.specs.declared.Plan.{Plan}
use Rattle.tree_plan.specs.Tree.{Tree}
use Rattle.tree_plan.specs.Weight.{least_cost, best_plan, has_plan}

-- the best plan and its cost with zeros in the unused places, or none where no plan is admitted
unfoldable pub tree_answer : Tree → ℕ → Option Plan
tree_answer T moves =
    cond (has_plan T moves)
    (Some (record { places = spread T.stations (best_plan T moves); total = least_cost T moves }))
    None

-- no station is named by two others
unfoldable pub Unforked : Tree → Type 0
Unforked T = (i j : ℕ) → suc i < T.stations → suc j < T.stations → T.parent (suc i) ≡ T.parent (suc j) → i ≡ j

-- its stations in a row
abbrev pub in_row : Tree → Net
in_row T =
    record {
      stations = T.stations;
      count = T.count;
      size = T.size;
      moved = λ i a b. T.moved (suc i) a b;
      cells = T.cells;
    }
