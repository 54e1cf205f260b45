-- The answer before stations could fork: each station but the first follows the one before it. Kept for the theorem on
-- trees without forks. Assumes nothing.
use Rattle.std.specs.Prelude.{ℕ, suc, ◌+◌, ◌<◌, ◌≡◌, true, ◌&&◌, List, [], ◌∷◌, ◌++◌, leb, length}
use Rattle.refusal.specs.Number.{Answer, answered}
use Rattle.refusal.specs.Judge.{Rule, rule, judge}
use Rattle.refusal.specs.declared.Refusal.TheVariants.{ShapeLimits, Attribute, LayoutRule, PaddedSize, ShortBuffer, NoPlan}
use Rattle.shape.specs.Shape.{good_shape}
use Rattle.shape.specs.declared.Shape.{Shape}
use Rattle.layout.specs.Layout.{padded_of}
use Rattle.plan.specs.Net.{Net, plan_cost}
use Rattle.plan.specs.Value.{best_plan, has_plan}
use Rattle.plan.specs.Answer.{spread}
use Rattle.route.specs.Same.{move_of}
use Rattle.route.specs.Stations.{station_at, layout_at, counts_kept, parents_kept, layouts_kept, sizes_kept}
use Rattle.route.specs.LayoutRepeats.{repeat_rule}
use Rattle.route.specs.Route.{good_limits, records_read, route_zeros}
use Rattle.route.specs.declared.Station.{Station}

-- the stations in a row: padded sizes, and where neighbours move
abbrev pub net_of : Shape → List Station → ℕ → ℕ → Net
net_of s ys number cells =
    record {
      stations = number;
      count = λ i. (station_at ys i).count;
      size = λ i a. padded_of s (layout_at (station_at ys i) a);
      moved = λ i a b. move_of (layout_at (station_at ys i) a) (layout_at (station_at ys (i + 1)) b);
      cells = cells;
    }

-- the rules 1 to 9
abbrev pub chain_rules : Shape → List Station → ℕ → ℕ → ℕ → List Rule
chain_rules s ys number cells moves =
    rule (good_shape s) ShapeLimits
    ∷ rule (good_limits number cells moves && counts_kept ys (records_read ys number)) Attribute
    ∷ rule (layouts_kept s ys (records_read ys number)) LayoutRule
    ∷ repeat_rule ys (records_read ys number)
    ∷ rule (sizes_kept s ys (records_read ys number)) PaddedSize
    ∷ rule (leb number (length ys)) ShortBuffer
    ∷ []

-- rule 10: a plan is admitted
abbrev pub chain_plan_rule : Shape → List Station → ℕ → ℕ → ℕ → Rule
chain_plan_rule s ys number cells moves = rule (has_plan (net_of s ys number cells) moves) NoPlan

-- the answer's values: 64 places, 0 in the unused ones, and the total
abbrev pub chain_values : Shape → List Station → ℕ → ℕ → ℕ → List ℕ
chain_values s ys number cells moves =
    spread number (best_plan (net_of s ys number cells) moves)
    ++ (plan_cost (net_of s ys number cells) (best_plan (net_of s ys number cells) moves) ∷ [])

unfoldable pub chain_of : Shape → List Station → ℕ → ℕ → ℕ → Answer ℕ
chain_of s ys number cells moves =
    answered route_zeros
    (judge (chain_rules s ys number cells moves ++ (chain_plan_rule s ys number cells moves ∷ [])))
    (chain_values s ys number cells moves)

-- a tree of n stations without forks: every parent is earlier, and none is named twice
pub record Unforked (ys : List Station) (n : ℕ) : Type 0 where
  pub earlier : parents_kept ys n ≡ true
  pub once : (i j : ℕ) → suc i < n → suc j < n → (station_at ys (suc i)).parent ≡ (station_at ys (suc j)).parent → i ≡ j
