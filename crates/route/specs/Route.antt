-- What the planning call answers: the rules in the order of their numbers, and the best plan with its cost. Assumes
-- nothing.
use Rattle.std.specs.Prelude.{ℕ, ◌+◌, min, ◌≡◌, Bool, ◌&&◌, List, [], ◌∷◌, ◌++◌, leb, length, replicate, Ok, Err, Result}
use Rattle.radix.specs.Radix.{max_count}
use Rattle.refusal.specs.Number.{Answer, done, refusal, answered}
use Rattle.refusal.specs.Judge.{Rule, rule, judge}
use Rattle.refusal.specs.declared.Refusal.{Refusal}
use Rattle.refusal.specs.declared.Refusal.TheVariants.{ShapeLimits, Attribute, LayoutRule, PaddedSize, ShortBuffer, NoPlan}
use Rattle.shape.specs.Shape.{good_shape}
use Rattle.shape.specs.declared.Shape.{Shape}
use Rattle.plan.specs.Answer.{max_stations, spread}
use Rattle.tree_plan.specs.Tree.{plan_cost}
use Rattle.tree_plan.specs.Weight.{best_plan, has_plan}
use Rattle.route.specs.LayoutRepeats.{repeat_rule}
use Rattle.route.specs.Stations.{counts_kept, parents_kept, layouts_kept, sizes_kept, tree_of}
use Rattle.route.specs.declared.Station.{Station}
use Rattle.route.specs.declared.Route.{Route}

-- the most moves that a limit allows
abbrev pub max_moves : ℕ
max_moves = 63

-- 1 to 64 stations, a cell limit from 1 to 2^40, a limit of 0 to 63 on moves
unfoldable pub good_limits : ℕ → ℕ → ℕ → Bool
good_limits number cells moves =
    (leb 1 number && leb number max_stations) && ((leb 1 cells && leb cells max_count) && leb moves max_moves)

-- the records that are read: one for each station, as far as the list goes
abbrev pub records_read : List Station → ℕ → ℕ
records_read ys number = min number (length ys)

-- of the first n records, every count of layouts and every parent keeps its rule
unfoldable pub numbers_kept : List Station → ℕ → Bool
numbers_kept ys n = counts_kept ys n && parents_kept ys n

-- the rules 1 to 9
abbrev pub route_rules : Shape → List Station → ℕ → ℕ → ℕ → List Rule
route_rules s ys number cells moves =
    rule (good_shape s) ShapeLimits
    ∷ rule (good_limits number cells moves && numbers_kept ys (records_read ys number)) Attribute
    ∷ rule (layouts_kept s ys (records_read ys number)) LayoutRule
    ∷ repeat_rule ys (records_read ys number)
    ∷ rule (sizes_kept s ys (records_read ys number)) PaddedSize
    ∷ rule (leb number (length ys)) ShortBuffer
    ∷ []

-- the input breaks no rule: none of 1 to 9 applies
abbrev pub breaks_no_rule : Shape → List Station → ℕ → ℕ → ℕ → Type 0
breaks_no_rule s ys number cells moves = judge (route_rules s ys number cells moves) ≡ Ok tt

-- rule 10: a plan is admitted
abbrev pub plan_rule : Shape → List Station → ℕ → ℕ → ℕ → Rule
plan_rule s ys number cells moves = rule (has_plan (tree_of s ys number cells) moves) NoPlan

-- the plan of the route
abbrev pub route_plan : Shape → List Station → ℕ → ℕ → ℕ → List ℕ
route_plan s ys number cells moves = best_plan (tree_of s ys number cells) moves

-- the answer's values: 64 places, 0 in the unused ones, and the total
abbrev pub route_zeros : List ℕ
route_zeros = replicate (max_stations + 1) 0

abbrev pub route_values : Shape → List Station → ℕ → ℕ → ℕ → List ℕ
route_values s ys number cells moves =
    spread number (route_plan s ys number cells moves)
    ++ (plan_cost (tree_of s ys number cells) (route_plan s ys number cells moves) ∷ [])

unfoldable pub route_of : Shape → List Station → ℕ → ℕ → ℕ → Answer ℕ
route_of s ys number cells moves =
    answered route_zeros
    (judge (route_rules s ys number cells moves ++ (plan_rule s ys number cells moves ∷ [])))
    (route_values s ys number cells moves)

-- the answer on paper of what the call hands back
abbrev pub route_answer : Result Route Refusal → Answer ℕ
route_answer (Ok r) = done (r.places ++ (r.total ∷ []))
route_answer (Err r) = refusal route_zeros r
