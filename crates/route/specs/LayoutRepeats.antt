-- A station's list that holds a layout twice: the first such station, its two places, and the rule. Assumes nothing.
use Rattle.std.specs.Prelude.{ℕ, ◌<◌, Bool, not, List, leb}
use Rattle.radix.specs.Radix.{first}
use Rattle.refusal.specs.Judge.{Rule, rule}
use Rattle.refusal.specs.declared.Refusal.{Refusal}
use Rattle.refusal.specs.declared.Refusal.TheVariants.{RepeatedLayout}
use Rattle.shape.specs.Repeats.{later_in, earlier_in, is_free, FirstRepeat, Different}
use Rattle.route.specs.Same.{same_layout}
use Rattle.route.specs.Stations.{station_at, layout_at}
use Rattle.route.specs.declared.Station.{Station}

-- two places of a station's list hold layouts equal as written
abbrev pub same_at : Station → ℕ → ℕ → Bool
same_at x a b = same_layout (layout_at x a) (layout_at x b)

-- no layout stands twice in the list
abbrev pub all_different : Station → Bool
all_different x = is_free (same_at x) x.count

-- the refusal of station i: the first repeat of its list, as in lists of dimensions
abbrev pub repeat_in : Station → ℕ → Refusal
repeat_in x i = RepeatedLayout i (earlier_in (same_at x) x.count) (later_in (same_at x) x.count)

-- the first of n stations whose list holds a layout twice, or n
unfoldable pub repeat_station : List Station → ℕ → ℕ
repeat_station ys n = first (λ (i : ℕ). not (all_different (station_at ys i))) n

-- no list of the first n stations holds a layout twice; else the first station is named, and its first repeat
abbrev pub repeat_rule : List Station → ℕ → Rule
repeat_rule ys n = rule (leb n (repeat_station ys n)) (repeat_in (station_at ys (repeat_station ys n)) (repeat_station ys n))

-- the same as a fact: station i is the first of n whose list holds a layout twice, and the places e and l are its first
-- repeat
pub record FirstLayoutRepeat (ys : List Station) (n i e l : ℕ) : Type 0 where
  pub read : i < n
  pub here : FirstRepeat (same_at (station_at ys i)) (station_at ys i).count e l
  pub before : (j : ℕ) → j < i → Different (same_at (station_at ys j)) (station_at ys j).count
