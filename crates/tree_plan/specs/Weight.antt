-- A plan's weight: its cost, then its places as digits in base 8, the first station's most significant. The lesser
-- weight is the lesser cost, and for equal costs the plan that comes first in list order. Assumes nothing.
use Rattle.std.specs.Prelude.{ℕ, ◌+◌, ◌*◌, ◌-◌, ◌/◌, ◌%◌, ◌^◌, Bool, List, leb, ltb}
use Rattle.radix.specs.Radix.{tab}
use Rattle.plan.specs.Value.{pick}
use Rattle.tree_plan.specs.Tree.{Tree, sum_to, at, link_moves, link_cost, plan_cost}
use Rattle.tree_plan.specs.Merge.{Links, Table, least_in}

-- the unit of a cost
unfoldable pub scale : ℕ
scale = 8 ^ 64

-- the unit of station i's place
unfoldable pub unit : ℕ → ℕ
unit i = 8 ^ (63 - i)

-- more than any plan weighs
unfoldable pub far_weight : ℕ
far_weight = 2 ^ 57 * scale

unfoldable pub weight_of : Tree → List ℕ → ℕ
weight_of T p = plan_cost T p * scale + sum_to T.stations (λ i. at p i * unit i)

-- the tree's links as weights
abbrev pub weighed : Tree → Links
weighed T =
    record {
      parent = T.parent;
      count = T.count;
      moves = link_moves T;
      weight = λ i a b. link_cost T i a b * scale;
      none = far_weight;
    }

-- a station's own weight, whatever the moves left
unfoldable pub own : Tree → Table
own T i b k = pick (leb (T.size i b) T.cells) (T.size i b * scale + b * unit i) far_weight

unfoldable pub least_weight : Tree → ℕ → ℕ
least_weight T moves = least_in (weighed T) (T.stations - 1) (own T) moves

-- the place of station i in a weight
unfoldable pub place_in : ℕ → ℕ → ℕ
place_in w i = (w / unit i) % 8

abbrev pub best_plan : Tree → ℕ → List ℕ
best_plan T moves = tab (place_in (least_weight T moves)) T.stations

abbrev pub least_cost : Tree → ℕ → ℕ
least_cost T moves = least_weight T moves / scale

abbrev pub has_plan : Tree → ℕ → Bool
has_plan T moves = ltb (least_weight T moves) far_weight
