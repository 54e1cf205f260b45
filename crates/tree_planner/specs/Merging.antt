-- Stations merged into their parents, over the planner's tables. Assumes nothing.
use Rattle.std.specs.Prelude.{ℕ, zero, suc, ◌+◌, ◌*◌, ◌-◌, ◌^◌, ◌≤◌, ◌<◌, ◌≡◌, Bool, false, ◌||◌, List, length, get_or, leb, eqb}
use Rattle.plan.specs.Net.{price}
use Rattle.plan.specs.Value.{pick}
use Rattle.tree_plan.specs.Merge.{Table, merge, least_in}
use Rattle.tree_plan.specs.Weight.{scale, unit, far_weight, weighed, least_weight}
use Rattle.tree_planner.specs.Words.{tabled, weight_at, Sound}
use Rattle.tree_planner.specs.Rows.{table_words, later}

-- what a link asks of the tables
pub record Priced (sizes moved : List ℕ) : Type 0 where
  pub sizes-in : length sizes ≡ 512
  pub moved_in : length moved ≡ 4096
  pub low : (k : ℕ) → get_or sizes k 0 ≤ 2 ^ 41
  pub ones : (k : ℕ) → get_or moved k 0 ≤ 1

-- station i's own weight at place b
unfoldable pub own_at : List ℕ → ℕ → ℕ → ℕ → ℕ
own_at sizes cells i b =
    pick (leb (get_or sizes (i * 8 + b) 0) cells) (get_or sizes (i * 8 + b) 0 * scale + b * unit i) far_weight

-- through place b of station v, its parent u at place a, with k moves left before the link
unfoldable pub linked : List ℕ → List ℕ → List ℕ → ℕ → ℕ → ℕ → ℕ → ℕ → ℕ
linked sizes moved T u v a k b =
    pick (leb (get_or moved ((v * 8 + a) * 8 + b) 0) k)
    (later T (v * 8 + b) (get_or moved ((v * 8 + a) * 8 + b) 0)
    (get_or moved ((v * 8 + a) * 8 + b) 0 * price (get_or sizes (u * 8 + a) 0) (get_or sizes (v * 8 + b) 0) * scale) k)
    far_weight

-- does one of d stations from station i on name u as its parent?
unfoldable pub named : List ℕ → ℕ → ℕ → ℕ → Bool
named parents u i zero = false
named parents u i (suc d) = eqb (get_or parents i 0) u || named parents u (suc i) d

-- station u's weight at place a with k moves left: the table's where a child of it is merged, else its own
unfoldable pub held : Bool → List ℕ → List ℕ → ℕ → ℕ → ℕ → ℕ → ℕ
held merged T sizes cells u a k = pick merged (weight_at T ((u * 8 + a) * 64 + k)) (own_at sizes cells u a)

-- that of every station, once the stations after v are merged
unfoldable pub viewed : List ℕ → List ℕ → ℕ → ℕ → List ℕ → ℕ → Table
viewed parents sizes n cells T v u a k = held (named parents u (v + 1) (n - (v + 1))) T sizes cells u a k

-- station v merged into its parent
pub record Merged (parents counts sizes moved : List ℕ) (n cells columns : ℕ) (T T' : List ℕ) (v : ℕ) : Type 0 where
  pub long : length T' ≡ length T
  pub sound : Sound T'
  pub right :
      (u a k : ℕ) →
      u < v →
      a < get_or counts u 0 →
      k < columns →
      viewed parents sizes n cells T' (v - 1) u a k
      ≡ merge (weighed (tabled parents counts sizes moved n cells)) (viewed parents sizes n cells T v) v u a k

-- the stations after v merged: the least weight is the tree's
pub record Shrunk (parents counts sizes moved : List ℕ) (n cells columns : ℕ) (T : List ℕ) (v : ℕ) : Type 0 where
  pub long : length T ≡ table_words
  pub sound : Sound T
  pub same :
      (m : ℕ) →
      m < columns →
      least_in (weighed (tabled parents counts sizes moved n cells)) v (viewed parents sizes n cells T v) m
      ≡ least_weight (tabled parents counts sizes moved n cells) m
