-- Plans over a tree of stations: their moves, their cost, and the best of them. Assumes nothing.
use Rattle.std.specs.Prelude.{ℕ, zero, suc, ◌+◌, ◌*◌, ◌≤◌, ◌<◌, ◌≡◌, ◌⊎◌, List, length, get_or}
use Rattle.plan.specs.Net.{price, Before}

-- `stations` stations, each with `count i` places; `parent i` is the station that feeds station i, and is not read for
-- station 0; `size i a` is the padded size of place a of station i; `moved i a b` is 1 where the layouts of place a of
-- station i's parent and of place b of station i differ as written, else 0; `cells` is the cell limit
pub record Tree : Type 0 where
  pub stations : ℕ
  pub parent : ℕ → ℕ
  pub count : ℕ → ℕ
  pub size : ℕ → ℕ → ℕ
  pub moved : ℕ → ℕ → ℕ → ℕ
  pub cells : ℕ

-- each station but the first names an earlier one as its parent
unfoldable pub Earlier : Tree → Type 0
Earlier T = (i : ℕ) → i + 1 < T.stations → T.parent (i + 1) < i + 1

-- a tree that the planner takes: 1 to 64 stations, at most 8 places each
pub record Formed (T : Tree) : Type 0 where
  pub some : 1 ≤ T.stations
  pub few : T.stations ≤ 64
  pub places : (i : ℕ) → i < T.stations → T.count i ≤ 8
  pub earlier : Earlier T

-- f 0 + f 1 + .., n terms
unfoldable pub sum_to : ℕ → (ℕ → ℕ) → ℕ
sum_to zero f = 0
sum_to (suc n) f = sum_to n f + f n

-- the moves of the link from place a of station i's parent to place b of station i; the first station has no such link
abbrev pub link_moves : Tree → ℕ → ℕ → ℕ → ℕ
link_moves T zero a b = 0
link_moves T (suc i) a b = T.moved (suc i) a b

-- and what they cost
abbrev pub link_cost : Tree → ℕ → ℕ → ℕ → ℕ
link_cost T i a b = link_moves T i a b * price (T.size (T.parent i) a) (T.size i b)

-- the place of station i in a plan
abbrev pub at : List ℕ → ℕ → ℕ
at p i = get_or p i 0

-- the moves of a plan, over all parent links
unfoldable pub plan_moves : Tree → List ℕ → ℕ
plan_moves T p = sum_to T.stations (λ i. link_moves T i (at p (T.parent i)) (at p i))

-- its cost: the padded size at every station, and for each move its price
unfoldable pub plan_cost : Tree → List ℕ → ℕ
plan_cost T p = sum_to T.stations (λ i. T.size i (at p i) + link_cost T i (at p (T.parent i)) (at p i))

-- a plan that keeps both limits: one place for each station, below its count and with a padded size within the cell
-- limit; and the moves
pub record Admitted (T : Tree) (moves : ℕ) (p : List ℕ) : Type 0 where
  pub long : length p ≡ T.stations
  pub below : (i : ℕ) → i < T.stations → at p i < T.count i
  pub fits : (i : ℕ) → i < T.stations → T.size i (at p i) ≤ T.cells
  pub within : plan_moves T p ≤ moves

-- the best plan and its total: admitted; every admitted plan costs at least as much, and every other of equal cost
-- comes later in list order
pub record Best (T : Tree) (moves cost : ℕ) (p : List ℕ) : Type 0 where
  pub admitted : Admitted T moves p
  pub total : cost ≡ plan_cost T p
  pub least : (q : List ℕ) → Admitted T moves q → plan_cost T p ≤ plan_cost T q
  pub first : (q : List ℕ) → Admitted T moves q → plan_cost T q ≡ plan_cost T p → (q ≡ p) ⊎ Before p q
