-- Plans through stations: their moves, their cost, their list order, and the best of them. Assumes nothing.
use Rattle.std.specs.Prelude.{ℕ, zero, suc, ◌+◌, ◌*◌, ◌≤◌, ◌<◌, ◌≡◌, ◌⊎◌, List, [], ◌∷◌}

-- the price of a move: the padded size of both layouts, the earlier and the later
unfoldable pub price : ℕ → ℕ → ℕ
price earlier later = earlier + later

-- `stations` stations, each with `count i` places; `size i a` is the padded size of place a of station i; `moved i a b` is 1 where
-- the layouts of place a of station i and of place b of station i + 1 differ as written, else 0; `cells` is the cell limit
pub record Net : Type 0 where
  pub stations : ℕ
  pub count : ℕ → ℕ
  pub size : ℕ → ℕ → ℕ
  pub moved : ℕ → ℕ → ℕ → ℕ
  pub cells : ℕ

-- coming to the places of a station: the moves to each place, and the price of a move there
pub record Coming : Type 0 where
  pub moves : ℕ → ℕ
  pub price : ℕ → ℕ

-- the first station is come to without a move
abbrev pub still : Coming
still = record { moves = λ b. 0; price = λ b. 0 }

-- from place a of station i to the places of the next station
abbrev pub after : Net → ℕ → ℕ → Coming
after N i a = record { moves = N.moved i a; price = λ b. price (N.size i a) (N.size (i + 1) b) }

-- one place for each of the k stations from station i on, below its station's count and with a padded size within the cell limit
unfoldable pub Keeps : Net → ℕ → ℕ → List ℕ → Type 0
Keeps N zero i [] = Unit {0}
Keeps N zero i (b ∷ p) = ⊥
Keeps N (suc k) i [] = ⊥
Keeps N (suc k) i (b ∷ p) = (b < N.count i) × (N.size i b ≤ N.cells) × Keeps N k (i + 1) p

-- the moves of a plan from station i on
unfoldable pub moves_of : Net → ℕ → Coming → List ℕ → ℕ
moves_of N i from [] = 0
moves_of N i from (b ∷ p) = from.moves b + moves_of N (i + 1) (after N i b) p

-- its cost: the padded size at every station, and for each move its price
unfoldable pub cost_of : Net → ℕ → Coming → List ℕ → ℕ
cost_of N i from [] = 0
cost_of N i from (b ∷ p) = N.size i b + from.moves b * from.price b + cost_of N (i + 1) (after N i b) p

-- list order: at the first station where two plans differ, the first has the smaller place
unfoldable pub Before : List ℕ → List ℕ → Type 0
Before [] q = ⊥
Before (a ∷ p) [] = ⊥
Before (a ∷ p) (b ∷ q) = (a < b) ⊎ ((a ≡ b) × Before p q)

-- the cost of a plan of the whole route
abbrev pub plan_cost : Net → List ℕ → ℕ
plan_cost N p = cost_of N 0 still p

-- a plan of the whole route that keeps both limits
pub record Admitted (N : Net) (moves : ℕ) (p : List ℕ) : Type 0 where
  pub keeps : Keeps N N.stations 0 p
  pub within : moves_of N 0 still p ≤ moves

-- the best plan and its total: admitted; every admitted plan costs at least as much, and every other of equal cost comes later in list order
pub record Best (N : Net) (moves cost : ℕ) (p : List ℕ) : Type 0 where
  pub admitted : Admitted N moves p
  pub total : cost ≡ plan_cost N p
  pub least : (q : List ℕ) → Admitted N moves q → plan_cost N p ≤ plan_cost N q
  pub first : (q : List ℕ) → Admitted N moves q → plan_cost N q ≡ plan_cost N p → (q ≡ p) ⊎ Before p q
