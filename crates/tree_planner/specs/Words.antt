-- The planner's tables as a tree, and weights in four words. Assumes nothing.
use Rattle.std.specs.Prelude.{ℕ, ◌+◌, ◌*◌, ◌/◌, ◌^◌, ◌≤◌, ◌<◌, ◌≡◌, List, length, get_or, ltb, cond, Option, Some, None}
use Rattle.radix.specs.Radix.{tab}
use Rattle.plan.specs.Answer.{spread}
use Rattle.plan.specs.declared.Plan.{Plan}
use Rattle.tree_plan.specs.Weight.{scale, far_weight, place_in}
use Rattle.tree_plan.specs.Tree.{Tree}
use Rattle.tree_planner.specs.declared.Weight.{Weight}

-- sizes at i * 8 + place; moves at (i * 8 + place of i's parent) * 8 + place
abbrev pub tabled : List ℕ → List ℕ → List ℕ → List ℕ → ℕ → ℕ → Tree
tabled parents counts sizes moved n cells =
    record {
      stations = n;
      parent = λ i. get_or parents i 0;
      count = λ i. get_or counts i 0;
      size = λ i b. get_or sizes (i * 8 + b) 0;
      moved = λ i a b. get_or moved ((i * 8 + a) * 8 + b) 0;
      cells = cells;
    }

-- what the planner asks of its tables
pub record Usable (parents counts sizes moved : List ℕ) (n cells : ℕ) : Type 0 where
  pub some : 1 ≤ n
  pub few : n ≤ 64
  pub parents-in : length parents ≡ 64
  pub counts-in : length counts ≡ 64
  pub sizes-in : length sizes ≡ 512
  pub moved_in : length moved ≡ 4096
  pub cells_in : cells ≤ 2 ^ 40
  pub parent : (i : ℕ) → i + 1 < n → get_or parents (i + 1) 0 < i + 1
  pub count : (i : ℕ) → get_or counts i 0 ≤ 8
  pub low : (k : ℕ) → get_or sizes k 0 ≤ 2 ^ 41
  pub ones : (k : ℕ) → get_or moved k 0 ≤ 1

-- the weight that four words hold: 8 times the cost and the first station's place, then 21 places in each word
unfoldable pub value_of : Weight → ℕ
value_of w = ((w.top * 2 ^ 63 + w.high) * 2 ^ 63 + w.mid) * 2 ^ 63 + w.low

-- each word but the top one holds 21 places
pub record Worded (w : Weight) : Type 0 where
  pub high : w.high < 2 ^ 63
  pub mid : w.mid < 2 ^ 63
  pub low : w.low < 2 ^ 63

-- its top word leaves room for sums
pub record Good (w : Weight) : Type 0 where
  pub words : Worded w
  pub top : w.top ≤ 2 ^ 60

-- the four words of entry e
abbrev pub words_at : List ℕ → ℕ → Weight
words_at T e =
    record {
      top = get_or T (e * 4) 0;
      high = get_or T (e * 4 + 1) 0;
      mid = get_or T (e * 4 + 2) 0;
      low = get_or T (e * 4 + 3) 0;
    }

-- and its weight
abbrev pub weight_at : List ℕ → ℕ → ℕ
weight_at T e = value_of (words_at T e)

-- a table of such weights
pub record Sound (T : List ℕ) : Type 0 where
  pub good : (e : ℕ) → Good (words_at T e)

-- the plan that a weight holds, for n stations
unfoldable pub plan_of : ℕ → ℕ → Option Plan
plan_of w n =
    cond (ltb w far_weight)
    (Some (record { places = spread n (tab (place_in w) n); total = w / scale }))
    None
