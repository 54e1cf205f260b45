-- The least weight over a tree of stations: the last station is merged into its parent's table, until one is left.
-- Assumes nothing.
use Rattle.std.specs.Prelude.{ℕ, zero, suc, ◌+◌, ◌-◌, min, leb, eqb}
use Rattle.plan.specs.Value.{pick}

-- a tree whose links move and weigh: `moves i a b` and `weight i a b` from place a of station i's parent to place b of
-- station i; `none` is more than any plan weighs: it stands for no plan
pub record Links : Type 0 where
  pub parent : ℕ → ℕ
  pub count : ℕ → ℕ
  pub moves : ℕ → ℕ → ℕ → ℕ
  pub weight : ℕ → ℕ → ℕ → ℕ
  pub none : ℕ

-- for each station, each of its places and each number of moves left: the least weight of the stations merged into it,
-- with its own
abbrev pub Table : Type 0
Table = ℕ → ℕ → ℕ → ℕ

-- the least of f below n, or `none`
unfoldable pub lowest : ℕ → ℕ → (ℕ → ℕ) → ℕ
lowest none zero f = none
lowest none (suc n) f = min (lowest none n f) (f n)

-- through place b of station v, its parent at place a, with j moves left before the link
unfoldable pub via_place : Links → Table → ℕ → ℕ → ℕ → ℕ → ℕ
via_place L t v a j b = pick (leb (L.moves v a b) j) (t v b (j - L.moves v a b) + L.weight v a b) L.none

-- the least of them
unfoldable pub reach : Links → Table → ℕ → ℕ → ℕ → ℕ
reach L t v a j = lowest L.none (L.count v) (via_place L t v a j)

-- place a of station v's parent with k moves left: j of them for station v
unfoldable pub joined : Links → Table → ℕ → ℕ → ℕ → ℕ
joined L t v a k = lowest L.none (suc k) (λ j. t (L.parent v) a (k - j) + reach L t v a j)

-- station v merged into its parent
unfoldable pub merge : Links → Table → ℕ → Table
merge L t v u a k = pick (eqb u (L.parent v)) (joined L t v a k) (t u a k)

-- stations v, v - 1, .., 1 merged
unfoldable pub merged : Links → ℕ → Table → Table
merged L zero t = t
merged L (suc v) t = merged L v (merge L t (suc v))

-- the least weight of stations 0 to v
unfoldable pub least_in : Links → ℕ → Table → ℕ → ℕ
least_in L v t moves = lowest L.none (L.count 0) (λ b. merged L v t 0 b moves)
