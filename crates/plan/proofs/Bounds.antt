-- What a plan costs at most: the cell limit for each station, and twice the cell limit for each move. Assumes nothing.
use Prim.Native.Nat.{ℕ, zero, suc, ◌+◌, ◌*◌, ◌-◌, ◌^◌, ◌≤◌}
use mathlib.Core.List.{List, [], ◌∷◌}
use native.Mathlib.Omega.{arith}
use native.Mathlib.Nat.{add-mul, mul-le-mul_left, mul-le-mul_right}
use Rattle.plan.specs.Net.{Net, Coming, price, still, after, Keeps, moves_of, cost_of, plan_cost, Admitted}

-- a price is at most both sizes
pub price-low : (earlier later : ℕ) → price earlier later ≤ earlier + later
unfolding price
price-low earlier later = omega arith

-- a product by at most one
pub at_most : (x y : ℕ) → x ≤ 1 → x * y ≤ y
at_most x y l = omega (arith, mul-le-mul_right y l)

-- a cell limit of at most 2^40, and at most one move from a station to the next
pub record Small (N : Net) : Type 0 where
  pub cells : N.cells ≤ 2 ^ 40
  pub moved : (i a b : ℕ) → N.moved i a b ≤ 1

module _ (N : Net) where
  -- k stations from station i on
  cost-from :
      (k i : ℕ) (from : Coming) →
      ((b : ℕ) → N.size i b ≤ N.cells → from.price b ≤ 2 * N.cells) →
      (p : List ℕ) →
      Keeps N k i p →
      cost_of N i from p ≤ k * N.cells + moves_of N i from p * (2 * N.cells)
  unfolding Keeps moves_of cost_of
  cost-from zero i from g [] h = omega arith
  cost-from zero i from g (b ∷ p) h = absurd h
  cost-from (suc k) i from g [] h = absurd h
  cost-from (suc k) i from g (b ∷ p) h =
      omega (
        arith,
        h.1,
        mul-le-mul_left (from.moves b) (g b h.1),
        add-mul (from.moves b) (moves_of N (i + 1) (after N i b) p) (2 * N.cells),
        add-mul k 1 N.cells,
        cost-from k (i + 1) (after N i b)
            (λ c w. omega (arith, price-low (N.size i b) (N.size (i + 1) c), h.1))
            p
            h.2,
      )

  moves_from :
      ((i a b : ℕ) → N.moved i a b ≤ 1) →
      (k i : ℕ) (from : Coming) →
      ((b : ℕ) → from.moves b ≤ 1) →
      (p : List ℕ) →
      Keeps N k i p →
      moves_of N i from p ≤ k
  unfolding Keeps moves_of
  moves_from f zero i from g [] h = omega arith
  moves_from f zero i from g (b ∷ p) h = absurd h
  moves_from f (suc k) i from g [] h = absurd h
  moves_from f (suc k) i from g (b ∷ p) h = omega (arith, g b, moves_from f k (i + 1) (after N i b) (f i b) p h.2)

  -- the whole route: one move less than stations, since the first is come to without a move
  moves-most : ((i a b : ℕ) → N.moved i a b ≤ 1) → (n : ℕ) (p : List ℕ) → Keeps N n 0 p → moves_of N 0 still p ≤ n - 1
  unfolding Keeps moves_of
  moves-most f zero [] h = omega arith
  moves-most f zero (b ∷ p) h = absurd h
  moves-most f (suc n) [] h = absurd h
  moves-most f (suc n) (b ∷ p) h = omega (arith, moves_from f n 1 (after N 0 b) (f 0 b) p h.2)

  pub cost-most :
      (moves : ℕ) (p : List ℕ) →
      Admitted N moves p →
      plan_cost N p ≤ N.stations * N.cells + moves_of N 0 still p * (2 * N.cells)
  cost-most moves p a = cost-from N.stations 0 still (λ b l. omega arith) p a.keeps

  -- at most 64 stations, so at most 63 moves
  pub cost-190 :
      Small N → N.stations ≤ 64 → (moves : ℕ) (p : List ℕ) → Admitted N moves p → plan_cost N p ≤ 190 * 2 ^ 40
  cost-190 s n moves p a =
      let m : moves_of N 0 still p ≤ 63 = omega (arith, moves-most s.moved N.stations p a.keeps) in
      omega (arith, cost-most moves p a, mul-le-mul_right N.cells n, mul-le-mul_right (2 * N.cells) m, s.cells)
