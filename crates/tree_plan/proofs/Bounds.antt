-- What a plan over a tree costs at most: the cell limit for each station, and twice the cell limit for each move.
-- Assumes nothing.
use Prim.Native.Nat.{ℕ, zero, suc, ◌+◌, ◌*◌, ◌-◌, ◌^◌, ◌≤◌, ◌<◌}
use mathlib.Core.Path.{◌≡◌, ap}
use mathlib.Core.List.{List}
use native.Mathlib.Omega.{arith}
use native.Mathlib.Numerals.{add-one}
use native.Mathlib.Nat.{zero-mul, mul-le-mul_left, mul-le-mul_right}
use Rattle.plan.proofs.Bounds.{price-low}
use Rattle.tree_plan.specs.Tree.{Tree, Earlier, Formed, sum_to, at, link_moves, link_cost, plan_moves, plan_cost, Admitted}
use Rattle.tree_plan.proofs.Sums.{sum-add, sum-scale, sum_head, sum-each, sum_same}

-- a cell limit of at most 2^40, and at most one move over a link
pub record Small (T : Tree) : Type 0 where
  pub cells : T.cells ≤ 2 ^ 40
  pub moved : (i a b : ℕ) → T.moved i a b ≤ 1

module _ (T : Tree) (F : Formed T) where
  parent-low : (i : ℕ) → suc i < T.stations → T.parent (suc i) < T.stations
  unfolding Earlier
  parent-low i l = omega (arith, rw add-one at (F.earlier i (omega arith)))

  module _ (m : ℕ) (p : List ℕ) (a : Admitted T m p) where
    abbrev moves-at : ℕ → ℕ
    moves-at i = link_moves T i (at p (T.parent i)) (at p i)

    -- a link costs at most twice the cell limit for its moves
    link-most : (i : ℕ) → i < T.stations → link_cost T i (at p (T.parent i)) (at p i) ≤ moves-at i * (2 * T.cells)
    link-most zero l = simp zero-mul (omega arith)
    link-most (suc i) l =
        mul-le-mul_left (moves-at (suc i))
        (omega (
          arith,
          price-low (T.size (T.parent (suc i)) (at p (T.parent (suc i)))) (T.size (suc i) (at p (suc i))),
          a.fits (suc i) l,
          a.fits (T.parent (suc i)) (parent-low i l),
        ))

    pub cost-most : plan_cost T p ≤ T.stations * T.cells + plan_moves T p * (2 * T.cells)
    unfolding plan_cost plan_moves
    cost-most =
        omega (
          arith,
          sum-add T.stations (λ i. T.size i (at p i)) (λ i. link_cost T i (at p (T.parent i)) (at p i)),
          sum-each T.stations (λ i. T.size i (at p i)) (λ i. T.cells) (λ i l. a.fits i l),
          sum-each T.stations (λ i. link_cost T i (at p (T.parent i)) (at p i)) (λ i. moves-at i * (2 * T.cells)) link-most,
          sum-scale T.stations moves-at (2 * T.cells),
          sum_same T.stations T.cells,
        )

    -- one move less than stations, since the first has no parent
    moves-most : Small T → plan_moves T p ≤ 63
    unfolding plan_moves
    moves-most S =
        omega (arith, ap (λ (n : ℕ). sum_to n moves-at) up, sum_head (T.stations - 1) moves-at, rest, F.few)
      where
        up : T.stations ≡ suc (T.stations - 1)
        up = omega (arith, F.some)

        rest : sum_to (T.stations - 1) (λ i. moves-at (suc i)) ≤ T.stations - 1
        rest =
            omega (
              arith,
              sum-each (T.stations - 1) (λ i. moves-at (suc i)) (λ i. 1)
                  (λ i l. S.moved (suc i) (at p (T.parent (suc i))) (at p (suc i))),
              sum_same (T.stations - 1) 1,
            )

-- at most 64 stations, so at most 63 moves
pub cost-190 : (T : Tree) → Formed T → Small T → (m : ℕ) (p : List ℕ) → Admitted T m p → plan_cost T p ≤ 190 * 2 ^ 40
cost-190 T F S m p a =
    omega (
      arith,
      cost-most T F m p a,
      mul-le-mul_right T.cells F.few,
      mul-le-mul_right (2 * T.cells) (moves-most T F m p a S),
      S.cells,
    )
