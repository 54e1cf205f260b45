-- What the rules of a call give where it is judged done. Assumes nothing.
use Rattle.std.specs.Prelude.{Ok}
use mathlib.Core.Path.{◌≡◌}
use mathlib.Core.Bool.{true, ◌&&◌}
use Prim.Native.Nat.{◌<◌, ◌≤◌, ℕ}
use lib.Dec.{leb}
use borrow.Author.Tests.{leb-true}
use Rattle.radix.specs.Radix.{max_count, Bounded}
use Rattle.radix.proofs.Loops.{prod-pos}
use Rattle.refusal.specs.Judge.{judge}
use Rattle.refusal.proofs.Judged.{kept, rest}
use Rattle.shape.specs.Shape.{sizes_of, count_of, good_shape}
use Rattle.shape.specs.declared.Shape.{Shape}
use Rattle.tiling.specs.Tile.{physical, padded}
use Rattle.tiling.proofs.OwnCells.{count-padded}
use Rattle.tiling.proofs.Shaped.{shaped-valid, shaped-small}
use Rattle.layout.specs.Layout.{order_of, tiles_of, good_layout, padded_of, layout_rules}
use Rattle.layout.specs.declared.Layout.{Layout}
use Rattle.layout.proofs.Accepted.{Accepted}
use Rattle.radix.proofs.Tests.{and_left, and_right}
use Rattle.layout.specs.Answers.{fit_rules}

module _ (s : Shape) (l : Layout) (e : judge (layout_rules s l) ≡ Ok tt) where
  pub done-shape : good_shape s ≡ true
  done-shape = kept (good_shape s) _ _ e

  pub done-layout : good_layout s.rank l ≡ true
  done-layout = kept (good_layout s.rank l) _ _ (rest (good_shape s) _ _ e)

  pub done-size : padded_of s l ≤ max_count
  done-size = leb-true (padded_of s l) max_count (kept (leb (padded_of s l) max_count) _ _ (rest (good_layout s.rank l) _ _ (rest (good_shape s) _ _ e)))

-- a cell limit that is judged done, and the shape and layout with it
pub fit-done : (s : Shape) (l : Layout) (limit : ℕ) → judge (fit_rules s l limit) ≡ Ok tt → (judge (layout_rules s l) ≡ Ok tt) × (0 < limit) × (limit ≤ max_count)
fit-done s l limit e =
    let f = rest (good_shape s) _ _ e in
    let t = kept (leb 1 limit && leb limit max_count) _ _ f in (
      rw (kept (good_shape s) _ _ e) (rest (leb 1 limit && leb limit max_count) _ _ f),
      leb-true 1 limit (and_left (leb 1 limit) (leb limit max_count) t),
      leb-true limit max_count (and_right (leb 1 limit) (leb limit max_count) t),
    )

-- an accepted layout has at least one cell, and at least as many cells as elements
pub cells-pos : {s : Shape} {l : Layout} → Accepted s l → 0 < padded_of s l
unfolding padded Bounded
cells-pos {s} {l} a = prod-pos (physical (sizes_of s) (order_of l) (tiles_of l)) (λ k h. (shaped-small a.ready.shaped k h).0)

pub count-cells : {s : Shape} {l : Layout} → Accepted s l → count_of s ≤ padded_of s l
count-cells a = count-padded _ _ _ (shaped-valid a.ready.shaped)

-- the counts of an accepted layout: no more elements than cells, and from 1 to 2^40 cells
pub record Counts (s : Shape) (l : Layout) : Type 0 where
  pub some : 0 < padded_of s l
  pub within : count_of s ≤ padded_of s l
  pub room : padded_of s l ≤ max_count

pub counts_of : {s : Shape} {l : Layout} → Accepted s l → Counts s l
counts_of a = record { some = cells-pos a; within = count-cells a; room = a.ready.room }
