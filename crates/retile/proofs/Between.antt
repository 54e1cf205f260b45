-- Facts of a re-tiling's destination, said of the source's sizes. Assumes nothing.
use Rattle.std.proofs.Common.{◌≡◌, ◌<◌, ℕ, suc, List, length, drop, ap, subst}
use Rattle.radix.specs.Radix.{prod}
use Rattle.tiling.specs.Cell.{cell}
use Rattle.tiling.specs.Ready.{Ready}
use Rattle.tiling.specs.Runs.{PaddingRun}
use Rattle.tiling.specs.Tiled.{tiles_in}
use Rattle.retile.specs.Rows.{HasSteps}
use Rattle.retile.specs.declared.retiling.Retiling.{Retiling}

module _ (s : Retiling) where
  pub ready-to : Ready s.from.sizes.now s.to.order.now s.to.lens.now s.to.entries.now
  ready-to = subst (λ (ds : List ℕ). Ready ds s.to.order.now s.to.lens.now s.to.entries.now) s.alike s.to.ready

  pub same-cell : (o : ℕ) → cell s.to.sizes.now s.to.order.now (tiles_in s.to) o ≡ cell s.from.sizes.now s.to.order.now (tiles_in s.to) o
  same-cell o = ap (λ (ds : List ℕ). cell ds s.to.order.now (tiles_in s.to) o) s.alike

  pub padding-to : (o r : ℕ) → PaddingRun s.to.sizes.now s.to.order.now (tiles_in s.to) o r → PaddingRun s.from.sizes.now s.to.order.now (tiles_in s.to) o r
  padding-to o r w = subst (λ (ds : List ℕ). PaddingRun ds s.to.order.now (tiles_in s.to) o r) s.alike w

  pub inside-to : (d : ℕ) → d < length s.to.sizes.now → d < length s.from.sizes.now
  inside-to d h = subst (λ (ds : List ℕ). d < length ds) s.alike h

  pub steps-to : (d n : ℕ) (table : List ℕ) → HasSteps s.to.sizes.now s.to.order.now (tiles_in s.to) (prod (drop (suc d) s.to.sizes.now)) n table
      → HasSteps s.from.sizes.now s.to.order.now (tiles_in s.to) (prod (drop (suc d) s.from.sizes.now)) n table
  steps-to d n table w = subst (λ (ds : List ℕ). HasSteps ds s.to.order.now (tiles_in s.to) (prod (drop (suc d) ds)) n table) s.alike w
