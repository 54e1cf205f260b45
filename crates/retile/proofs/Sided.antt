-- What a side that is measured gives: the order and the physical shape inside their arrays, as lists. Assumes nothing.
use mathlib.Core.Path.{◌≡◌, sym, subst}
use Prim.Native.Nat.{ℕ, ◌≤◌}
use mathlib.Core.List.{List}
use lib.ListN.{length, take}
use Rattle.shape.specs.Shape.{max_rank, sizes_of}
use Rattle.shape.specs.declared.Shape.{Shape}
use Rattle.tiling.specs.Ready.{Ready}
use Rattle.tiling.specs.Tile.{physical, padded}
use Rattle.layout.specs.Layout.{lens_of, tiles_of, padded_of}
use Rattle.layout.specs.declared.Layout.{Layout}
use Rattle.layout.proofs.Accepted.{Arrays, accepted}
use Rattle.retile.specs.Steps.{IsSide, IsMeasured}
use Rattle.retile.specs.declared.sides.Side.{Side}

pub sided : (s : Shape) (l : Layout) (x : Side) → length s.sizes ≡ max_rank → Arrays l → IsMeasured x s l → (buffer : List ℕ) → padded_of s l ≤ length buffer
    → IsSide (sizes_of s) (take s.rank x.order) (lens_of l) l.tile (take x.extent.len x.dims) buffer
sided s l x six arrays m buffer room =
    let a = accepted s l six arrays m.0 in
    let back = sym m.1.order in
    record {
      ready = subst (λ (p : List ℕ). Ready (sizes_of s) p (lens_of l) l.tile) back a.ready;
      same = subst (λ (p : List ℕ). take x.extent.len x.dims ≡ physical (sizes_of s) p (tiles_of l)) back m.1.same;
      room = subst (λ (p : List ℕ). padded (sizes_of s) p (tiles_of l) ≤ length buffer) back room;
    }
