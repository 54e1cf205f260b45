-- `pack_bench::plain::plain_in` is safe. Assumes nothing.
use Rattle.std.proofs.Common.{arith, ◌≡◌, List, ℕ, ◌+◌, ◌<◌, ◌≤◌, length, take, refl, sym, ap, ◌∙◌, subst}
use Prim.Native.Nat.{min}
use Rattle.std.proofs.Math.Nat.{min-eq_left}
use Rattle.std.proofs.lemmas.List.{length-take-le}
use Rattle.radix.specs.Radix.{max_count, prod, Sizes}
use Rattle.tiling.specs.Ready.{Ready}
use Rattle.tiling.specs.Tile.{tiles_from, physical, padded}
use Rattle.tiling.proofs.OwnCells.{offset-below}
use Rattle.tiling.proofs.Shaped.{shaped-valid, shaped-under, shaped-small}
use Rattle.pack_bench.proofs.plain.plain_in.Goals as goal

-- the product of the physical shape is exact
size-is : (sizes p lens flat dims : List ℕ) (size : ℕ) → Ready sizes p lens flat → dims ≡ physical sizes p (tiles_from lens flat) → size ≡ min (prod dims) (max_count + 1) → size ≡ padded sizes p (tiles_from lens flat)
unfolding padded
size-is sizes p lens flat dims size r is e = e ∙ ap (λ (l : List ℕ). min (prod l) (max_count + 1)) is ∙ min-eq_left (omega (arith, r.room))

pub physical_dims-d-requires-clause-under : goal.physical_dims-d-requires-clause-under
physical_dims-d-requires-clause-under c = shaped-under c.requires.ready.shaped _ refl

pub product-size-requires : goal.product-size-requires
product-size-requires c = subst Sizes (sym c.physical_dims-d.ensures.same) (shaped-small c.requires.ready.shaped)

pub slice_bounds-fill-end : goal.slice_bounds-fill-end
slice_bounds-fill-end c =
    let e = size-is c.args.sizes.now c.args.p.now c.args.lens.now c.args.flat.now _ c.product-size.result c.requires.ready c.physical_dims-d.ensures.same c.product-size.ensures in
    omega (arith, e, c.requires.sizes_in_bounds.1)

pub slice_bounds-fill-end-2 : goal.slice_bounds-fill-end-2
slice_bounds-fill-end-2 c =
    let e = size-is c.args.sizes.now c.args.p.now c.args.lens.now c.args.flat.now _ c.product-size.result c.requires.ready c.physical_dims-d.ensures.same c.product-size.ensures in
    sym (length-take-le c.product-size.result c.args.cells.now (omega (arith, e, c.requires.sizes_in_bounds.1)))

pub offset_bounds-cells-offset : goal.offset_bounds-cells-offset
offset_bounds-cells-offset c =
    let n : c.loop-n.n < prod c.args.sizes.now = omega arith in
    let below = offset-below c.args.sizes.now c.args.p.now (tiles_from c.args.lens.now c.args.flat.now) (shaped-valid c.requires.ready.shaped) c.loop-n.n n in
    omega (arith, c.offset.ensures, below, c.requires.ready.room)

pub bounds-cells-offset : goal.bounds-cells-offset
bounds-cells-offset c =
    let n : c.loop-n.n < prod c.args.sizes.now = omega arith in
    let below = offset-below c.args.sizes.now c.args.p.now (tiles_from c.args.lens.now c.args.flat.now) (shaped-valid c.requires.ready.shaped) c.loop-n.n n in
    omega (arith, c.offset.ensures, below, c.requires.sizes_in_bounds.1)
