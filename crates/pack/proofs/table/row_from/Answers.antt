-- `pack::table::row_from` meets its contract. Assumes nothing.
use Rattle.std.proofs.Common.{arith, List, ℕ, ◌+◌, ◌-◌, length, take, drop, sym, ap, subst}
use Rattle.radix.specs.Radix.{Sizes}
use Rattle.tiling.specs.declared.row.Reach.{Reach}
use Rattle.pack.proofs.Tables.{coordinate-room, first_of, base-is}
use Rattle.pack.proofs.table.row_from.Goals as goal

pub overflow_mul-rest : goal.overflow_mul-rest
overflow_mul-rest c =
    let w = first_of c.args.t.now.sizes.now c.args.t.now.order.now c.args.t.now.lens.now c.args.t.now.entries.now c.args.t.now.ready c.args.place c.args.span c.requires.span.0 c.args.x c.requires.span.2 c.requires.span.1 c.args.most c.row_reach-f.result c.row_reach-f.ensures in
    omega (arith, w.part, c.ranges.x)

pub overflow_sub-rest : goal.overflow_sub-rest
overflow_sub-rest c =
    let w = first_of c.args.t.now.sizes.now c.args.t.now.order.now c.args.t.now.lens.now c.args.t.now.entries.now c.args.t.now.ready c.args.place c.args.span c.requires.span.0 c.args.x c.requires.span.2 c.requires.span.1 c.args.most c.row_reach-f.result c.row_reach-f.ensures in
    w.part

pub overflow_mul-rest-2 : goal.overflow_mul-rest-2
overflow_mul-rest-2 c =
    let w = first_of c.args.t.now.sizes.now c.args.t.now.order.now c.args.t.now.lens.now c.args.t.now.entries.now c.args.t.now.ready c.args.place c.args.span c.requires.span.0 c.args.x c.requires.span.2 c.requires.span.1 c.args.most c.row_reach-f.result c.row_reach-f.ensures in
    let room = coordinate-room c.args.t.now.sizes.now c.args.t.now.order.now c.args.t.now.lens.now c.args.t.now.entries.now c.args.t.now.ready c.args.place c.args.span c.requires.span.0 c.args.x c.requires.span.2 in
    omega (arith, w.rest, room, c.args.t.now.ready.shaped.count)

pub overflow_add-next : goal.overflow_add-next
overflow_add-next c =
    let w = first_of c.args.t.now.sizes.now c.args.t.now.order.now c.args.t.now.lens.now c.args.t.now.entries.now c.args.t.now.ready c.args.place c.args.span c.requires.span.0 c.args.x c.requires.span.2 c.requires.span.1 c.args.most c.row_reach-f.result c.row_reach-f.ensures in
    omega (arith, w.place, ap length c.args.t.now.same)

pub bounds-table-rest : goal.bounds-table-rest
bounds-table-rest c =
    let w = first_of c.args.t.now.sizes.now c.args.t.now.order.now c.args.t.now.lens.now c.args.t.now.entries.now c.args.t.now.ready c.args.place c.args.span c.requires.span.0 c.args.x c.requires.span.2 c.requires.span.1 c.args.most c.row_reach-f.result c.row_reach-f.ensures in
    omega (arith, w.rest, c.requires.span.3)

pub offset_bounds-t-next : goal.offset_bounds-t-next
offset_bounds-t-next c =
    let w = first_of c.args.t.now.sizes.now c.args.t.now.order.now c.args.t.now.lens.now c.args.t.now.entries.now c.args.t.now.ready c.args.place c.args.span c.requires.span.0 c.args.x c.requires.span.2 c.requires.span.1 c.args.most c.row_reach-f.result c.row_reach-f.ensures in
    omega (arith, w.place, ap length c.args.t.now.same)

pub slice_bounds-product-count : goal.slice_bounds-product-count
slice_bounds-product-count c =
    let w = first_of c.args.t.now.sizes.now c.args.t.now.order.now c.args.t.now.lens.now c.args.t.now.entries.now c.args.t.now.ready c.args.place c.args.span c.requires.span.0 c.args.x c.requires.span.2 c.requires.span.1 c.args.most c.row_reach-f.result c.row_reach-f.ensures in
    omega (arith, w.place, ap length c.args.t.now.same)

pub slice_bounds-product-start : goal.slice_bounds-product-start
slice_bounds-product-start c =
    let w = first_of c.args.t.now.sizes.now c.args.t.now.order.now c.args.t.now.lens.now c.args.t.now.entries.now c.args.t.now.ready c.args.place c.args.span c.requires.span.0 c.args.x c.requires.span.2 c.requires.span.1 c.args.most c.row_reach-f.result c.row_reach-f.ensures in
    omega (arith, w.place, ap length c.args.t.now.same)

pub product-requires : goal.product-requires
product-requires c =
    let w = first_of c.args.t.now.sizes.now c.args.t.now.order.now c.args.t.now.lens.now c.args.t.now.entries.now c.args.t.now.ready c.args.place c.args.span c.requires.span.0 c.args.x c.requires.span.2 c.requires.span.1 c.args.most c.row_reach-f.result c.row_reach-f.ensures in
    subst (λ (l : List ℕ). Sizes (take (length l - (c.row_reach-f.result.place + 1)) (drop (c.row_reach-f.result.place + 1) l))) (sym c.args.t.now.same) w.after

pub overflow_mul-base : goal.overflow_mul-base
overflow_mul-base c =
    let w = first_of c.args.t.now.sizes.now c.args.t.now.order.now c.args.t.now.lens.now c.args.t.now.entries.now c.args.t.now.ready c.args.place c.args.span c.requires.span.0 c.args.x c.requires.span.2 c.requires.span.1 c.args.most c.row_reach-f.result c.row_reach-f.ensures in
    let e = base-is c.args.t.now.ready c.args.t.now.dims.now c.args.t.now.same c.args.table.now c.requires.has_offsets c.requires.span.3 w c.product.result c.product.ensures in
    omega (arith, e, w.small)

pub overflow_add-base : goal.overflow_add-base
overflow_add-base c =
    let w = first_of c.args.t.now.sizes.now c.args.t.now.order.now c.args.t.now.lens.now c.args.t.now.entries.now c.args.t.now.ready c.args.place c.args.span c.requires.span.0 c.args.x c.requires.span.2 c.requires.span.1 c.args.most c.row_reach-f.result c.row_reach-f.ensures in
    let e = base-is c.args.t.now.ready c.args.t.now.dims.now c.args.t.now.same c.args.table.now c.requires.has_offsets c.requires.span.3 w c.product.result c.product.ensures in
    omega (arith, e, w.small)

pub returns : goal.returns
returns c =
    let w = first_of c.args.t.now.sizes.now c.args.t.now.order.now c.args.t.now.lens.now c.args.t.now.entries.now c.args.t.now.ready c.args.place c.args.span c.requires.span.0 c.args.x c.requires.span.2 c.requires.span.1 c.args.most c.row_reach-f.result c.row_reach-f.ensures in
    let e = base-is c.args.t.now.ready c.args.t.now.dims.now c.args.t.now.same c.args.table.now c.requires.has_offsets c.requires.span.3 w c.product.result c.product.ensures in
    (e, ap (λ (f : Reach). f.most) c.row_reach-f.ensures)
