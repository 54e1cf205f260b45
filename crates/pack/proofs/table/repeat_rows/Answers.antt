-- `pack::table::repeat_rows` meets its contract. Assumes nothing.
use Rattle.std.proofs.Common.{arith, ◌+◌, ◌*◌, ◌≤◌, get_or}
use Rattle.std.proofs.Math.Nat.{one-mul, mul-le-mul_right}
use Rattle.radix.specs.Radix.{max_size, Bounded}
use Rattle.tiling.specs.Tiled.{tiles_in}
use Rattle.tiling.proofs.Shaped.{shaped-valid}
use Rattle.pack.proofs.Tables.{span-inside, span-room, coordinate-room, next-of, row-reaches, row_more}
use Rattle.pack.proofs.table.repeat_rows.Goals as goal

pub loop-x-init : goal.loop-x-init
unfolding Bounded
loop-x-init c =
    let at = span-inside c.args.t.now.sizes.now c.args.t.now.order.now c.args.t.now.lens.now c.args.t.now.entries.now c.args.t.now.ready c.args.place c.args.span c.requires.span.0 in
    (omega arith, (c.args.t.now.ready.shaped.small (get_or c.args.t.now.order.now c.args.place 0) at).0, λ k h g. c.requires.has_offsets k (omega (arith, one-mul c.args.span)) g)

pub overflow_mul-a : goal.overflow_mul-a
overflow_mul-a c =
    let room = coordinate-room c.args.t.now.sizes.now c.args.t.now.order.now c.args.t.now.lens.now c.args.t.now.entries.now c.args.t.now.ready c.args.place c.args.span c.requires.span.0 c.loop-x.x c.loop-x-test.true in
    omega (arith, room, c.args.t.now.ready.shaped.count)

pub overflow_mul-row : goal.overflow_mul-row
overflow_mul-row c =
    let w = next-of c.args.t.now.ready c.requires.span.0 c.loop-x.x c.min-most.result c.row_from-row.result.steps c.loop-x.invariant.0 c.loop-x-test.true c.min-most.ensures c.row_from-row.ensures.1 in
    let room = coordinate-room c.args.t.now.sizes.now c.args.t.now.order.now c.args.t.now.lens.now c.args.t.now.entries.now c.args.t.now.ready c.args.place c.args.span c.requires.span.0 c.loop-x.x c.loop-x-test.true in
    omega (arith, mul-le-mul_right c.args.span w.few, room, c.args.t.now.ready.shaped.count)

pub repeat_row-requires-clause-len_le_a : goal.repeat_row-requires-clause-len_le_a
repeat_row-requires-clause-len_le_a c =
    let w = next-of c.args.t.now.ready c.requires.span.0 c.loop-x.x c.min-most.result c.row_from-row.result.steps c.loop-x.invariant.0 c.loop-x-test.true c.min-most.ensures c.row_from-row.ensures.1 in
    (omega (arith, c.min-len.ensures, mul-le-mul_right c.args.span w.few), omega (arith, c.min-len.ensures, c.if-n-a.false, c.requires.span.1, c.loop-x.auto.table))

pub repeat_row-requires-clause-reaches : goal.repeat_row-requires-clause-reaches
repeat_row-requires-clause-reaches c =
    let w = next-of c.args.t.now.ready c.requires.span.0 c.loop-x.x c.min-most.result c.row_from-row.result.steps c.loop-x.invariant.0 c.loop-x-test.true c.min-most.ensures c.row_from-row.ensures.1 in
    let a = c.args in
    let r = c.args.t.now.ready in
    let all = span-room a.t.now.sizes.now a.t.now.order.now a.t.now.lens.now a.t.now.entries.now r a.place a.span c.requires.span.0 in
    let short : c.min-len.result ≤ c.row_from-row.result.steps * a.span = omega (arith, c.min-len.ensures) in
    let near : c.loop-x.x * a.span + c.min-len.result ≤ a.n = omega (arith, c.min-len.ensures, c.if-n-a.false) in
    row-reaches a.t.now.sizes.now a.t.now.order.now (tiles_in a.t.now) (get_or a.t.now.sizes.now (get_or a.t.now.order.now a.place 0) 0) a.span c.loop-x.x c.row_from-row.result.steps a.n c.min-len.result c.row_from-row.result.base c.loop-x.table w
    c.loop-x.invariant.2 c.row_from-row.ensures.0 short near (shaped-valid r.shaped) all r.room (omega (arith, near, c.requires.span.1, c.loop-x.auto.table))

pub overflow_add-x : goal.overflow_add-x
unfolding Bounded
overflow_add-x c =
    let w = next-of c.args.t.now.ready c.requires.span.0 c.loop-x.x c.min-most.result c.row_from-row.result.steps c.loop-x.invariant.0 c.loop-x-test.true c.min-most.ensures c.row_from-row.ensures.1 in
    let at = span-inside c.args.t.now.sizes.now c.args.t.now.order.now c.args.t.now.lens.now c.args.t.now.entries.now c.args.t.now.ready c.args.place c.args.span c.requires.span.0 in
    let size : get_or c.args.t.now.sizes.now (get_or c.args.t.now.order.now c.args.place 0) 0 ≤ max_size = (c.args.t.now.ready.shaped.small (get_or c.args.t.now.order.now c.args.place 0) at).1 in
    omega (arith, w.left, size)

pub loop-x-smaller : goal.loop-x-smaller
loop-x-smaller c =
    let w = next-of c.args.t.now.ready c.requires.span.0 c.loop-x.x c.min-most.result c.row_from-row.result.steps c.loop-x.invariant.0 c.loop-x-test.true c.min-most.ensures c.row_from-row.ensures.1 in
    omega (arith, w.some, w.left)

pub loop-x-preserved : goal.loop-x-preserved
loop-x-preserved c =
    let w = next-of c.args.t.now.ready c.requires.span.0 c.loop-x.x c.min-most.result c.row_from-row.result.steps c.loop-x.invariant.0 c.loop-x-test.true c.min-most.ensures c.row_from-row.ensures.1 in
    let a = c.args in
    let short : c.min-len.result ≤ c.row_from-row.result.steps * a.span = omega (arith, c.min-len.ensures) in
    let near : c.loop-x.x * a.span + c.min-len.result ≤ a.n = omega (arith, c.min-len.ensures, c.if-n-a.false) in (
      omega (arith, c.loop-x.invariant.0),
      w.left,
      row_more a.t.now.sizes.now a.t.now.order.now (tiles_in a.t.now) (get_or a.t.now.sizes.now (get_or a.t.now.order.now a.place 0) 0) a.span c.loop-x.x c.row_from-row.result.steps a.n c.min-len.result c.row_from-row.result.base c.loop-x.table w
          c.loop-x.invariant.2 c.row_from-row.ensures.0 short near c.repeat_row.new.table c.repeat_row.ensures (λ k h g. omega (arith, c.min-len.ensures, h, g)),
    )
