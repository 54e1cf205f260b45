-- `pack::rows::carry_rows` meets its contract. Assumes nothing.
use Rattle.std.proofs.Common.{arith, ◌≡◌, ℕ, ◌*◌, sym, ap, ◌∙◌, subst}
use Rattle.std.proofs.Math.Nat.{zero-mul}
use Rattle.radix.specs.Radix.{prod}
use Rattle.tiling.specs.Tiled.{tiles_in}
use Rattle.pack.specs.Rows.{CarriedTo}
use Rattle.pack.proofs.Cuts.{row-part, row-room, carried-more}
use Rattle.pack.proofs.Walking.{carried-none}
use Rattle.pack.proofs.rows.carry_rows.Goals as goal

pub loop-q-init : goal.loop-q-init
loop-q-init c =
    let a = c.args in (
      omega arith,
      subst (λ (n : ℕ). CarriedTo a.packs a.t.now.sizes.now a.t.now.order.now (tiles_in a.t.now) a.from.now n a.to.now a.to.now) (sym (zero-mul a.g.span))
          (carried-none a.packs a.t.now.sizes.now a.t.now.order.now (tiles_in a.t.now) a.from.now a.to.now),
    )

pub slice_bounds-carry_row-end : goal.slice_bounds-carry_row-end
slice_bounds-carry_row-end c =
    let w = row-part c.args.t.now.ready c.requires.cut.0 c.args.table.now c.requires.cut.1 c.row_steps-r.ensures c.offset-base.result c.offset-base.ensures in
    sym w.long

pub carry_row-requires-clause-room : goal.carry_row-requires-clause-room
carry_row-requires-clause-room c =
    let w = row-part c.args.t.now.ready c.requires.cut.0 c.args.table.now c.requires.cut.1 c.row_steps-r.ensures c.offset-base.result c.offset-base.ensures in
    row-room c.args.packs w c.args.from.now c.args.to.now c.loop-q.to c.requires.has_room c.loop-q.auto.to

pub loop-q-preserved : goal.loop-q-preserved
loop-q-preserved c =
    let w = row-part c.args.t.now.ready c.requires.cut.0 c.args.table.now c.requires.cut.1 c.row_steps-r.ensures c.offset-base.result c.offset-base.ensures in (
      c.row_steps-r.ensures.inside,
      carried-more c.args.packs c.args.t.now.ready w c.args.from.now c.args.to.now c.loop-q.to c.carry_row.new.to c.requires.has_room c.loop-q.auto.to c.loop-q.invariant.1 c.carry_row.ensures,
    )

pub returns : goal.returns
returns c =
    let a = c.args in
    let q : c.loop-q.q ≡ a.g.steps = omega (arith, c.loop-q.invariant.0, c.loop-q-test.false) in
    let e : c.loop-q.q * a.g.span ≡ prod a.t.now.sizes.now = ap (λ (k : ℕ). k * a.g.span) q ∙ c.requires.cut.0.count in
    subst (λ (n : ℕ). CarriedTo a.packs a.t.now.sizes.now a.t.now.order.now (tiles_in a.t.now) a.from.now n a.to.now c.loop-q.to) e c.loop-q.invariant.1
