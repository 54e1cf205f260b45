-- `rules::applying::stays` meets its contract. Assumes nothing.
use borrow.Author.Rules.{rules}
use lib.IntN.{nat_abs}
use mir.Syntax.{w64}
use mir.Facts.{to_z-of_z}
use Rattle.integer.proofs.Trunc.{above-0}
use Rattle.rules.proofs.Made.{stays-made}
use Rattle.rules.proofs.applying.stays.Statement.{statement}
use Rattle.rules.proofs.applying.stays.Tie as tie

reckon-requires : tie.Need-reckon-r-requires
reckon-requires c κs = search rules

op-ends-requires : tie.Need-op_ends-ends-requires
op-ends-requires c κs = search rules

wrap-requires : tie.Need-wrap-end-requires
wrap-requires c κs = search rules

same_length : tie.Need-shape_of-out
same_length c = search rules

returns : tie.Need-returns
returns c =
    let y = c.before in
    let t4 = y.before in
    let t3 = t4.before in
    let e = t3.before.before in
    let t2 = e.before in
    let t1 = t2.before in
    let r = t1.before in
    let s = r.before in
    let l = to_z-of_z {w = w64} {z = r.reckon-r.result.lo} (record { sfits = t1.struct_told-1.given.1.0.1 }) in
    let h = to_z-of_z {w = w64} {z = r.reckon-r.result.hi} (record { sfits = t2.struct_told-2-1.given.1.1.0.1 }) in
    let a = to_z-of_z {w = w64} {z = e.op_ends-ends.result.lo} (record { sfits = t3.struct_told-3-1.given.0.1 }) in
    let b = to_z-of_z {w = w64} {z = e.op_ends-ends.result.hi} (record { sfits = t4.struct_told-4-1.given.1.0.1 }) in
    stays-made _ s.args.w.now _ _ _ _ _ (nat_abs s.args.c) s.args.c _ _ _ _ _ (above-0 s.args.c s.requires.3) r.reckon-r.ensures (rw (l, h, to_z-of_z s.ranges.c) at e.op_ends-ends.ensures) (rw (to_z-of_z s.ranges.c, a, b) at y.wrap-end.ensures)

pub stays_spec : {M : Type 1} → statement M
stays_spec =
    tie.close (tie.spec reckon-requires op-ends-requires wrap-requires same_length returns)
