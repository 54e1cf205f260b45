-- `rules::applying::rule3` meets its contract. Assumes nothing.
use borrow.Author.Rules.{rules}
use mathlib.Core.Path.{refl, ◌∙◌}
use native.Mathlib.Omega.{arith}
use lib.IntN.{nat_abs}
use mir.Syntax.{w64}
use mir.Facts.{to_z-of_z}
use Rattle.integer.proofs.Trunc.{abs-above-0}
use Rattle.rules.proofs.Made.{rule3-both, rule3-less, rule3-zero}
use Rattle.rules.proofs.applying.rule3.Statement.{statement}
use Rattle.rules.proofs.applying.rule3.Tie as tie

part-r-requires : tie.Need-part_r-r-requires
part-r-requires c κs = search rules

part-p-requires : tie.Need-part_p-m-requires
part-p-requires c κs =
    let r = c.before.before.before in
    let s = r.before.before in
    (s.requires.0, (omega (arith, r.part_r-r.ensures.high, r.part_r-r.ensures.same), rw (to_z-of_z s.ranges.c) s.requires.2))

same_length : tie.Need-shape_of-out-then-m-r
same_length c =
    let y = c.before.before.before.before in
    y.part_p-m.ensures.same ∙ y.part_r-r.ensures.same

returns : tie.Need-returns-then-m-r
returns c =
    let y = c.before.before.before.before in
    let i = y.before.before in
    let r = i.before.before in
    let s = r.before.before in
    rule3-less _ s.args.w.now _ _ (nat_abs s.args.c) s.args.c _ _ _ _ _ s.requires.1 s.requires.2 refl (abs-above-0 _ s.requires.2) s.requires.3
    (rw (to_z-of_z s.ranges.c) at r.part_r-r.ensures) _ _ i.if-op-eq3.true (rw (to_z-of_z s.ranges.c) at y.part_p-m.ensures) c.if-m-r.true

new-op-requires : tie.Need-new_op-requires
new-op-requires c κs = search rules

same-length-2 : tie.Need-shape_of-out-then-op-eq3
same-length-2 c =
    let y = c.before.before.before.before.before in
    y.part_p-m.ensures.same ∙ y.part_r-r.ensures.same

returns-2 : tie.Need-returns-then-op-eq3
returns-2 c =
    let l = c.before in
    let y = l.before.before.before.before in
    let i = y.before.before in
    let r = i.before.before in
    let s = r.before.before in
    rw (c.new_op.ensures, to_z-of_z {w = w64} {z = s.args.c} s.ranges.c)
    (rule3-both _ s.args.w.now _ _ (nat_abs s.args.c) s.args.c _ _ _ _ _ s.requires.1 s.requires.2 refl (abs-above-0 _ s.requires.2) s.requires.3
    (rw (to_z-of_z s.ranges.c) at r.part_r-r.ensures) _ _ i.if-op-eq3.true (rw (to_z-of_z s.ranges.c) at y.part_p-m.ensures) l.if-m-r.false)

put-requires : tie.Need-put-f-requires
put-requires c κs = search rules

new-op-requires-2 : tie.Need-new_op-requires-2
new-op-requires-2 c κs = search rules

same-length-3 : tie.Need-shape_of-out
same-length-3 c = search rules

returns-3 : tie.Need-returns
returns-3 c =
    let y = c.before.before in
    let i = y.before.before in
    let r = i.before.before in
    let s = r.before.before in
    rw (c.new_op-2.ensures, to_z-of_z {w = w64} {z = s.args.c} s.ranges.c)
    (rule3-zero _ s.args.w.now _ _ (nat_abs s.args.c) s.args.c _ _ _ _ _ s.requires.1 s.requires.2 refl (abs-above-0 _ s.requires.2) s.requires.3
    (rw (to_z-of_z s.ranges.c) at r.part_r-r.ensures) _ i.if-op-eq3.false y.put-f.ensures)

pub rule3_spec : {M : Type 1} → statement M
rule3_spec =
    tie.close
    (tie.spec
    part-r-requires
    part-p-requires
    same_length
    returns
    new-op-requires
    same-length-2
    returns-2
    put-requires
    new-op-requires-2
    same-length-3
    returns-3)
