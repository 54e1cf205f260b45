-- `rules::applying::rule2` meets its contract. Assumes nothing.
use borrow.Author.Rules.{rules, sfits_of}
use mathlib.Core.Path.{ap, ◌∙◌}
use native.Mathlib.Omega.{arith}
use lib.IntN.{ℤ, nat_abs}
use mir.Syntax.{w64}
use mir.Facts.{to_z-of_z}
use Rattle.integer.specs.Floor.{floor_div}
use Rattle.integer.proofs.Trunc.{above-0, abs-above-0}
use Rattle.rules.proofs.Made.{rule2-floor, rule2-less, rule2-mod}
use Rattle.rules.proofs.applying.rule2.Statement.{statement}
use Rattle.rules.proofs.applying.rule2.Tie as tie

floor-div-requires : tie.Need-floor_div-d-requires
floor-div-requires c κs = search rules

part-p-requires : tie.Need-part_p-m-requires
part-p-requires c κs = search rules

shift-last-requires : tie.Need-shift_last-e-requires
shift-last-requires c κs = search rules

put-requires : tie.Need-put-f-requires
put-requires c κs = search rules

same_length : tie.Need-shape_of-out-then-op-eq3
same_length c = search rules

new-op-requires : tie.Need-new_op-requires
new-op-requires c κs = search rules

returns : tie.Need-returns-then-op-eq3
returns c =
    let p = c.before.before in
    let i = p.before.before in
    let z = i.before in
    let a = z.before in
    let m = a.before.before.before in
    let d = m.before.before in
    let s = d.before in
    let G = to_z-of_z s.ranges.g in
    let D = rw (to_z-of_z s.ranges.c, G) at d.floor_div-d.ensures in
    let E = D ∙ ap (λ (v : ℤ). floor_div v (nat_abs s.args.g)) (above-0 s.args.c s.requires.4) in
    let M = rw G at m.part_p-m.ensures in
    rw (c.new_op.ensures, to_z-of_z {w = w64} {z = d.floor_div-d.result} (sfits_of d.floor_div-d.type_inv)) (rule2-floor _ s.args.w.now _ _ (nat_abs s.args.c) (nat_abs s.args.g) _ s.args.q _ _ _ _ _ _ s.requires.1 (abs-above-0 _ s.requires.2) s.requires.3 s.requires.5 E M _ (to_z-of_z {w = w64} {z = s.args.q} s.ranges.q) a.shift_last-e.ensures _ _ i.if-op-eq3.true p.put-f.ensures)

part-r-requires : tie.Need-part_r-r-requires
part-r-requires c κs =
    let z = c.before.before in
    let a = z.before in
    let s = a.before.before.before.before.before.before in
    (s.requires.0, (omega (arith, a.shift_last-e.ensures.high, a.shift_last-e.ensures.same), rw (to_z-of_z s.ranges.g) s.requires.2))

same-length-2 : tie.Need-shape_of-out-then-r-e
same-length-2 c = search rules

returns-2 : tie.Need-returns-then-r-e
returns-2 c =
    let r = c.before.before.before in
    let i = r.before.before in
    let z = i.before in
    let a = z.before in
    let m = a.before.before.before in
    let d = m.before.before in
    let s = d.before in
    let G = to_z-of_z s.ranges.g in
    let D = rw (to_z-of_z s.ranges.c, G) at d.floor_div-d.ensures in
    let E = D ∙ ap (λ (v : ℤ). floor_div v (nat_abs s.args.g)) (above-0 s.args.c s.requires.4) in
    let M = rw G at m.part_p-m.ensures in
    rule2-less _ s.args.w.now _ _ (nat_abs s.args.c) (nat_abs s.args.g) _ s.args.q _ _ _ _ _ _ s.requires.1 (abs-above-0 _ s.requires.2) s.requires.3 s.requires.5 E M _ (to_z-of_z {w = w64} {z = s.args.q} s.ranges.q) a.shift_last-e.ensures _ _ _ i.if-op-eq3.false (rw G at r.part_r-r.ensures) c.if-r-e.true

skip-requires : tie.Need-skip-requires
skip-requires c κs = search rules

word-requires : tie.Need-word-requires
word-requires c κs = search rules

rest-constant-requires : tie.Need-rest_constant-k-requires
rest-constant-requires c κs =
    let r = c.before.before.before.before.before in
    let z = r.before.before.before in
    let s = z.before.before.before.before.before.before.before in
    (rw (to_z-of_z s.ranges.g) s.requires.2, rw (to_z-of_z s.ranges.g) (omega (arith, s.requires.3, s.requires.5)))

back-requires : tie.Need-back-requires
back-requires c κs = search rules

put-requires-2 : tie.Need-put-f-requires-2
put-requires-2 c κs = search rules

same-length-3 : tie.Need-shape_of-out
same-length-3 c = search rules

new-op-requires-2 : tie.Need-new_op-requires-2
new-op-requires-2 c κs = search rules

returns-3 : tie.Need-returns
returns-3 c =
    let p = c.before.before in
    let b = p.before in
    let k = b.before.before in
    let v = k.before in
    let y = v.before in
    let l = y.before in
    let r = l.before.before.before in
    let i = r.before.before in
    let z = i.before in
    let a = z.before in
    let m = a.before.before.before in
    let d = m.before.before in
    let s = d.before in
    let G = to_z-of_z s.ranges.g in
    let D = rw (to_z-of_z s.ranges.c, G) at d.floor_div-d.ensures in
    let E = D ∙ ap (λ (v : ℤ). floor_div v (nat_abs s.args.g)) (above-0 s.args.c s.requires.4) in
    let M = rw G at m.part_p-m.ensures in
    let L = rw (to_z-of_z (sfits_of v.word.type_inv), v.word.ensures, to_z-of_z s.ranges.q, G) at k.rest_constant-k.ensures in
    let P = rw (to_z-of_z (sfits_of k.rest_constant-k.type_inv)) at p.put-f-2.ensures in
    rw (c.new_op-2.ensures, to_z-of_z {w = w64} {z = d.floor_div-d.result} (sfits_of d.floor_div-d.type_inv), to_z-of_z {w = w64} {z = s.args.g} s.ranges.g)
    (rule2-mod _ s.args.w.now _ _ (nat_abs s.args.c) (nat_abs s.args.g) _ s.args.q _ _ _ _ _ _ s.requires.1 (abs-above-0 _ s.requires.2) s.requires.3 s.requires.5 E M _ (to_z-of_z {w = w64} {z = s.args.q} s.ranges.q) a.shift_last-e.ensures _ _ _ i.if-op-eq3.false (rw G at r.part_r-r.ensures) _ _ s.args.g _ _ _ l.if-r-e.false (above-0 s.args.g s.requires.2) y.skip.ensures L b.back.ensures P)

pub rule2_spec : {M : Type 1} → statement M
rule2_spec =
    tie.close
    (tie.spec
    floor-div-requires
    part-p-requires
    shift-last-requires
    put-requires
    new-op-requires
    same_length
    returns
    part-r-requires
    same-length-2
    returns-2
    skip-requires
    word-requires
    rest-constant-requires
    back-requires
    put-requires-2
    new-op-requires-2
    same-length-3
    returns-3)
