-- `rules::applying::rest_constant` meets its contract. Assumes nothing.
use borrow.Author.Rules.{rules, sfits_of}
use native.Mathlib.Omega.{arith}
use mir.Facts.{to_z-of_z}
use Rattle.integer.proofs.Trunc.{abs-above-0}
use Rattle.rules.proofs.Numbers.{leaves_none, product-fits, rest-fits, leaves-is}
use Rattle.rules.proofs.applying.rest_constant.Statement.{statement}
use Rattle.rules.proofs.applying.rest_constant.Tie as tie

magnitude-requires : tie.Need-magnitude-x-requires
magnitude-requires c κs = search rules

magnitude-requires-2 : tie.Need-magnitude-y-requires
magnitude-requires-2 c κs = search rules

div-if1 : tie.Need-nonzero_div-x
div-if1 c =
    let s = c.before.before in
    let e = rw (to_z-of_z s.ranges.g) at c.magnitude-x.ensures in
    let h = abs-above-0 _ s.requires.0 in
    omega arith

returns : tie.Need-returns-then-x-y
returns c =
    let b = c.before in
    let s = b.before.before in
    let e = rw (to_z-of_z s.ranges.g) at b.magnitude-x.ensures in
    let f = rw (to_z-of_z s.ranges.q) at b.magnitude-y.ensures in
    leaves_none s.args.k s.args.q s.args.g (abs-above-0 _ s.requires.0) (rw (e, f) at c.if-x-y.true)

floor-mod-requires : tie.Need-floor_mod-requires
floor-mod-requires c κs = search rules

mul-result : tie.Need-overflow_mul-result
mul-result c =
    let b = c.before.before in
    let s = b.before.before in
    let e = rw (to_z-of_z s.ranges.g) at b.magnitude-x.ensures in
    let f = rw (to_z-of_z s.ranges.q) at b.magnitude-y.ensures in
    rw (to_z-of_z s.ranges.q, to_z-of_z s.ranges.g) (product-fits s.args.k s.args.q s.args.g (abs-above-0 _ s.requires.0) (rw (e, f) at c.if-x-y.false))

sub-result : tie.Need-overflow_sub-result
sub-result c =
    let b = c.before.before in
    let s = b.before.before in
    let e = rw (to_z-of_z s.ranges.g) at b.magnitude-x.ensures in
    let f = rw (to_z-of_z s.ranges.q) at b.magnitude-y.ensures in
    let m = rw (to_z-of_z s.ranges.k, to_z-of_z s.ranges.g) at c.floor_mod.ensures in
    rw (to_z-of_z (mul-result c), to_z-of_z s.ranges.q, to_z-of_z s.ranges.g, to_z-of_z (sfits_of c.floor_mod.type_inv), m)
    (rest-fits s.args.k s.args.q s.args.g (abs-above-0 _ s.requires.0) (rw (e, f) at c.if-x-y.false) s.requires.1)

returns-2 : tie.Need-returns
returns-2 c =
    let b = c.before.before in
    let s = b.before.before in
    let e = rw (to_z-of_z s.ranges.g) at b.magnitude-x.ensures in
    let f = rw (to_z-of_z s.ranges.q) at b.magnitude-y.ensures in
    let m = rw (to_z-of_z s.ranges.k, to_z-of_z s.ranges.g) at c.floor_mod.ensures in
    rw (to_z-of_z (sub-result c), to_z-of_z (mul-result c), to_z-of_z s.ranges.q, to_z-of_z s.ranges.g, to_z-of_z (sfits_of c.floor_mod.type_inv), m)
    (leaves-is s.args.k s.args.q s.args.g (abs-above-0 _ s.requires.0) (rw (e, f) at c.if-x-y.false))

pub rest_constant_spec : {M : Type 1} → statement M
rest_constant_spec =
    tie.close
    (tie.spec
    magnitude-requires
    magnitude-requires-2
    div-if1
    returns
    floor-mod-requires
    mul-result
    sub-result
    returns-2)
