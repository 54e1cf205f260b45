-- `words::numbers::multiply_add` meets its contract. Assumes nothing.
use borrow.Author.Rules.{sfits_of}
use mathlib.Core.Path.{sym, ap, ap₂, ◌∙◌}
use native.Mathlib.Omega.{arith}
use lib.IntN.{ℤ, pos, nat_abs, ◌+ℤ◌, ◌*ℤ◌, zero-*ℤ, +ℤ_idl}
use mir.Facts.{to_z-of_z}
use mir.Syntax.{w64}
use Rattle.integer.specs.Exact.{sign_of}
use Rattle.words.specs.Saturated.{saturate}
use Rattle.words.proofs.Saturated.{sat-out}
use Rattle.words.proofs.Signs.{sign-abs, room, no_room, far}
use Rattle.words.proofs.Tests.{beq-true, beq-false}
use mathlib.Core.Bool.{Bool, not, beq}
use lib.Signed.{lt_z}
use Rattle.integer.proofs.Signs.{abs-mul, abs-zero, mul-signed}
use Rattle.words.proofs.Fits.{abs-fit}
use borrow.Author.Rules.{rules}
use Rattle.words.proofs.numbers.multiply_add.Statement.{statement}
use Rattle.words.proofs.numbers.multiply_add.Tie as tie

magnitude-requires : tie.Need-magnitude-x-requires
magnitude-requires c κs = search rules

magnitude-requires-2 : tie.Need-magnitude-y-requires
magnitude-requires-2 c κs = search rules

magnitude-requires-3 : tie.Need-magnitude-f-requires
magnitude-requires-3 c κs = search rules

saturated-requires : tie.Need-saturated-requires
saturated-requires c κs = search rules

returns : tie.Need-returns-then-x-eq0
returns c = let m3 = c.before.before in
    let m2 = m3.before in
    let m1 = m2.before in
    let s = m1.before in
    let x = rw (to_z-of_z s.ranges.k) at m1.magnitude-x.ensures in
    let y = rw (to_z-of_z s.ranges.c) at m2.magnitude-y.ensures in
    let f = rw (to_z-of_z s.ranges.e) at m3.magnitude-f.ensures in
    let k0 = abs-zero s.args.k (sym x ∙ c.if-x-eq0.true) in
    let r = rw (to_z-of_z s.ranges.e) at c.saturated.ensures in
    to_z-of_z {w = w64} (sfits_of c.saturated.type_inv) ∙ r ∙ ap saturate (sym (ap (λ (z : ℤ). (z *ℤ s.args.c) +ℤ s.args.e) k0 ∙ ap (λ (z : ℤ). z +ℤ s.args.e) (zero-*ℤ s.args.c) ∙ +ℤ_idl s.args.e))

div-if2 : tie.Need-nonzero_div-x
div-if2 c = search rules

returns-2 : tie.Need-returns-then-x-y
returns-2 c = let m3 = c.before.before in
    let m2 = m3.before in
    let m1 = m2.before in
    let s = m1.before in
    let x = rw (to_z-of_z s.ranges.k) at m1.magnitude-x.ensures in
    let y = rw (to_z-of_z s.ranges.c) at m2.magnitude-y.ensures in
    let f = rw (to_z-of_z s.ranges.e) at m3.magnitude-f.ensures in
    let h = rw (x, y) at (no_room _ _ c.if-x-eq0.false c.if-x-y.true) in
    sym (sat-out _ (far (s.args.k *ℤ s.args.c) s.args.e (rw abs-mul h) (abs-fit s.args.e s.ranges.e)))

mul-add-alike : tie.Need-overflow_mul-x
mul-add-alike c = record { fits = omega (arith, room _ _ c.if-x-eq0.false c.if-x-y.false) }

add-alike-requires : tie.Need-add_alike-requires
add-alike-requires c κs = search rules

returns-3 : tie.Need-returns-then-neg-e
returns-3 c = let t = c.before in
    let m3 = t.before.before.before in
    let m2 = m3.before in
    let m1 = m2.before in
    let s = m1.before in
    let x = rw (to_z-of_z s.ranges.k) at m1.magnitude-x.ensures in
    let y = rw (to_z-of_z s.ranges.c) at m2.magnitude-y.ensures in
    let f = rw (to_z-of_z s.ranges.e) at m3.magnitude-f.ensures in
    let r = rw (x, y, f, to_z-of_z s.ranges.k, to_z-of_z s.ranges.c) at c.add_alike.ensures in
    let b = rw (to_z-of_z s.ranges.k, to_z-of_z s.ranges.c, to_z-of_z s.ranges.e) at t.if-neg-e.true in
    to_z-of_z {w = w64} (sfits_of c.add_alike.type_inv) ∙ r ∙ ap₂ (λ (u v : ℤ). saturate (u +ℤ v)) (mul-signed s.args.k s.args.c) (ap (λ (n : Bool). sign_of n (nat_abs s.args.e)) (beq-true (not (beq (lt_z s.args.k (pos 0)) (lt_z s.args.c (pos 0)))) (lt_z s.args.e (pos 0)) b) ∙ sign-abs s.args.e)

mul-add-opposed : tie.Need-overflow_mul-x-2
mul-add-opposed c = record { fits = omega (arith, room _ _ c.if-x-eq0.false c.if-x-y.false) }

add-opposed-requires : tie.Need-add_opposed-requires
add-opposed-requires c κs = search rules

returns-4 : tie.Need-returns
returns-4 c = let t = c.before in
    let m3 = t.before.before.before in
    let m2 = m3.before in
    let m1 = m2.before in
    let s = m1.before in
    let x = rw (to_z-of_z s.ranges.k) at m1.magnitude-x.ensures in
    let y = rw (to_z-of_z s.ranges.c) at m2.magnitude-y.ensures in
    let f = rw (to_z-of_z s.ranges.e) at m3.magnitude-f.ensures in
    let r = rw (x, y, f, to_z-of_z s.ranges.k, to_z-of_z s.ranges.c) at c.add_opposed.ensures in
    let b = rw (to_z-of_z s.ranges.k, to_z-of_z s.ranges.c, to_z-of_z s.ranges.e) at t.if-neg-e.false in
    to_z-of_z {w = w64} (sfits_of c.add_opposed.type_inv) ∙ r ∙ ap₂ (λ (u v : ℤ). saturate (u +ℤ v)) (mul-signed s.args.k s.args.c) (ap (λ (n : Bool). sign_of n (nat_abs s.args.e)) (sym (beq-false (not (beq (lt_z s.args.k (pos 0)) (lt_z s.args.c (pos 0)))) (lt_z s.args.e (pos 0)) b)) ∙ sign-abs s.args.e)

pub multiply_add_spec : {M : Type 1} → statement M
multiply_add_spec =
    tie.close
    (tie.spec
    magnitude-requires
    magnitude-requires-2
    magnitude-requires-3
    saturated-requires
    returns
    div-if2
    returns-2
    mul-add-alike
    add-alike-requires
    returns-3
    mul-add-opposed
    add-opposed-requires
    returns-4)
