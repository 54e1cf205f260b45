-- `rules::applying::op_ends` meets its contract. Assumes nothing.
use Rattle.std.proofs.Common.{◌≡◌, ◌∙◌, sym, ap, arith, rules, pos, nat_abs, ◌-ℤ◌, w64, to_z, of_z}
use mir.Facts.{to_z-of_z}
use Rattle.integer.proofs.Trunc.{abs-above-0}
use Rattle.expression.proofs.Tests.{small-fits, pred-is}
use Rattle.rules.proofs.Numbers.{ends-floor, ends_same, ends-other}
use Rattle.rules.proofs.applying.op_ends.Goals as goal

pub returns-then-op-eq3 : goal.returns-then-op-eq3
returns-then-op-eq3 c =
    let l : to_z w64 (of_z w64 c.floor_div-l.result) ≡ c.floor_div-l.result = search rules in
    let h : to_z w64 (of_z w64 c.floor_div-h.result) ≡ c.floor_div-h.result = search rules in
    let p = rw (to_z-of_z c.ranges.lo, to_z-of_z c.ranges.c) at c.floor_div-l.ensures in
    let q = rw (to_z-of_z c.ranges.hi, to_z-of_z c.ranges.c) at c.floor_div-h.ensures in
    rw (l, h, p, q) (ends-floor _ c.args.lo c.args.hi (nat_abs c.args.c) c.if-op-eq3.true)

pub returns-then-l-h : goal.returns-then-l-h
returns-then-l-h c =
    let l : to_z w64 (of_z w64 c.floor_div-l.result) ≡ c.floor_div-l.result = search rules in
    let h : to_z w64 (of_z w64 c.floor_div-h.result) ≡ c.floor_div-h.result = search rules in
    let a : to_z w64 (of_z w64 c.floor_mod-a.result) ≡ c.floor_mod-a.result = search rules in
    let b : to_z w64 (of_z w64 c.floor_mod-b.result) ≡ c.floor_mod-b.result = search rules in
    let p = rw (to_z-of_z c.ranges.lo, to_z-of_z c.ranges.c) at c.floor_div-l.ensures in
    let q = rw (to_z-of_z c.ranges.hi, to_z-of_z c.ranges.c) at c.floor_div-h.ensures in
    let e = sym p ∙ sym l ∙ ap (to_z w64) c.if-l-h.true ∙ h ∙ q in
    let m = rw (to_z-of_z c.ranges.lo, to_z-of_z c.ranges.c) at c.floor_mod-a.ensures in
    let n = rw (to_z-of_z c.ranges.hi, to_z-of_z c.ranges.c) at c.floor_mod-b.ensures in
    rw (a, b, m, n) (ends_same _ c.args.lo c.args.hi (nat_abs c.args.c) c.if-op-eq3.false e)

pub returns : goal.returns
returns c =
    let z = abs-above-0 _ c.requires.0 in
    let s = small-fits (c.args.c -ℤ pos 1) (rw (pred-is c.args.c c.requires.0) (omega (arith, c.requires.1))) in
    let p = rw (to_z-of_z c.ranges.lo, to_z-of_z c.ranges.c) at c.floor_div-l.ensures in
    let q = rw (to_z-of_z c.ranges.hi, to_z-of_z c.ranges.c) at c.floor_div-h.ensures in
    rw (to_z-of_z c.ranges.c, to_z-of_z s, pred-is c.args.c c.requires.0)
    (ends-other _ c.args.lo c.args.hi (nat_abs c.args.c) c.if-op-eq3.false (λ e. c.if-l-h.false (ap (of_z w64) (p ∙ e ∙ sym q))))
