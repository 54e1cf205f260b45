-- `expression::reckoning::mod_range` meets its contract. Assumes nothing.
use borrow.Author.Rules.{sfits_of}
use mathlib.Core.Path.{sym, ap, ◌∙◌}
use Prim.Native.Nat.{◌-◌, ◌≤◌}
use native.Mathlib.Omega.{arith}
use lib.IntN.{pos, nat_abs}
use Rattle.integer.specs.Exact.{limit}
use mir.Facts.{to_z-of_z}
use mir.Syntax.{w64}
use mir.Val.{to_z, of_z}
use Rattle.integer.proofs.Trunc.{abs-above-0}
use Rattle.expression.specs.Node.{max_divisor}
use Rattle.expression.proofs.Tests.{small-fits, pred-is}
use Rattle.expression.proofs.Ends.{mod_same, mod-other}
use Rattle.expression.proofs.reckoning.mod_range.Goals as goal

pub returns-then-p-q : goal.returns-then-p-q
returns-then-p-q c =
    let p = rw (to_z-of_z c.ranges.lo, to_z-of_z c.ranges.c) at c.floor_div-p.ensures in
    let q = rw (to_z-of_z c.ranges.hi, to_z-of_z c.ranges.c) at c.floor_div-q.ensures in
    let fp = to_z-of_z {w = w64} (sfits_of c.floor_div-p.type_inv) in
    let fq = to_z-of_z {w = w64} (sfits_of c.floor_div-q.type_inv) in
    let e = sym p ∙ sym fp ∙ ap (to_z w64) c.if-p-q.true ∙ fq ∙ q in
    let a = rw (to_z-of_z c.ranges.lo, to_z-of_z c.ranges.c) at c.floor_mod.ensures in
    let b = rw (to_z-of_z c.ranges.hi, to_z-of_z c.ranges.c) at c.floor_mod-then-p-q.ensures in
    rw (to_z-of_z (sfits_of c.floor_mod.type_inv), to_z-of_z (sfits_of c.floor_mod-then-p-q.type_inv), a, b) (mod_same c.args.lo c.args.hi (nat_abs c.args.c) (abs-above-0 _ c.requires.0.0) c.requires.0.1 e)

pub returns-else-p-q : goal.returns-else-p-q
returns-else-p-q c =
    let p = rw (to_z-of_z c.ranges.lo, to_z-of_z c.ranges.c) at c.floor_div-p.ensures in
    let q = rw (to_z-of_z c.ranges.hi, to_z-of_z c.ranges.c) at c.floor_div-q.ensures in
    let h : nat_abs c.args.c ≤ max_divisor = c.requires.0.1 in
    let z = abs-above-0 _ c.requires.0.0 in
    let k : nat_abs c.args.c - 1 ≤ limit = omega arith in
    rw (to_z-of_z c.ranges.c, pred-is c.args.c c.requires.0.0, to_z-of_z {w = w64} {z = pos (nat_abs c.args.c - 1)} (small-fits (pos (nat_abs c.args.c - 1)) k)) (mod-other c.args.lo c.args.hi (nat_abs c.args.c) h (λ e. c.if-p-q.false (ap (of_z w64) (p ∙ e ∙ sym q))))
