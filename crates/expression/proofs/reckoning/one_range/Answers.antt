-- `expression::reckoning::one_range` meets its contract. Assumes nothing.
use borrow.Author.Rules.{rules, sfits_of}
use lib.IntN.{nat_abs}
use mathlib.Core.Path.{◌≡◌}
use mir.Syntax.{w64}
use mir.Val.{to_z, of_z}
use mir.Facts.{to_z-of_z}
use Rattle.expression.proofs.Ends.{floor-range}
use Rattle.expression.proofs.reckoning.one_range.Goals as goal

pub returns-in-Floordiv : goal.returns-in-Floordiv
returns-in-Floordiv c =
    let e = c.in-Floordiv.is in
    let kc : to_z w64 (of_z w64 c.in-Floordiv.c) ≡ c.in-Floordiv.c = search rules in
    let a = rw (to_z-of_z c.ranges.lo, kc) at c.floor_div.ensures in
    let b = rw (to_z-of_z c.ranges.hi, kc) at c.floor_div-in-Floordiv.ensures in
    rw (to_z-of_z (sfits_of c.floor_div.type_inv), to_z-of_z (sfits_of c.floor_div-in-Floordiv.type_inv), a, b, e) (floor-range c.args.lo c.args.hi (nat_abs c.in-Floordiv.c) c.requires.1.0 c.requires.1.1)
