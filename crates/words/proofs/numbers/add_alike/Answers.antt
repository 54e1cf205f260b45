-- What the search leaves of `words::numbers::add_alike`. Assumes nothing.
use Rattle.std.proofs.Common.{sym, ap, ◌∙◌, arith, w64, ◌+◌, nat_abs, ◌+ℤ◌}
use borrow.Author.Rules.{sfits_of}
use mir.Facts.{to_z-of_z}
use Rattle.integer.specs.Exact.{sign_of}
use Rattle.words.specs.Saturated.{saturate}
use Rattle.words.proofs.Saturated.{sat-out}
use Rattle.words.proofs.Signs.{abs-sign, one-sign}
use Rattle.words.proofs.numbers.add_alike.Goals as goal

pub returns-then-m-gt-LIMIT : goal.returns-then-m-gt-LIMIT
returns-then-m-gt-LIMIT c =
    sym (sat-out (sign_of c.args.neg c.args.m +ℤ sign_of c.args.neg c.args.f)
    (omega (arith, ap nat_abs (one-sign c.args.neg c.args.m c.args.f), abs-sign c.args.neg (c.args.m + c.args.f))))

pub returns-then-m-f : goal.returns-then-m-f
returns-then-m-f c =
    sym (sat-out (sign_of c.args.neg c.args.m +ℤ sign_of c.args.neg c.args.f)
    (omega (arith, ap nat_abs (one-sign c.args.neg c.args.m c.args.f), abs-sign c.args.neg (c.args.m + c.args.f))))

pub returns : goal.returns
returns c = to_z-of_z {w = w64} (sfits_of c.with_magnitude.type_inv) ∙ c.with_magnitude.ensures ∙ ap saturate (one-sign c.args.neg c.args.m c.args.f)
