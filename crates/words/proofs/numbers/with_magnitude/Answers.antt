-- What the search leaves of `words::numbers::with_magnitude`. Assumes nothing.
use Rattle.std.proofs.Common.{sym, ◌∙◌, arith, w64}
use borrow.Author.Rules.{sfits_of}
use mir.Facts.{to_z-of_z}
use Rattle.integer.specs.Exact.{sign_of}
use Rattle.words.proofs.Saturated.{sat-in, sat-out}
use Rattle.words.proofs.Signs.{abs-sign}
use Rattle.words.proofs.numbers.with_magnitude.Goals as goal

pub returns-then-m-gt-LIMIT : goal.returns-then-m-gt-LIMIT
returns-then-m-gt-LIMIT c = sym (sat-out (sign_of c.args.neg c.args.m) (omega (arith, abs-sign c.args.neg c.args.m)))

pub returns : goal.returns
returns c =
    to_z-of_z {w = w64} (sfits_of c.with_sign.type_inv) ∙ c.with_sign.ensures ∙ sym (sat-in (sign_of c.args.neg c.args.m) (omega (arith, abs-sign c.args.neg c.args.m)))
