-- What the search leaves of `words::numbers::add_opposed`. Assumes nothing.
use Rattle.std.proofs.Common.{ap, ◌∙◌, w64}
use borrow.Author.Rules.{sfits_of}
use mir.Facts.{to_z-of_z}
use Rattle.words.specs.Saturated.{saturate}
use Rattle.words.proofs.Signs.{first-larger, second-larger}
use Rattle.words.proofs.numbers.add_opposed.Goals as goal

pub returns-then-f-m : goal.returns-then-f-m
returns-then-f-m c =
    to_z-of_z {w = w64} (sfits_of c.with_magnitude.type_inv) ∙ c.with_magnitude.ensures ∙ ap saturate (first-larger c.args.neg c.args.m c.args.f c.if-f-m.true)

pub returns : goal.returns
returns c =
    to_z-of_z {w = w64} (sfits_of c.with_magnitude-2.type_inv) ∙ c.with_magnitude-2.ensures ∙ ap saturate (second-larger c.args.neg c.args.m c.args.f c.if-f-m.false)
