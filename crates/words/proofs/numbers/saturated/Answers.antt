-- What the search leaves of `words::numbers::saturated`. Assumes nothing.
use Rattle.std.proofs.Common.{sym, ◌∙◌}
use mir.Facts.{to_z-of_z}
use Rattle.words.proofs.Ends.{sat-kept}
use Rattle.words.proofs.Saturated.{sat-large}
use Rattle.words.proofs.numbers.saturated.Goals as goal

pub returns-then-is_small : goal.returns-then-is_small
returns-then-is_small c =
    to_z-of_z c.ranges.s ∙ sym (sat-kept c.args.s (sym (rw (to_z-of_z c.ranges.s) at c.is_small.ensures) ∙ c.if-is_small.true))

pub returns-else-is_small : goal.returns-else-is_small
returns-else-is_small c = sym (sat-large c.args.s (sym (rw (to_z-of_z c.ranges.s) at c.is_small.ensures) ∙ c.if-is_small.false))
