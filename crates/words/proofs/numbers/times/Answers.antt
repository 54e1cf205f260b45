-- What the search leaves of `words::numbers::times`. Assumes nothing.
use Rattle.std.proofs.Common.{Option, unwrap_or, ap, ◌∙◌, ℤ, w64}
use borrow.Author.Rules.{sfits_of}
use mir.Facts.{to_z-of_z}
use Rattle.words.specs.Saturated.{over_limit}
use Rattle.words.proofs.Saturated.{sat-exactly}
use Rattle.words.proofs.numbers.times.Goals as goal

pub returns : goal.returns
returns c =
    to_z-of_z {w = w64} (sfits_of c.unwrap_or.type_inv) ∙ c.unwrap_or.ensures
    ∙ ap (λ (o : Option ℤ). unwrap_or o over_limit) (rw (to_z-of_z c.ranges.a, to_z-of_z c.ranges.b) at c.exact_mul.ensures) ∙ sat-exactly _
