use Rattle.std.proofs.Common.{sym, ap, ◌∙◌}
use Rattle.shape.proofs.Repeats.{pair_answer, pair-repeat}
use Rattle.shape.proofs.dimensions.first_repeat.Goals as goal

pub returns-in-None : goal.returns-in-None
returns-in-None c = ap pair_answer (sym c.in-None.is ∙ c.first_pair.ensures) ∙ pair-repeat _

pub returns-in-Some : goal.returns-in-Some
returns-in-Some c = ap pair_answer (sym c.in-Some.is ∙ c.first_pair.ensures) ∙ pair-repeat _
