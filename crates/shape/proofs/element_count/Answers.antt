-- `shape::element_count` meets its contract. Assumes nothing.
use Rattle.std.proofs.Common.{sym, ◌∙◌}
use Rattle.shape.specs.Answers.{element_count}
use Rattle.shape.proofs.element_count.Goals as goal

pub returns-then-good_shape : goal.returns-then-good_shape
unfolding element_count
returns-then-good_shape c = rw (c.count_of.ensures, sym c.good_shape.ensures ∙ c.if-good_shape.true)

pub returns-else-good_shape : goal.returns-else-good_shape
unfolding element_count
returns-else-good_shape c = rw (sym c.good_shape.ensures ∙ c.if-good_shape.false)
