use Rattle.std.proofs.Common.{sym, ap, ◌∙◌}
use Rattle.std.specs.Option.{is_some}
use Rattle.shape.specs.Dimensions.{is_permutation}
use Rattle.shape.proofs.Repeats.{pair-free}
use Rattle.shape.proofs.dimensions.is_permutation.Goals as goal

pub returns-then-in_range : goal.returns-then-in_range
unfolding is_permutation
returns-then-in_range c =
    rw (sym c.in_range.ensures ∙ c.if-in_range.true) (pair-free _ _ (ap is_some (sym c.first_pair.ensures) ∙ c.is_none.ensures))

pub returns-else-in_range : goal.returns-else-in_range
unfolding is_permutation
returns-else-in_range c = rw (c.if-in_range.false, sym c.in_range.ensures ∙ c.if-in_range.false)
