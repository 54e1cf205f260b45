-- `reciprocal::quotient` meets its contract. Assumes nothing.
use Rattle.std.proofs.Common.{sym, ◌∙◌}
use Rattle.std.proofs.lemmas.Result.{err_from_is_err_and}
use Rattle.reciprocal.specs.Answers.{floor_quotient}
use Rattle.reciprocal.proofs.Dividing.{multipliers-lent}
use Rattle.reciprocal.proofs.quotient.Goals as goal

pub returns-in_err-judge_divisor : goal.returns-in_err-judge_divisor
unfolding floor_quotient
returns-in_err-judge_divisor c =
    let p = err_from_is_err_and c.from_residual.result c.from_residual.ensures.1 in
    rw (p.1, p.2, sym c.judge_divisor.ensures, c.in_err-judge_divisor.was)

pub divide-requires-clause-are_multipliers : goal.divide-requires-clause-are_multipliers
divide-requires-clause-are_multipliers c = multipliers-lent _ c.multipliers-table.ensures

pub returns : goal.returns
unfolding floor_quotient
returns c = rw (sym c.judge_divisor.ensures ∙ c.in_ok-judge_divisor.was, c.divide.ensures.0)
