-- `shape::element_number` meets its contract. Assumes nothing.
use Rattle.std.proofs.Common.{refl, sym, ◌∙◌, rules}
use Rattle.std.proofs.lemmas.Result.{err_from_is_err_and}
use Rattle.shape.specs.Answers.{element_number}
use Rattle.shape.proofs.Limits.{limits, point-in}
use Rattle.shape.proofs.element_number.Goals as goal

pub returns-then-not-good_shape : goal.returns-then-not-good_shape
unfolding element_number
returns-then-not-good_shape c = rw (sym c.good_shape.ensures ∙ c.if-not-good_shape.true)

pub returns-in_err-judge_point : goal.returns-in_err-judge_point
unfolding element_number
returns-in_err-judge_point c =
    let p = err_from_is_err_and c.from_residual.result c.from_residual.ensures.1 in
    rw (p.1, p.2) (rw (sym c.good_shape.ensures ∙ c.if-not-good_shape.false, sym c.judge_point.ensures, c.in_err-judge_point.was) refl)

pub shared_ref_as_front-row_major : goal.shared_ref_as_front-row_major
shared_ref_as_front-row_major c = (limits c.args.shape (search rules) (sym c.good_shape.ensures ∙ c.if-not-good_shape.false)).rank

pub row_major-requires-clause-fact : goal.row_major-requires-clause-fact
row_major-requires-clause-fact c = point-in _ _ (sym c.judge_point.ensures ∙ c.in_ok-judge_point.was)

pub row_major-requires-clause-ds_bound : goal.row_major-requires-clause-ds_bound
row_major-requires-clause-ds_bound c = (limits c.args.shape (search rules) (sym c.good_shape.ensures ∙ c.if-not-good_shape.false)).count

pub returns : goal.returns
unfolding element_number
returns c =
    rw (sym c.good_shape.ensures ∙ c.if-not-good_shape.false, sym c.judge_point.ensures ∙ c.in_ok-judge_point.was, c.row_major.ensures)
