-- `layout::fit_verdict` meets its contract. Assumes nothing.
use Rattle.std.proofs.Common.{◌∙◌, sym}
use Rattle.std.proofs.lemmas.Result.{err_from_is_err_and}
use Rattle.layout.specs.Answers.{fit_verdict}
use Rattle.layout.proofs.fit_verdict.Goals as goal

pub returns-in_err-judge_fit : goal.returns-in_err-judge_fit
unfolding fit_verdict
returns-in_err-judge_fit c =
    let p = err_from_is_err_and c.from_residual.result c.from_residual.ensures.1 in
    rw (p.1, p.2, sym c.judge_fit.ensures ∙ c.in_err-judge_fit.was)

pub returns : goal.returns
unfolding fit_verdict
returns c = rw (sym c.judge_fit.ensures ∙ c.in_ok-judge_fit.was, c.fit_of.ensures, c.padded_cells.ensures)
