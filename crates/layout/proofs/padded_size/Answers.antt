-- `layout::padded_size` meets its contract. Assumes nothing.
use Rattle.std.proofs.Common.{◌∙◌, sym}
use Rattle.std.proofs.lemmas.Result.{err_from_is_err_and}
use Rattle.layout.specs.Answers.{padded_size}
use Rattle.layout.proofs.padded_size.Goals as goal

pub returns-in_err-judge_layout : goal.returns-in_err-judge_layout
unfolding padded_size
returns-in_err-judge_layout c =
    let p = err_from_is_err_and c.from_residual.result c.from_residual.ensures.1 in
    rw (p.1, p.2, sym c.judge_layout.ensures ∙ c.in_err-judge_layout.was)

pub returns : goal.returns
unfolding padded_size
returns c = rw (sym c.judge_layout.ensures ∙ c.in_ok-judge_layout.was, c.padded_cells.ensures)
