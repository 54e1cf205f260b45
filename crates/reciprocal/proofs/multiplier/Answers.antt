-- `reciprocal::multiplier` meets its contract. Assumes nothing.
use Rattle.std.proofs.Common.{ℕ, ◌-◌, List, get_or, sym, ap, ◌∙◌}
use Rattle.std.proofs.lemmas.Result.{err_from_is_err_and}
use Rattle.reciprocal.specs.Answers.{multiplier_entry}
use Rattle.reciprocal.proofs.Judged.{divisor-done}
use Rattle.reciprocal.proofs.Theorems.{table-entry}
use Rattle.reciprocal.proofs.multiplier.Goals as goal

pub returns-in_err-judge_divisor : goal.returns-in_err-judge_divisor
unfolding multiplier_entry
returns-in_err-judge_divisor c =
    let p = err_from_is_err_and c.from_residual.result c.from_residual.ensures.1 in
    rw (p.1, p.2, sym c.judge_divisor.ensures, c.in_err-judge_divisor.was)

pub returns : goal.returns
unfolding multiplier_entry
returns c =
    let d = c.args.d in
    let judged = sym c.judge_divisor.ensures ∙ c.in_ok-judge_divisor.was in
    let w = divisor-done d judged in
    rw (judged, ap (λ (t : List ℕ). get_or t (d - 1) 0) c.multipliers-table.ensures ∙ table-entry d w.0 w.1)
