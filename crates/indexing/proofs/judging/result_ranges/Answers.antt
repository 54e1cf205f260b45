-- `indexing::judging::result_ranges` meets its contract. Assumes nothing.
use Rattle.std.proofs.lemmas.Result.{err_from_is_err_and}
use Rattle.indexing.specs.Answers.{result_ranges}
use Rattle.indexing.proofs.judging.result_ranges.Goals as goal

pub returns-in_err-judged : goal.returns-in_err-judged
unfolding result_ranges
returns-in_err-judged c =
    let p = err_from_is_err_and c.from_residual.result c.from_residual.ensures.1 in
    rw (p.1, p.2, ← c.in_err-judged.ensures)

pub returns : goal.returns
unfolding result_ranges
returns c = rw (c.ranged.ensures, ← c.in_ok-judged.ensures)
