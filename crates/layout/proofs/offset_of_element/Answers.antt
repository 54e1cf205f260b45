-- `layout::offset_of_element` meets its contract. Assumes nothing.
use Rattle.std.proofs.Common.{◌∙◌, sym, arith}
use Rattle.std.proofs.lemmas.Result.{err_from_is_err_and}
use borrow.Author.Tests.{lt-ltb, le-ltb}
use Rattle.refusal.proofs.Judged.{after-done, after-refused}
use Rattle.shape.specs.Shape.{count_of}
use Rattle.layout.specs.Answers.{element_offset}
use Rattle.layout.proofs.offset_of_element.Goals as goal

pub returns-then-n-count_of : goal.returns-then-n-count_of
unfolding element_offset
returns-then-n-count_of c =
    let n = c.args.element.0 in
    rw (
      after-done _ _ (sym c.judge_layout.ensures ∙ c.in_ok-judge_layout.was),
      lt-ltb n (count_of c.args.shape) (omega arith),
      c.offset_number.ensures,
    )

pub returns-else-n-count_of : goal.returns-else-n-count_of
unfolding element_offset
returns-else-n-count_of c =
    let n = c.args.element.0 in
    rw (
      after-done _ _ (sym c.judge_layout.ensures ∙ c.in_ok-judge_layout.was),
      le-ltb n (count_of c.args.shape) (omega arith),
    )

pub returns-in_err-judge_layout : goal.returns-in_err-judge_layout
unfolding element_offset
returns-in_err-judge_layout c =
    let p = err_from_is_err_and c.from_residual.result c.from_residual.ensures.1 in
    rw (p.1, p.2, after-refused _ _ _ (sym c.judge_layout.ensures ∙ c.in_err-judge_layout.was))
