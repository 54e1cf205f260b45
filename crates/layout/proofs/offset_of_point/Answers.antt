-- `layout::offset_of_point` meets its contract. Assumes nothing.
use Rattle.std.proofs.Common.{◌∙◌, sym}
use Rattle.std.proofs.lemmas.Result.{err_from_is_err_and}
use Rattle.refusal.proofs.Judged.{after-done, after-refused}
use Rattle.shape.proofs.Limits.{point-in}
use Rattle.layout.specs.Answers.{point_offset}
use Rattle.layout.proofs.offset_of_point.Goals as goal

pub returns-in_err-judge_layout : goal.returns-in_err-judge_layout
unfolding point_offset
returns-in_err-judge_layout c =
    let p = err_from_is_err_and c.from_residual.result c.from_residual.ensures.1 in
    rw (p.1, p.2, after-refused _ _ _ (sym c.judge_layout.ensures ∙ c.in_err-judge_layout.was))

pub returns-in_err-judge_point : goal.returns-in_err-judge_point
unfolding point_offset
returns-in_err-judge_point c =
    let p = err_from_is_err_and c.from_residual-in_err-judge_point.result c.from_residual-in_err-judge_point.ensures.1 in
    rw (p.1, p.2, after-done _ _ (sym c.judge_layout.ensures ∙ c.in_ok-judge_layout.was), sym c.judge_point.ensures ∙ c.in_err-judge_point.was)

pub point_offset-requires : goal.point_offset-requires
point_offset-requires c =
    (sym c.judge_layout.ensures ∙ c.in_ok-judge_layout.was, point-in _ _ (sym c.judge_point.ensures ∙ c.in_ok-judge_point.was))

pub returns : goal.returns
unfolding point_offset
returns c =
    rw (
      after-done _ _ (sym c.judge_layout.ensures ∙ c.in_ok-judge_layout.was),
      sym c.judge_point.ensures ∙ c.in_ok-judge_point.was,
      c.point_offset.ensures,
    )
