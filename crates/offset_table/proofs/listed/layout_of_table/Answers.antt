-- `offset_table::listed::layout_of_table` meets its contract. Assumes nothing.
use Rattle.std.specs.Prelude.{Option, ok_or}
use Rattle.std.proofs.Common.{◌≤◌, ◌∙◌, ℕ, length, sym, ap, arith}
use Rattle.std.proofs.lemmas.Result.{err_from_is_err_and}
use Rattle.refusal.specs.declared.Refusal.TheVariants.{NoLayout}
use Rattle.offset_table.specs.Answers.{breaks_no_rule, named_answer}
use Rattle.offset_table.proofs.Rules.{asked}
use Rattle.offset_table.proofs.Naming.{named-place, named-refused}
use Rattle.offset_table.proofs.listed.layout_of_table.Goals as goal

pub returns-in_err-judge_question : goal.returns-in_err-judge_question
returns-in_err-judge_question c =
    let p = err_from_is_err_and c.from_residual.result c.from_residual.ensures.1 in
    rw (p.1, p.2) (sym (named-refused _ _ _ _ _ _ (sym c.judge_question.ensures ∙ c.in_err-judge_question.was)))

pub returns : goal.returns
returns c =
    let a = c.args in
    let u : breaks_no_rule a.shape a.table.now a.padded a.layouts a.count = sym c.judge_question.ensures ∙ c.in_ok-judge_question.was in
    let few : a.count ≤ length a.layouts = omega (arith, (asked _ _ a.padded _ _ u).few) in
    ap named_answer (c.ok_or.ensures.value ∙ ap (λ (o : Option ℕ). ok_or o NoLayout) c.first_maker.ensures)
    ∙ named-place a.shape a.table.now a.padded a.layouts a.count u few
