-- `retile::retile` meets its contract. Assumes nothing.
use Rattle.std.specs.Prelude.{Result, Ok}
use Rattle.std.proofs.Common.{◌≡◌, ◌-◌, ◌∙◌, ℕ, [], ◌∷◌, length, min, sym, ap, subst}
use Rattle.std.proofs.lemmas.Result.{err_from_is_err_and}
use Rattle.refusal.specs.Judge.{judge}
use Rattle.refusal.specs.Number.{done}
use Rattle.refusal.specs.declared.Refusal.{Refusal}
use Rattle.layout.specs.Layout.{padded_of}
use Rattle.retile.specs.Stores.{Memory, memory, apply_all, stores, settled}
use Rattle.retile.specs.Retile.{value_of}
use Rattle.retile.specs.Answers.{retile_rules, retile_answer, retile_left}
use Rattle.retile.specs.Steps.{Measures}
use Rattle.retile.specs.declared.sides.Side.{Side}
use Rattle.retile.proofs.Rules.{side-refused, mark-judged}
use Rattle.retile.proofs.retile.Goals as goal

pub returns-in_err-a : goal.returns-in_err-a
unfolding retile_answer retile_left
returns-in_err-a c =
    let a = c.args in
    let p = err_from_is_err_and c.from_residual.result c.from_residual.ensures.1 in
    let j = side-refused a.shape a.from a.to (length a.source.now) (length a.cells.now) a.mark.now _ _ c.side_of.ensures c.side_of-2.ensures _ c.in_err-a.ensures in
    (rw (p.1, p.2, j), rw j)

pub returns-in_err-judge_mark : goal.returns-in_err-judge_mark
unfolding retile_answer retile_left
returns-in_err-judge_mark c =
    let a = c.args in
    let f = c.from_residual-in_err-judge_mark in
    let p = err_from_is_err_and f.result f.ensures.1 in
    let x = subst (λ (r : Result Side Refusal). Measures r a.shape a.from) c.in_ok-a.ensures.0 c.side_of.ensures in
    let y = subst (λ (r : Result Side Refusal). Measures r a.shape a.to) c.in_ok-a.ensures.1 c.side_of-2.ensures in
    let j = sym (mark-judged a.shape a.from a.to (length a.source.now) (length a.cells.now) a.mark.now _ _ x y) ∙ sym c.judge_mark.ensures ∙ c.in_err-judge_mark.was in
    (rw (p.1, p.2, j), rw j)

pub returns : goal.returns
unfolding retile_answer retile_left
returns c =
    let a = c.args in
    let M : Memory = memory a.cells.now a.mark.now in
    let x = subst (λ (r : Result Side Refusal). Measures r a.shape a.from) c.in_ok-a.ensures.0 c.side_of.ensures in
    let y = subst (λ (r : Result Side Refusal). Measures r a.shape a.to) c.in_ok-a.ensures.1 c.side_of-2.ensures in
    let j : judge (retile_rules a.shape a.from a.to (length a.source.now) (length a.cells.now) a.mark.now) ≡ Ok tt =
    sym (mark-judged a.shape a.from a.to (length a.source.now) (length a.cells.now) a.mark.now _ _ x y) ∙ sym c.judge_mark.ensures ∙ c.in_ok-judge_mark.was in
    let count : c.min-count.result ≡ settled (padded_of a.shape a.to) a.mark.now a.allowance = c.min-count.ensures ∙ ap (λ (k : ℕ). min a.allowance (k - a.mark.now)) y.1.padded in (
      rw j (ap (λ (n : ℕ). done (n ∷ [])) count),
      rw j (c.settle_in.ensures ∙ ap (λ (n : ℕ). apply_all (stores (value_of a.shape a.from a.to a.source.now) a.mark.now n) M) count),
    )
