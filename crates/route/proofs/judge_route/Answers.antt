-- `route::judge_route` meets its contract. Assumes nothing.
use Rattle.std.proofs.Common.{refl, sym, ap, ◌∙◌}
use Rattle.std.proofs.lemmas.Result.{err_from_is_err_and}
use borrow.Author.Tests.{not-true, not-false}
use Rattle.refusal.specs.Judge.{Verdict, judge}
use Rattle.route.specs.Loading.{first_refusal, size_rules}
use Rattle.route.proofs.Judging.{no-shape, no-limits, no-numbers, no-layouts, after-layouts}
use Rattle.route.proofs.judge_route.Goals as goal

pub returns-then-not-good_shape : goal.returns-then-not-good_shape
returns-then-not-good_shape c = no-shape _ _ _ _ _ _ (sym c.good_shape.ensures ∙ c.if-not-good_shape.true)

pub returns-then-not-good_limits : goal.returns-then-not-good_limits
returns-then-not-good_limits c =
    no-limits _ _ _ _ _ _ (sym c.good_shape.ensures ∙ c.if-not-good_shape.false) (sym c.good_limits.ensures ∙ c.if-not-good_limits.true)

pub returns-then-not-loaded : goal.returns-then-not-loaded
returns-then-not-loaded c =
    no-numbers _ _ _ _ _ _ (sym c.good_shape.ensures ∙ c.if-not-good_shape.false)
    (sym c.good_limits.ensures ∙ c.if-not-good_limits.false)
    (not-true _ c.if-not-loaded.true)

pub returns-then-not-loaded-2 : goal.returns-then-not-loaded-2
returns-then-not-loaded-2 c =
    no-layouts _ _ _ _ _ _ (sym c.good_shape.ensures ∙ c.if-not-good_shape.false)
    (sym c.good_limits.ensures ∙ c.if-not-good_limits.false)
    (not-false _ c.if-not-loaded.false)
    (not-true _ c.if-not-loaded-2.true)

pub returns-in_err-loaded : goal.returns-in_err-loaded
returns-in_err-loaded c =
    let p = err_from_is_err_and c.from_residual.result c.from_residual.ensures.1 in
    rw (p.1, p.2)
    (after-layouts _ _ _ _ _ _ (sym c.good_shape.ensures ∙ c.if-not-good_shape.false)
    (sym c.good_limits.ensures ∙ c.if-not-good_limits.false)
    (not-false _ c.if-not-loaded.false)
    (not-false _ c.if-not-loaded-2.false)
    _
    _
    refl
    (sym (ap (λ (v : Verdict). first_refusal v (judge (size_rules c.args.loaded.sizes_kept c.args.len c.args.number))) c.in_err-loaded.was)))

pub returns : goal.returns
returns c =
    after-layouts _ _ _ _ _ _ (sym c.good_shape.ensures ∙ c.if-not-good_shape.false)
    (sym c.good_limits.ensures ∙ c.if-not-good_limits.false)
    (not-false _ c.if-not-loaded.false)
    (not-false _ c.if-not-loaded-2.false)
    _
    _
    c.judge_sizes.ensures
    (sym (ap (λ (v : Verdict). first_refusal v c.judge_sizes.result) c.in_ok-loaded.was))
