-- `route::finish` meets its contract. Assumes nothing.
use Rattle.std.proofs.Common.{refl, sym, ◌∙◌, arith, rules}
use Rattle.std.proofs.lemmas.Result.{err_from_is_err_and}
use Rattle.route.proofs.Judging.{limited}
use Rattle.route.proofs.Answering.{usable, none-of, some-of, finish-refused, finish-none, finish-some}
use Rattle.route.proofs.finish.Goals as goal

pub returns-in_err-judge_route : goal.returns-in_err-judge_route
returns-in_err-judge_route c =
    let p = err_from_is_err_and c.from_residual.result c.from_residual.ensures.1 in
    rw (p.1, p.2) (finish-refused _ _ _ _ _ _ _ c.in_err-judge_route.ensures)

pub best_tree_plan-requires : goal.best_tree_plan-requires
best_tree_plan-requires c =
    let L = limited _ _ _ (c.in_ok-judge_route.ensures.limits refl) in
    (usable c.args.loaded _ _ _ (search rules) (search rules) (search rules) (search rules) c.requires L, omega (arith, L.moves-in))

pub returns-in_err-plan : goal.returns-in_err-plan
returns-in_err-plan c =
    let p = err_from_is_err_and c.from_residual-in_err-plan.result c.from_residual-in_err-plan.ensures.1 in
    let n = none-of _ _ _ (sym c.ok_or.ensures.value ∙ c.in_err-plan.was) in
    let L = limited _ _ _ (c.in_ok-judge_route.ensures.limits refl) in
    rw (p.1, p.2, n.1)
    (finish-none _ _ _ _ _ _ c.in_ok-judge_route.ensures _ c.best_tree_plan.ensures
    (usable c.args.loaded _ _ _ (search rules) (search rules) (search rules) (search rules) c.requires L)
    n.0)

pub returns : goal.returns
returns c =
    let L = limited _ _ _ (c.in_ok-judge_route.ensures.limits refl) in
    finish-some _ _ _ _ _ _ c.in_ok-judge_route.ensures _ c.best_tree_plan.ensures
    (usable c.args.loaded _ _ _ (search rules) (search rules) (search rules) (search rules) c.requires L)
    _
    (some-of _ _ _ (sym c.ok_or.ensures.value ∙ c.in_ok-plan.was))
