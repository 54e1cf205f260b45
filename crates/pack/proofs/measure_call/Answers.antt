-- `pack::measure_call` meets its contract. Assumes nothing.
use Rattle.std.proofs.Common.{sym, ◌∙◌}
use Rattle.std.proofs.lemmas.Result.{err_from_is_err_and}
use Rattle.pack.proofs.Rules.{buffers-refused, buffers-judged}
use Rattle.pack.proofs.measure_call.Goals as goal

pub returns-in_err-x : goal.returns-in_err-x
returns-in_err-x c =
    let p = err_from_is_err_and c.from_residual.result c.from_residual.ensures.1 in
    rw (p.1, p.2) (buffers-refused c.args.shape c.args.layout.now c.args.elements c.args.cells _ c.in_err-x.ensures)

pub returns-in_err-judge_buffers : goal.returns-in_err-judge_buffers
returns-in_err-judge_buffers c =
    let r = c.from_residual-in_err-judge_buffers in
    let p = err_from_is_err_and r.result r.ensures.1 in
    let x = c.in_ok-x.ensures in
    rw (p.1, p.2) (buffers-judged c.args.shape c.args.layout.now c.args.elements c.args.cells c.in_ok-x.x.count c.in_ok-x.x.padded x.0 x.1.count x.1.padded ∙ sym c.in_err-judge_buffers.ensures)

pub returns : goal.returns
returns c =
    let x = c.in_ok-x.ensures in
    (buffers-judged c.args.shape c.args.layout.now c.args.elements c.args.cells c.in_ok-x.x.count c.in_ok-x.x.padded x.0 x.1.count x.1.padded ∙ sym c.in_ok-judge_buffers.ensures, x.0, x.1)
