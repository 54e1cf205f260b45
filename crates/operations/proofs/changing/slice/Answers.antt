-- What the search leaves of `operations::changing::slice`. Assumes nothing.
use Rattle.std.proofs.Common.{ap, ◌∙◌}
use Rattle.std.proofs.lemmas.Result.{err_from_is_err_and}
use Rattle.refusal.specs.Number.{verdict_answer}
use Rattle.operation_maps.specs.Operation.{Operation}
use Rattle.operations.proofs.Judged.{way-ready, way-done, way-refused}
use Rattle.operations.proofs.Changed.{slice-way, slice-good}
use Rattle.operations.proofs.changing.slice.Goals as goal

pub returns-in_err-judge_slice : goal.returns-in_err-judge_slice
returns-in_err-judge_slice c =
    let p = err_from_is_err_and c.from_residual.result c.from_residual.ensures.1 in
    rw (p.1, p.2) (way-refused c.args.way (Operation.slice c.args.input c.args.starts.now c.args.limits.now c.args.strides.now) c.judge_slice.result (ap verdict_answer c.judge_slice.ensures) _ c.in_err-judge_slice.was)

pub shape_axes-requires : goal.shape_axes-requires
shape_axes-requires c = slice-good c.args.input c.args.starts.now c.args.limits.now c.args.strides.now (way-ready c.args.way (Operation.slice c.args.input c.args.starts.now c.args.limits.now c.args.strides.now) c.judge_slice.result (ap verdict_answer c.judge_slice.ensures) c.in_ok-judge_slice.was)

pub returns : goal.returns
returns c =
    way-done c.args.way (Operation.slice c.args.input c.args.starts.now c.args.limits.now c.args.strides.now) c.judge_slice.result (ap verdict_answer c.judge_slice.ensures) c.in_ok-judge_slice.was c.shape_axes.result c.fold_map.result
    (c.shape_axes.ensures ∙ slice-way c.args.way c.is_out.result c.is_out.ensures c.args.input c.args.starts.now c.args.limits.now c.args.strides.now) c.fold_map.ensures
