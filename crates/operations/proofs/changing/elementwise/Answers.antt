-- What the search leaves of `operations::changing::elementwise`. Assumes nothing.
use Rattle.std.proofs.Common.{ap, ◌∙◌}
use Rattle.std.proofs.lemmas.Result.{err_from_is_err_and}
use Rattle.refusal.specs.Number.{verdict_answer}
use Rattle.operation_maps.specs.Operation.{Operation}
use Rattle.operations.proofs.Judged.{way-ready, way-done, way-refused}
use Rattle.operations.proofs.Changed.{elementwise-way, elementwise-good}
use Rattle.operations.proofs.changing.elementwise.Goals as goal

pub returns-in_err-judge_shape : goal.returns-in_err-judge_shape
returns-in_err-judge_shape c =
    let p = err_from_is_err_and c.from_residual.result c.from_residual.ensures.1 in
    rw (p.1, p.2) (way-refused c.args.way (Operation.elementwise c.args.input) c.judge_shape.result (ap verdict_answer c.judge_shape.ensures) _ c.in_err-judge_shape.was)

pub plain_axes-requires : goal.plain_axes-requires
plain_axes-requires c = elementwise-good c.args.input (way-ready c.args.way (Operation.elementwise c.args.input) c.judge_shape.result (ap verdict_answer c.judge_shape.ensures) c.in_ok-judge_shape.was)

pub returns : goal.returns
returns c =
    way-done c.args.way (Operation.elementwise c.args.input) c.judge_shape.result (ap verdict_answer c.judge_shape.ensures) c.in_ok-judge_shape.was c.plain_axes.result c.fold_map.result
    (c.plain_axes.ensures ∙ elementwise-way c.args.way c.is_out.result c.is_out.ensures c.args.input) c.fold_map.ensures
