-- What the search leaves of `operations::selecting::transpose`. Assumes nothing.
use Rattle.std.proofs.Common.{◌∙◌}
use Rattle.std.proofs.lemmas.Result.{err_from_is_err_and}
use Rattle.operation_maps.specs.Operation.{Operation}
use Rattle.operations.proofs.Judged.{way-ready, way-done, way-refused, transpose-way, transpose-chosen}
use Rattle.operations.proofs.selecting.transpose.Goals as goal

pub returns-in_err-judge_transpose : goal.returns-in_err-judge_transpose
returns-in_err-judge_transpose c =
    let p = err_from_is_err_and c.from_residual.result c.from_residual.ensures.1 in
    rw (p.1, p.2) (way-refused c.args.way (Operation.transpose c.args.input c.args.dimensions.now) c.judge_transpose.result c.judge_transpose.ensures _ c.in_err-judge_transpose.was)

pub shape_selection-requires : goal.shape_selection-requires
shape_selection-requires c = transpose-chosen c.args.input c.args.dimensions.now (way-ready c.args.way (Operation.transpose c.args.input c.args.dimensions.now) c.judge_transpose.result c.judge_transpose.ensures c.in_ok-judge_transpose.was)

pub returns : goal.returns
returns c =
    way-done c.args.way (Operation.transpose c.args.input c.args.dimensions.now) c.judge_transpose.result c.judge_transpose.ensures c.in_ok-judge_transpose.was c.shape_selection.result c.fold_map.result
    (c.shape_selection.ensures ∙ transpose-way c.args.way c.is_out.result c.is_out.ensures c.args.input c.args.dimensions.now) c.fold_map.ensures
