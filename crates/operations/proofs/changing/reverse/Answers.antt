-- What the search leaves of `operations::changing::reverse`. Assumes nothing.
use Rattle.std.proofs.Common.{◌∙◌}
use Rattle.std.proofs.lemmas.Result.{err_from_is_err_and}
use Rattle.operation_maps.specs.Operation.{Operation}
use Rattle.operations.proofs.Judged.{way-ready, way-done, way-refused}
use Rattle.operations.proofs.Changed.{reverse-way, reverse-good}
use Rattle.operations.proofs.changing.reverse.Goals as goal

pub returns-in_err-judge_dimensions : goal.returns-in_err-judge_dimensions
returns-in_err-judge_dimensions c =
    let p = err_from_is_err_and c.from_residual.result c.from_residual.ensures.1 in
    rw (p.1, p.2) (way-refused c.args.way (Operation.reverse c.args.input c.args.dimensions.now) c.judge_dimensions.result c.judge_dimensions.ensures _ c.in_err-judge_dimensions.was)

pub shape_axes-requires : goal.shape_axes-requires
shape_axes-requires c = reverse-good c.args.input c.args.dimensions.now (way-ready c.args.way (Operation.reverse c.args.input c.args.dimensions.now) c.judge_dimensions.result c.judge_dimensions.ensures c.in_ok-judge_dimensions.was)

pub returns : goal.returns
returns c =
    way-done c.args.way (Operation.reverse c.args.input c.args.dimensions.now) c.judge_dimensions.result c.judge_dimensions.ensures c.in_ok-judge_dimensions.was c.shape_axes.result c.fold_map.result
    (c.shape_axes.ensures ∙ reverse-way c.args.way c.is_out.result c.is_out.ensures c.args.input c.args.dimensions.now) c.fold_map.ensures
