-- What the search leaves of `operations::selecting::reduce`. Assumes nothing.
use Rattle.std.proofs.Common.{◌∙◌}
use Rattle.std.proofs.lemmas.Result.{err_from_is_err_and}
use Rattle.operation_maps.specs.Operation.{Operation}
use Rattle.operations.proofs.Judged.{way-ready, way-done, way-refused, reduce-way, reduce-chosen}
use Rattle.operations.proofs.selecting.reduce.Goals as goal

pub returns-in_err-judge_dimensions : goal.returns-in_err-judge_dimensions
returns-in_err-judge_dimensions c =
    let p = err_from_is_err_and c.from_residual.result c.from_residual.ensures.1 in
    rw (p.1, p.2) (way-refused c.args.way (Operation.reduce c.args.input c.args.dimensions.now) c.judge_dimensions.result c.judge_dimensions.ensures _ c.in_err-judge_dimensions.was)

pub rest_selection-requires : goal.rest_selection-requires
rest_selection-requires c = reduce-chosen c.args.input c.args.dimensions.now (way-ready c.args.way (Operation.reduce c.args.input c.args.dimensions.now) c.judge_dimensions.result c.judge_dimensions.ensures c.in_ok-judge_dimensions.was)

pub returns : goal.returns
returns c =
    way-done c.args.way (Operation.reduce c.args.input c.args.dimensions.now) c.judge_dimensions.result c.judge_dimensions.ensures c.in_ok-judge_dimensions.was c.rest_selection.result c.fold_map.result
    (c.rest_selection.ensures ∙ reduce-way c.args.way c.is_out.result c.is_out.ensures c.args.input c.args.dimensions.now) c.fold_map.ensures
