-- What the search leaves of `operations::reshaping::reshape`. Assumes nothing.
use Rattle.std.proofs.Common.{ap}
use Rattle.std.proofs.lemmas.Result.{err_from_is_err_and}
use Rattle.refusal.specs.Number.{verdict_answer}
use Rattle.operation_maps.specs.Operation.{Operation}
use Rattle.operations.proofs.Judged.{way-ready, way-done, way-refused, reshape-good}
use Rattle.operations.proofs.reshaping.reshape.Goals as goal

pub returns-in_err-judge_reshape : goal.returns-in_err-judge_reshape
returns-in_err-judge_reshape c =
    let p = err_from_is_err_and c.from_residual.result c.from_residual.ensures.1 in
    rw (p.1, p.2) (way-refused c.args.way (Operation.reshape c.args.input c.args.output) c.judge_reshape.result (ap verdict_answer c.judge_reshape.ensures) _ c.in_err-judge_reshape.was)

pub reshape_either-requires : goal.reshape_either-requires
reshape_either-requires c = reshape-good c.args.input c.args.output (way-ready c.args.way (Operation.reshape c.args.input c.args.output) c.judge_reshape.result (ap verdict_answer c.judge_reshape.ensures) c.in_ok-judge_reshape.was)

pub returns : goal.returns
returns c =
    way-done c.args.way (Operation.reshape c.args.input c.args.output) c.judge_reshape.result (ap verdict_answer c.judge_reshape.ensures) c.in_ok-judge_reshape.was c.reshape_either.result c.fold_map.result
    c.reshape_either.ensures c.fold_map.ensures
