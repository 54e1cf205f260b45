-- What the search leaves of `operations::joining::concatenate`. Assumes nothing.
use Rattle.std.proofs.Common.{ap, ◌∙◌}
use Rattle.std.proofs.lemmas.Result.{err_from_is_err_and}
use Rattle.refusal.specs.Number.{verdict_answer}
use Rattle.operation_maps.specs.Operation.{Operation}
use Rattle.operations.proofs.Judged.{way-ready, way-done, way-refused}
use Rattle.operations.proofs.Concatenated.{concatenate-way}
use Rattle.operations.proofs.joining.concatenate.Goals as goal

pub returns-in_err-judge_concatenate : goal.returns-in_err-judge_concatenate
returns-in_err-judge_concatenate c =
    let p = err_from_is_err_and c.from_residual.result c.from_residual.ensures.1 in
    rw (p.1, p.2) (way-refused c.args.way (Operation.concatenate c.args.operands.count c.args.operands.shapes c.args.dimension c.args.operand) c.judge_concatenate.result (ap verdict_answer c.judge_concatenate.ensures) _ c.in_err-judge_concatenate.was)

pub joined_map-requires : goal.joined_map-requires
joined_map-requires c = (way-ready c.args.way (Operation.concatenate c.args.operands.count c.args.operands.shapes c.args.dimension c.args.operand) c.judge_concatenate.result (ap verdict_answer c.judge_concatenate.ensures) c.in_ok-judge_concatenate.was)

pub returns : goal.returns
returns c =
    way-done c.args.way (Operation.concatenate c.args.operands.count c.args.operands.shapes c.args.dimension c.args.operand) c.judge_concatenate.result (ap verdict_answer c.judge_concatenate.ensures) c.in_ok-judge_concatenate.was c.joined_map.result c.fold_map.result
    (c.joined_map.ensures ∙ concatenate-way c.args.way c.is_out.result c.is_out.ensures c.args.operands c.args.dimension c.args.operand) c.fold_map.ensures
