-- What the search leaves of `operations::joining::good_result`. Assumes nothing.
use Rattle.std.proofs.Common.{◌≡◌, ◌<◌, ap, ◌∙◌, length, arith, rules}
use Rattle.shape.specs.Shape.{sizes_of, good_shape}
use Rattle.shape.specs.declared.Shape.{Shape}
use Rattle.shape.proofs.Limits.{limits}
use Rattle.operation_maps.specs.Operation.{max_operands}
use Rattle.operations.proofs.Concatenated.{mapped-long, good-at, result-is}
use Rattle.operations.proofs.joining.good_result.Goals as goal

pub returns : goal.returns
returns c =
    let x = c.args.x in
    let s = c.requires.some in
    let first = c.operand_of-first.result in
    let eight : length x.shapes ≡ max_operands = search (rules, mapped-long) in
    let w = limits first (search rules) (ap good_shape c.operand_of-first.ensures ∙ good-at x eight s 0 s.one) in
    let inside : c.args.dimension < first.rank = omega (arith, w.long, ap (λ (y : Shape). length (sizes_of y)) c.operand_of-first.ensures) in
    c.good_shape.ensures ∙ result-is x eight c.args.dimension c.joined_before.result first s.one c.operand_of-first.ensures w.long inside c.joined_before.ensures
