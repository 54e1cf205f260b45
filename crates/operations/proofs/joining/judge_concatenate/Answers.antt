-- What the search leaves of `operations::joining::judge_concatenate`. Assumes nothing.
use Rattle.std.proofs.Common.{◌≡◌, sym, ap, ◌∙◌, length, arith, rules}
use Rattle.operation_maps.specs.Operation.{max_operands}
use Rattle.operations.proofs.Concatenated.{mapped-long, good-operands, join-some, sizes-is}
use Rattle.operations.proofs.joining.judge_concatenate.Goals as goal

pub good_join-requires : goal.good_join-requires
good_join-requires c =
    let eight : length c.args.x.shapes ≡ max_operands = search (rules, mapped-long) in
    good-operands c.args.x eight (sym c.good_operands.ensures ∙ c.if-not-good_operands.false)

pub good_result-requires : goal.good_result-requires
good_result-requires c =
    let x = c.args.x in
    let eight : length x.shapes ≡ max_operands = search (rules, mapped-long) in
    let fine = good-operands x eight (sym c.good_operands.ensures ∙ c.if-not-good_operands.false) in
    let w = join-some x c.args.dimension c.args.operand fine (sym c.good_join.ensures ∙ c.if-not-good_join.false) in
    record { some = w.0; inside = omega (arith, w.1.1, ap length (sizes-is x eight 0 w.0.one)) }
