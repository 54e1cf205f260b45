-- What the search leaves of `operations::joining::good_operands`. Assumes nothing.
use Rattle.std.proofs.Common.{◌≡◌, sym, ap, ◌∙◌, length, arith, rules}
use Rattle.shape.specs.Shape.{good_shape}
use Rattle.operation_maps.specs.Operation.{max_operands}
use Rattle.operations.proofs.Concatenated.{mapped-long, operands-bad, operands-good}
use Rattle.operations.proofs.joining.good_operands.Goals as goal

pub returns-then-not-good_shape : goal.returns-then-not-good_shape
returns-then-not-good_shape c =
    let eight : length c.args.x.shapes ≡ max_operands = search (rules, mapped-long) in
    operands-bad c.args.x eight c.loop-k.k _ c.held_count-k-end.ensures c.loop-k-test.true
    (ap good_shape (sym c.operand_of.ensures) ∙ sym c.good_shape.ensures ∙ c.if-not-good_shape.true)

pub returns : goal.returns
returns c =
    let eight : length c.args.x.shapes ≡ max_operands = search (rules, mapped-long) in
    operands-good c.args.x eight _ c.held_count-k-end.ensures (λ k q. c.loop-k.invariant k (omega arith))
