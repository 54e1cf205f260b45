-- What the search leaves of `operations::joining::all_alike`. Assumes nothing.
use Rattle.std.proofs.Common.{◌≡◌, sym, ◌∙◌, length, arith, rules}
use Rattle.operation_maps.specs.Operation.{max_operands}
use Rattle.operations.proofs.Concatenated.{mapped-long, alike_is, all-not, all_are}
use Rattle.operations.proofs.joining.all_alike.Goals as goal

pub returns-then-not-alike_shapes : goal.returns-then-not-alike_shapes
returns-then-not-alike_shapes c =
    let x = c.args.x in
    let eight : length x.shapes ≡ max_operands = search (rules, mapped-long) in
    let told = c.alike_shapes.ensures ∙ alike_is x eight c.args.dimension c.loop-k.k _ _ c.loop-k-test.true c.operand_of-first.ensures c.operand_of.ensures in
    all-not x eight c.args.dimension c.loop-k.k c.loop-k-test.true (sym told ∙ c.if-not-alike_shapes.true)

pub returns : goal.returns
returns c =
    let x = c.args.x in
    let eight : length x.shapes ≡ max_operands = search (rules, mapped-long) in
    all_are x eight c.args.dimension (λ k q. c.loop-k.invariant k (omega arith))
