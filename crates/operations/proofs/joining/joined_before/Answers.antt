-- What the search leaves of `operations::joining::joined_before`. Assumes nothing.
use Rattle.std.proofs.Common.{◌≡◌, ◌<◌, refl, length, arith, rules}
use Rattle.operation_maps.specs.Operation.{max_operands, joined_before}
use Rattle.operations.proofs.Concatenated.{mapped-long, sum-small, sum-next, sum_room}
use Rattle.operations.proofs.joining.joined_before.Goals as goal

pub loop-k-init : goal.loop-k-init
unfolding joined_before
loop-k-init c = refl

pub overflow_add-sum : goal.overflow_add-sum
overflow_add-sum c =
    let x = c.args.x in
    let eight : length x.shapes ≡ max_operands = search (rules, mapped-long) in
    let h : c.loop-k.k < x.count = omega arith in
    let few = sum-small x eight c.requires.some c.args.dimension c.loop-k.k (omega arith) in
    let room = sum_room x eight c.requires.some c.args.dimension c.loop-k.k c.size_of-sum.result c.operand_of.result h c.operand_of.ensures c.size_of-sum.ensures in
    record { fits = omega (arith, few, room, c.loop-k.invariant, c.requires.some.few) }

pub loop-k-preserved : goal.loop-k-preserved
loop-k-preserved c =
    let x = c.args.x in
    let eight : length x.shapes ≡ max_operands = search (rules, mapped-long) in
    sum-next x eight c.args.dimension c.loop-k.k c.loop-k.sum c.size_of-sum.result c.operand_of.result (omega arith) c.loop-k.invariant c.operand_of.ensures c.size_of-sum.ensures
