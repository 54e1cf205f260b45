-- What the search leaves of `operations::joining::joined_map`. Assumes nothing.
use Rattle.std.proofs.Common.{◌≡◌, ◌∙◌, length, arith, rules}
use Rattle.operation_maps.specs.Operation.{max_operands}
use Rattle.operations.proofs.Concatenated.{mapped-long, concatenate-judged, joined-good, joined_made}
use Rattle.operations.proofs.joining.joined_map.Goals as goal

pub joined_before-by-requires : goal.joined_before-by-requires
joined_before-by-requires c =
    let eight : length c.args.x.shapes ≡ max_operands = search (rules, mapped-long) in
    let h = concatenate-judged c.args.x c.args.dimension c.args.operand eight c.requires in
    record { some = h.some; inside = omega (arith, h.inside) }

pub operand_of-requires : goal.operand_of-requires
operand_of-requires c =
    let eight : length c.args.x.shapes ≡ max_operands = search (rules, mapped-long) in
    let h = concatenate-judged c.args.x c.args.dimension c.args.operand eight c.requires in
    omega (arith, h.inside, h.some.few)

pub plain_axes-requires : goal.plain_axes-requires
plain_axes-requires c =
    let eight : length c.args.x.shapes ≡ max_operands = search (rules, mapped-long) in
    let h = concatenate-judged c.args.x c.args.dimension c.args.operand eight c.requires in
    joined-good c.args.x c.args.dimension c.args.operand c.joined_before-by.result c.operand_of.result eight h c.joined_before-by.ensures c.operand_of.ensures

pub returns : goal.returns
returns c =
    let eight : length c.args.x.shapes ≡ max_operands = search (rules, mapped-long) in
    let h = concatenate-judged c.args.x c.args.dimension c.args.operand eight c.requires in
    c.plain_axes.ensures
    ∙ joined_made c.args.x c.args.dimension c.args.operand c.joined_before-by.result c.operand_of.result c.args.out eight h.inside c.joined_before-by.ensures c.operand_of.ensures
