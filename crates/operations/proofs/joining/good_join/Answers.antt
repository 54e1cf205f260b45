-- `operations::joining::good_join` meets its contract. Assumes nothing.
use mathlib.Core.Path.{◌≡◌}
use lib.Dec.{leb}
use borrow.Author.Tests.{lt-ltb, le-ltb, le-leb, lt-leb}
use mathlib.Core.Bool.{true}
use native.Mathlib.Omega.{arith}
use lib.ListN.{length}
use Rattle.operation_maps.specs.Operation.{operand_sizes, max_operands}
use Rattle.operations.proofs.Concatenated.{mapped-long, first-rank}
use borrow.Author.Rules.{rules}
use Rattle.operations.proofs.joining.good_join.Goals as goal

pub returns-then-count-lt1 : goal.returns-then-count-lt1
returns-then-count-lt1 c = rw (lt-leb 1 c.args.x.count c.if-count-lt1.true)

pub returns-then-count-gt-MAX_OPERANDS : goal.returns-then-count-gt-MAX_OPERANDS
returns-then-count-gt-MAX_OPERANDS c =
    let n = c.args.x.count in
    rw (le-leb 1 n c.if-count-lt1.false, lt-leb n max_operands c.if-count-gt-MAX_OPERANDS.true)

pub returns-then-rank-dimension : goal.returns-then-rank-dimension
returns-then-rank-dimension c =
    let x = c.args.x in
    let eight : length x.shapes ≡ max_operands = search (rules, mapped-long) in
    let held : leb x.count (length x.shapes) ≡ true = le-leb x.count (length x.shapes) (omega (arith, c.if-count-gt-MAX_OPERANDS.false, eight)) in
    let ranked = first-rank x eight c.operand_of-first.result c.if-count-lt1.false c.operand_of-first.ensures (search rules) (c.requires 0 c.if-count-lt1.false (omega arith)) in
    rw (le-leb 1 x.count c.if-count-lt1.false, le-leb x.count max_operands c.if-count-gt-MAX_OPERANDS.false, held, le-ltb c.args.dimension (length (operand_sizes x.count x.shapes 0)) (omega (arith, c.if-rank-dimension.true, ranked)))

pub returns-then-count-operand : goal.returns-then-count-operand
returns-then-count-operand c =
    let x = c.args.x in
    let eight : length x.shapes ≡ max_operands = search (rules, mapped-long) in
    let held : leb x.count (length x.shapes) ≡ true = le-leb x.count (length x.shapes) (omega (arith, c.if-count-gt-MAX_OPERANDS.false, eight)) in
    let ranked = first-rank x eight c.operand_of-first.result c.if-count-lt1.false c.operand_of-first.ensures (search rules) (c.requires 0 c.if-count-lt1.false (omega arith)) in
    rw (le-leb 1 x.count c.if-count-lt1.false, le-leb x.count max_operands c.if-count-gt-MAX_OPERANDS.false, held, lt-ltb c.args.dimension (length (operand_sizes x.count x.shapes 0)) (omega (arith, c.if-rank-dimension.false, ranked)), le-ltb c.args.operand x.count c.if-count-operand.true)

pub returns : goal.returns
returns c =
    let x = c.args.x in
    let eight : length x.shapes ≡ max_operands = search (rules, mapped-long) in
    let held : leb x.count (length x.shapes) ≡ true = le-leb x.count (length x.shapes) (omega (arith, c.if-count-gt-MAX_OPERANDS.false, eight)) in
    let ranked = first-rank x eight c.operand_of-first.result c.if-count-lt1.false c.operand_of-first.ensures (search rules) (c.requires 0 c.if-count-lt1.false (omega arith)) in
    rw (le-leb 1 x.count c.if-count-lt1.false, le-leb x.count max_operands c.if-count-gt-MAX_OPERANDS.false, held, lt-ltb c.args.dimension (length (operand_sizes x.count x.shapes 0)) (omega (arith, c.if-rank-dimension.false, ranked)), lt-ltb c.args.operand x.count c.if-count-operand.false)
    c.all_alike.ensures
