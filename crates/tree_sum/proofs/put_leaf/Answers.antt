-- `tree_sum::put_leaf` meets its contract. Assumes nothing.
use Rattle.std.proofs.Common.{◌≡◌, rules, w64, to_z, of_z}
use Rattle.tree_sum.proofs.Leaves.{dimension-written, range-written, constant-written}
use Rattle.tree_sum.proofs.put_leaf.Goals as goal

pub returns-in-Dim : goal.returns-in-Dim
returns-in-Dim c =
    let l : to_z w64 (of_z w64 c.word-lo.result) ≡ c.word-lo.result = search rules in
    let h : to_z w64 (of_z w64 c.word-hi.result) ≡ c.word-hi.result = search rules in
    let P = rw (l, c.word-lo.ensures, h, c.word-hi.ensures) at c.put_variable.ensures in
    rw c.in-Dim.is (dimension-written c.args.lower.now c.args.upper.now c.in-Dim.n _ _ _ _ P)

pub returns-in-Range : goal.returns-in-Range
returns-in-Range c =
    let l : to_z w64 (of_z w64 c.word-lo-in-Range.result) ≡ c.word-lo-in-Range.result = search rules in
    let h : to_z w64 (of_z w64 c.word-hi-in-Range.result) ≡ c.word-hi-in-Range.result = search rules in
    let P = rw (l, c.word-lo-in-Range.ensures, h, c.word-hi-in-Range.ensures) at c.put_variable-in-Range.ensures in
    rw c.in-Range.is (range-written c.args.lower.now c.args.upper.now c.in-Range.n _ _ _ _ P)

pub returns-in-Constant : goal.returns-in-Constant
returns-in-Constant c =
    let e : to_z w64 (of_z w64 c.in-Constant.z) ≡ c.in-Constant.z = search rules in
    let P = rw e at c.put-e.ensures in
    rw c.in-Constant.is (constant-written _ c.in-Constant.z _ _ _ (rw c.in-Constant.is at c.requires) P)
