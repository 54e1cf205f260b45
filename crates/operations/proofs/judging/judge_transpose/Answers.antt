-- What the search leaves of `operations::judging::judge_transpose`. Assumes nothing.
use Rattle.std.proofs.Common.{rules}
use Rattle.operations.proofs.Judged.{transpose-judged}
use Rattle.operations.proofs.judging.judge_transpose.Goals as goal

pub returns : goal.returns
returns c =
    transpose-judged c.args.input c.args.dimensions.now (search rules) c.judge_list.result c.good_shape.result c.lists_all.result c.good_shape.ensures c.lists_all.ensures
    c.judge_list.ensures
