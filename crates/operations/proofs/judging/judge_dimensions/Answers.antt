-- What the search leaves of `operations::judging::judge_dimensions`. Assumes nothing.
use Rattle.std.proofs.Common.{rules}
use Rattle.operations.proofs.Judged.{dimensions-judged}
use Rattle.operations.proofs.judging.judge_dimensions.Goals as goal

pub returns : goal.returns
returns c =
    dimensions-judged c.args.input c.args.dimensions.now (search rules) c.judge_list.result c.good_shape.result c.in_range.result c.good_shape.ensures c.in_range.ensures
    c.judge_list.ensures
