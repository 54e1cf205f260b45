-- What the search leaves of `operations::judging::judge_list`. Assumes nothing.
use Rattle.std.proofs.Common.{◌∙◌}
use Rattle.operations.proofs.Judged.{list-repeat}
use Rattle.operations.proofs.judging.judge_list.Goals as goal

pub returns : goal.returns
returns c = c.first_repeat.ensures ∙ list-repeat c.args.shapes c.args.attributes c.args.list.now c.if-not-shapes.false c.if-not-attributes.false
