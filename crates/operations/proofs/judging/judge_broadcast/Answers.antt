-- What the search leaves of `operations::judging::judge_broadcast`. Assumes nothing.
use Rattle.std.proofs.Common.{sym, ◌∙◌, rules}
use Rattle.shape.proofs.Limits.{limits}
use Rattle.operations.proofs.judging.judge_broadcast.Goals as goal

pub shared_ref_as_front-good_broadcast : goal.shared_ref_as_front-good_broadcast
shared_ref_as_front-good_broadcast c = (limits c.args.input (search rules) (sym c.good_shape.ensures ∙ c.if-not-good_shape.false)).rank

pub shared_ref_as_front-good_broadcast-2 : goal.shared_ref_as_front-good_broadcast-2
shared_ref_as_front-good_broadcast-2 c = (limits c.args.output (search rules) (sym c.good_shape-2.ensures ∙ c.if-not-good_shape-2.false)).rank
