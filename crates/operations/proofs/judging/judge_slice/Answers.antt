-- What the search leaves of `operations::judging::judge_slice`. Assumes nothing.
use Rattle.std.proofs.Common.{sym, ◌∙◌, rules}
use Rattle.shape.proofs.Limits.{limits}
use Rattle.operations.proofs.judging.judge_slice.Goals as goal

pub shared_ref_as_front-good_cuts : goal.shared_ref_as_front-good_cuts
shared_ref_as_front-good_cuts c = (limits c.args.input (search rules) (sym c.good_shape.ensures ∙ c.if-not-good_shape.false)).rank
