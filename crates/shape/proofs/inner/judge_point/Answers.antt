-- `shape::inner::judge_point` meets its contract. Assumes nothing.
use Rattle.std.proofs.Common.{rules}
use Rattle.shape.proofs.Limits.{limits}
use Rattle.shape.proofs.inner.judge_point.Goals as goal

pub shared_ref_as_front-inside : goal.shared_ref_as_front-inside
shared_ref_as_front-inside c = (limits c.args.shape (search rules) c.requires).rank
