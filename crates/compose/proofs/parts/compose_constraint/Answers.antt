-- `compose::parts::compose_constraint` meets its contract. Assumes nothing.
use native.Mathlib.Omega.{arith}
use Rattle.indexing.proofs.Formed.{counts}
use Rattle.compose.proofs.Joined.{run-first, run_inside, run-other}
use Rattle.compose.proofs.parts.compose_constraint.Goals as goal

pub overflow_add-f : goal.overflow_add-f
overflow_add-f c = let n = counts c.args.f c.requires.0.both.before in record { fits = omega arith }

pub copy_run-requires : goal.copy_run-requires
copy_run-requires c = (c.requires.0.both.before, run-first c.requires.0 c.args.k c.requires.1 c.if-k-f.true, c.requires.2)

pub copy_run-requires-then-i-f : goal.copy_run-requires-then-i-f
copy_run-requires-then-i-f c = (c.requires.0.both.before, run_inside c.requires.0 c.args.k c.requires.1 c.if-i-f.true, c.requires.2)

pub overflow_add-g : goal.overflow_add-g
overflow_add-g c = let n = counts c.args.g c.requires.0.both.after in record { fits = omega arith }

pub splice_run-requires : goal.splice_run-requires
splice_run-requires c = (c.requires.0, run-other c.requires.0 c.args.k c.requires.1 c.if-k-f.false c.if-i-f.false, c.requires.2)
