-- The measures of `skip` and `skip_atom`. Assumes nothing.
use Rattle.std.proofs.Common.{◌+◌, ◌-◌, ◌*◌, length}
use Rattle.words.proofs.places.+skip_skip_atom.Given as goal

abbrev pub decreases-skip : goal.decreases-skip
decreases-skip l = 2 * (length l.w.now - l.p) + 1

abbrev pub decreases-skip_atom : goal.decreases-skip_atom
decreases-skip_atom l = 2 * (length l.w.now - l.p)
