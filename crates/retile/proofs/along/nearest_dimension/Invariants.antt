-- The invariant: the best one yet is a dimension.
use Rattle.std.proofs.Common.{◌<◌, length}
use Rattle.retile.proofs.along.nearest_dimension.Given as goal

abbrev pub invariant-loop-place : goal.invariant-loop-place
invariant-loop-place l = l.best < length l.t.sizes.now
