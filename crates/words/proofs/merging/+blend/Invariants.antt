-- The measure of `blend`. Assumes nothing.
use Rattle.std.proofs.Common.{◌+◌}
use Rattle.words.proofs.merging.+blend.Given as goal

abbrev pub decreases-blend : goal.decreases-blend
decreases-blend l = l.n + l.m
