-- The measure of `scale`. Assumes nothing.
use Rattle.words.proofs.making.+scale.Given as goal

abbrev pub decreases-scale : goal.decreases-scale
decreases-scale l = l.n
