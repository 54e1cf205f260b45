-- The measure of `reckon`. Assumes nothing.
use Rattle.words.proofs.ranges.+reckon.Given as goal

abbrev pub decreases-reckon : goal.decreases-reckon
decreases-reckon l = l.n
