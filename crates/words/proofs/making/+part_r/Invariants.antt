-- The measure of `part_r`. Assumes nothing.
use Rattle.words.proofs.making.+part_r.Given as goal

abbrev pub decreases-part_r : goal.decreases-part_r
decreases-part_r l = l.n
