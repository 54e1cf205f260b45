-- The measure of `part_p`. Assumes nothing.
use Rattle.words.proofs.making.+part_p.Given as goal

abbrev pub decreases-part_p : goal.decreases-part_p
decreases-part_p l = l.n
