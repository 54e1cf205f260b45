-- The number of terms left is what a call makes smaller.
use Rattle.rules.proofs.applying.+keeps_all.Given as goal

abbrev pub decreases-keeps_all : goal.decreases-keeps_all
decreases-keeps_all l = l.n
