-- The number of terms left is what a call makes smaller.
use Rattle.rules.proofs.applying.+next_divisor.Given as goal

abbrev pub decreases-next_divisor : goal.decreases-next_divisor
decreases-next_divisor l = l.n
