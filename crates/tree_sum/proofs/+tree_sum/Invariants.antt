-- The place of the tree's end is what a call makes smaller.
use Rattle.tree_sum.proofs.+tree_sum.Given as goal

abbrev pub decreases-tree_sum : goal.decreases-tree_sum
decreases-tree_sum l = l.i
