-- The fuel is what a call makes smaller.
use Rattle.rules.proofs.rewriting.+apply_rules.Given as goal

abbrev pub decreases-apply_rules : goal.decreases-apply_rules
decreases-apply_rules l = l.fuel
