use Rattle.std.proofs.Common.{◌≡◌, ◌/◌, length, drop}
use Rattle.radix.specs.Radix.{prod}
use Rattle.radix.proofs.Loops.{Behind}
use Rattle.radix.proofs.digits_into.Given as goal

-- k is the quotient of n by the sizes from i on, whose digits stand already
abbrev pub invariant-loop-i : goal.invariant-loop-i
invariant-loop-i l = (l.k ≡ l.n / prod (drop l.i l.ds)) × Behind l.ds l.n l.out (drop (length l.ds) l.initial.out) l.i
