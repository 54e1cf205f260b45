use Rattle.std.proofs.Common.{◌≡◌, ◌+◌}
use Rattle.integer.specs.Gcd.{gcd_of, rounds_of}
use Rattle.integer.proofs.gcd.Given as goal

-- the pair has the gcd of a and b, and the rounds that are left
abbrev pub invariant-loop : goal.invariant-loop
invariant-loop l = (gcd_of l.x l.y ≡ gcd_of l.a l.b) × (l.counter + rounds_of l.x l.y ≡ rounds_of l.a l.b)
