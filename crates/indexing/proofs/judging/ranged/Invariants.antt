-- What the loop of `ranged` keeps.
use mathlib.Core.Path.{◌≡◌}
use Rattle.indexing.specs.Answers.{lows_of, highs_of}
use Rattle.indexing.proofs.judging.ranged.Given as goal

abbrev pub invariant-loop-i : goal.invariant-loop-i
invariant-loop-i l = (l.lower ≡ lows_of l.m l.i) × (l.upper ≡ highs_of l.m l.i)
