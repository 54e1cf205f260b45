-- What the loop of `valued` keeps.
use mathlib.Core.Path.{◌≡◌}
use Rattle.indexing.specs.Answers.{values_of}
use Rattle.indexing.proofs.points.valued.Given as goal

abbrev pub invariant-loop-i : goal.invariant-loop-i
invariant-loop-i l = l.values ≡ values_of l.m l.ds l.ss l.i
