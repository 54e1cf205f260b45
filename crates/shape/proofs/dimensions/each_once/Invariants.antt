use Rattle.shape.proofs.Marks.{Marked}
use Rattle.shape.proofs.dimensions.each_once.Given as goal

-- each dimension so far is below the length, stands once and is marked
abbrev pub invariant-loop-d : goal.invariant-loop-d
invariant-loop-d l = Marked l.list l.d-index l.met
