-- What the loop of `compose_constraints` keeps.
use Rattle.compose.proofs.Gathering.{Composing}
use Rattle.compose.proofs.parts.compose_constraints.Given as goal

abbrev pub invariant-loop-k : goal.invariant-loop-k
invariant-loop-k l = Composing l.f l.g l.k l.counts l.lower l.upper l.kinds l.values l.at
