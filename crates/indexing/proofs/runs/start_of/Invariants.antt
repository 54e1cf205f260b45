-- What the loop of `start_of` keeps.
use mathlib.Core.Path.{◌≡◌}
use Prim.Native.Nat.{◌+◌, min}
use Rattle.expression.specs.Node.{max_nodes}
use Rattle.indexing.specs.Map.{start_of, count_in}
use Rattle.indexing.proofs.runs.start_of.Given as goal

abbrev pub invariant-loop-j : goal.invariant-loop-j
invariant-loop-j l = l.start ≡ min (start_of (count_in l.results l.constraints l.n) l.j) (max_nodes + 1)
