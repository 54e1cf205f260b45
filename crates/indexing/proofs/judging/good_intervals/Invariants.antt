-- What the loop of `good_intervals` keeps.
use mathlib.Core.Path.{◌≡◌}
use mathlib.Core.Bool.{true}
use Prim.Native.Nat.{ℕ, ◌+◌, ◌<◌}
use Rattle.indexing.specs.Map.{good_ends_at}
use Rattle.indexing.proofs.judging.good_intervals.Given as goal

abbrev pub invariant-loop-k : goal.invariant-loop-k
invariant-loop-k l = (j : ℕ) → j < l.k → good_ends_at l.most l.los l.his (l.from + j) ≡ true
