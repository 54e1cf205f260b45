-- What the loop of `all_hold` keeps.
use mathlib.Core.Path.{◌≡◌}
use mathlib.Core.Bool.{true}
use Prim.Native.Nat.{ℕ, ◌<◌}
use Rattle.indexing.specs.Map.{holds_at}
use Rattle.indexing.proofs.points.all_hold.Given as goal

abbrev pub invariant-loop-k : goal.invariant-loop-k
invariant-loop-k l = (j : ℕ) → j < l.k → holds_at l.m l.ds l.ss j ≡ true
