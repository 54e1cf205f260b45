-- What the loop of `are_in` keeps.
use mathlib.Core.Path.{◌≡◌}
use mathlib.Core.Bool.{true}
use Prim.Native.Nat.{ℕ, ◌<◌}
use Rattle.indexing.specs.Map.{in_at}
use Rattle.indexing.proofs.points.are_in.Given as goal

abbrev pub invariant-loop-k : goal.invariant-loop-k
invariant-loop-k l = (j : ℕ) → j < l.k → in_at l.zs l.los l.his l.from j ≡ true
