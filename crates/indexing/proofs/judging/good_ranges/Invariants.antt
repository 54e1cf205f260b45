-- What the loop of `good_ranges` keeps.
use mathlib.Core.Path.{◌≡◌}
use mathlib.Core.Bool.{true}
use Prim.Native.Nat.{ℕ, ◌<◌}
use Rattle.indexing.specs.Map.{kept_at}
use Rattle.indexing.proofs.judging.good_ranges.Given as goal

abbrev pub invariant-loop-i : goal.invariant-loop-i
invariant-loop-i l = (j : ℕ) → j < l.i → kept_at l.m j ≡ true
