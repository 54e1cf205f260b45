-- What the loop of `joined_ends` keeps.
use mathlib.Core.Path.{◌≡◌}
use Prim.Native.Nat.{ℕ, ◌<◌}
use lib.IntN.{pos}
use lib.ListN.{length, get_or}
use Rattle.expression.specs.Node.{max_places}
use Rattle.compose.specs.ComposeMap.{end_at}
use Rattle.compose.proofs.bounds.joined_ends.Given as goal

abbrev pub invariant-loop-i : goal.invariant-loop-i
invariant-loop-i l = (length l.out ≡ max_places) × ((k : ℕ) → k < l.i → get_or l.out k (pos 0) ≡ end_at l.first l.fs l.gs k)
