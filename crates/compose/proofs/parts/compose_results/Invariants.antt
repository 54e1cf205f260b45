-- What the loop of `compose_results` keeps.
use mathlib.Core.List.{[]}
use Prim.Native.Nat.{ℕ}
use Rattle.indexing.specs.Map.{max_results}
use Rattle.encoding.specs.Trees.{listed, expr_at}
use Rattle.compose.specs.ComposeMap.{put_into}
use Rattle.compose.specs.Ready.{Gathers}
use Rattle.compose.proofs.parts.compose_results.Given as goal

abbrev pub invariant-loop-i : goal.invariant-loop-i
invariant-loop-i l = Gathers [] (listed (λ (n : ℕ). put_into l.f (expr_at l.g n)) l.i) max_results l.counts l.kinds l.values l.at
