-- What is left to add, and the room for it.
use Rattle.std.proofs.Common.{◌≡◌, ◌+◌, ◌*◌, ◌≤◌, drop}
use Rattle.map_builder.specs.Draft.{push_terms}
use Rattle.map_builder.proofs.loops.push_linear.Given as goal

abbrev pub invariant-loop-i : goal.invariant-loop-i
invariant-loop-i l = (push_terms l.i (drop l.i l.sizes) l.out ≡ push_terms 0 l.sizes l.fn.d) × (l.out.at ≤ l.fn.d.at + 3 * l.i) × (l.out.under ≤ l.out.at)
