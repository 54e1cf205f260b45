-- What is added: a dimension for each size before the index.
use Rattle.std.proofs.Common.{◌≡◌}
use Rattle.map_builder.specs.Draft.{steps, add_size}
use Rattle.map_builder.proofs.loops.add_whole.Given as goal

abbrev pub invariant-loop-size : goal.invariant-loop-size
invariant-loop-size l = l.out ≡ steps (add_size l.sizes) l.size-index l.fn.d
