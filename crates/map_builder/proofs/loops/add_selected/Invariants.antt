-- What is added: a dimension for each place before the index.
use Rattle.std.proofs.Common.{◌≡◌}
use Rattle.map_builder.specs.Draft.{steps, add_selected}
use Rattle.map_builder.proofs.loops.add_selected.Given as goal

abbrev pub invariant-loop-k : goal.invariant-loop-k
invariant-loop-k l = l.out ≡ steps (add_selected l.sizes l.list) l.k-index l.fn.d
