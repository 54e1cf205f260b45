-- What is added: a result for each place before the index.
use Rattle.std.proofs.Common.{◌≡◌}
use Rattle.map_builder.specs.Draft.{steps, add_variable}
use Rattle.map_builder.proofs.loops.add_variables.Given as goal

abbrev pub invariant-loop-k : goal.invariant-loop-k
invariant-loop-k l = l.out ≡ steps (add_variable l.list) l.k-index l.fn.d
