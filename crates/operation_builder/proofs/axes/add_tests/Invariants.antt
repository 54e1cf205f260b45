-- What is added: the constraint of each axis before i.
use Rattle.std.proofs.Common.{◌≡◌}
use Rattle.map_builder.specs.Draft.{steps}
use Rattle.operation_builder.specs.AxisDraft.{add_tests}
use Rattle.operation_builder.proofs.axes.add_tests.Given as goal

abbrev pub invariant-loop-i : goal.invariant-loop-i
invariant-loop-i l = l.x ≡ steps (add_tests l.out l.change l.sizes l.a l.b l.c) l.i l.fn.d
