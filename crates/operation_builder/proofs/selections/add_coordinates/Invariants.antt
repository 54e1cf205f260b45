-- What is added: each coordinate before i.
use Rattle.std.proofs.Common.{◌≡◌}
use Rattle.map_builder.specs.Draft.{steps}
use Rattle.operation_builder.specs.SelectionDraft.{add_coordinate}
use Rattle.operation_builder.proofs.selections.add_coordinates.Given as goal

abbrev pub invariant-loop-i : goal.invariant-loop-i
invariant-loop-i l = l.out ≡ steps (add_coordinate l.sizes l.list) l.i l.fn.d
