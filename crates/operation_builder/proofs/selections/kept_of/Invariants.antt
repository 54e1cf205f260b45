-- What is kept of the dimensions before j.
use Rattle.operation_builder.specs.SelectionDraft.{KeptAs}
use Rattle.operation_builder.proofs.selections.kept_of.Given as goal

abbrev pub invariant-loop-j : goal.invariant-loop-j
invariant-loop-j l = KeptAs l.list l.sizes l.j l.out
