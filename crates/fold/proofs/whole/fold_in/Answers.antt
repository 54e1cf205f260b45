-- What the search leaves of `fold::whole::fold_in`. Assumes nothing.
use Rattle.std.proofs.Common.{Ok, ◌∙◌, ap, arith}
use Rattle.fold.proofs.Assembled.{results-large, constraints-large, nodes-many, assembled}
use Rattle.fold.proofs.whole.fold_in.Goals as goal

pub returns-in_default : goal.returns-in_default
returns-in_default c = results-large c.args.m c.in_default.ensures

pub returns-in_default-fold_constraints : goal.returns-in_default-fold_constraints
returns-in_default-fold_constraints c = constraints-large c.args.m c.in_default-fold_constraints.ensures

pub returns-then-left-gt-MAX_NODES : goal.returns-then-left-gt-MAX_NODES
returns-then-left-gt-MAX_NODES c = nodes-many c.args.m c.in-Some.ensures c.in-Some-fold_constraints.ensures c.if-left-gt-MAX_NODES.true

pub returns : goal.returns
returns c = ap Ok c.folded_record-map.ensures ∙ assembled c.args.m c.in-Some.ensures c.in-Some-fold_constraints.ensures (omega arith)
