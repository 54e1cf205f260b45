-- What the search leaves of `operation_builder::selections::kept_of`. Assumes nothing.
use Rattle.std.proofs.Common.{arith}
use Rattle.operation_builder.proofs.SelectionSteps.{none-kept, few-kept, kept_next}
use Rattle.operation_builder.proofs.selections.kept_of.Goals as goal

pub loop-j-init : goal.loop-j-init
loop-j-init c = none-kept c.args.list.now c.args.sizes.now

pub keep-out-requires : goal.keep-out-requires
keep-out-requires c = omega (arith, few-kept c.args.list.now c.args.sizes.now c.loop-j.j c.loop-j.out c.loop-j.invariant)

pub loop-j-preserved : goal.loop-j-preserved
loop-j-preserved c = kept_next c.args.list.now c.args.sizes.now c.loop-j.j c.loop-j.out c.keep-out.result c.keep-out.ensures c.loop-j.invariant
