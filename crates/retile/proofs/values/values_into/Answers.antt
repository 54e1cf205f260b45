-- `retile::values::values_into` meets its contract. Assumes nothing.
use Rattle.std.proofs.Common.{arith}
use Rattle.retile.proofs.Filling.{begun-start, begun-end}
use Rattle.retile.proofs.values.values_into.Goals as goal

pub loop-i-init : goal.loop-i-init
loop-i-init c = begun-start _ c.args.values.now

pub returns : goal.returns
returns c = begun-end _ _ _ _ _ c.loop-i.invariant (omega arith)
