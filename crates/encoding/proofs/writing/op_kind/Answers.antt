-- `encoding::writing::op_kind` meets its contract. Assumes nothing.
use Rattle.encoding.proofs.Variables.{of-floordiv, of-mod}
use Rattle.encoding.proofs.writing.op_kind.Goals as goal

pub returns-then-op-eq3 : goal.returns-then-op-eq3
returns-then-op-eq3 c = of-floordiv _ c.if-op-eq3.true

pub returns-else-op-eq3 : goal.returns-else-op-eq3
returns-else-op-eq3 c = of-mod _ c.if-op-eq3.false
