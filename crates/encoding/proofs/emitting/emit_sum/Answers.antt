-- `encoding::emitting::emit_sum` meets its contract. Assumes nothing.
use Rattle.encoding.proofs.Emitted.{of-sum}
use Rattle.encoding.proofs.emitting.emit_sum.Goals as goal

pub returns : goal.returns
returns c = of-sum c.args.w.now _ _ c.emit_terms.ensures
