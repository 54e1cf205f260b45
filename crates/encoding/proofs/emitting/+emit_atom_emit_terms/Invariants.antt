-- The measures of `emit_terms` and `emit_atom`. Assumes nothing.
use Rattle.std.proofs.Common.{◌+◌, ◌-◌, ◌*◌, length}
use Rattle.encoding.proofs.emitting.+emit_atom_emit_terms.Given as goal

abbrev pub decreases-emit_terms : goal.decreases-emit_terms
decreases-emit_terms l = 2 * (length l.w.now - l.p) + 1

abbrev pub decreases-emit_atom : goal.decreases-emit_atom
decreases-emit_atom l = 2 * (length l.w.now - l.p)
