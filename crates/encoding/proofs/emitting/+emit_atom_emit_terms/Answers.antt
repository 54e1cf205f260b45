-- `encoding::emitting::emit_atom` and `encoding::emitting::emit_terms` meet their contracts. Assumes nothing.
use borrow.Author.Rules.{sfits_of}
use mir.Facts.{to_z-of_z}
use Rattle.encoding.proofs.Emitted.{atom-end, terms-end, of-variable, of-op, of-constant, of-term}
use Rattle.encoding.proofs.emitting.+emit_atom_emit_terms.Goals as goal

pub emit_atom-returns-then-p-w : goal.emit_atom-returns-then-p-w
emit_atom-returns-then-p-w t c = atom-end c.args.w.now _ _ _ _ c.requires.room c.if-p-w.true

pub emit_atom-returns-then-kind-lt3 : goal.emit_atom-returns-then-kind-lt3
emit_atom-returns-then-kind-lt3 t c =
    let u = rw (to_z-of_z (sfits_of c.place_of-place.type_inv)) at c.put_node.ensures in
    let i = rw c.magnitude_at.ensures at c.place_of-place.ensures in
    of-variable c.args.w.now _ _ _ c.magnitude_at-kind.ensures c.forward-second.ensures c.if-kind-lt3.true i u

pub emit_atom-returns : goal.emit_atom-returns
emit_atom-returns t c =
    let u = rw (to_z-of_z (sfits_of c.word.type_inv), c.word.ensures) at c.put_node-2.ensures in
    of-op c.args.w.now _ _ _ c.magnitude_at-kind.ensures c.forward-second.ensures _ _ _ c.requires.room c.if-kind-lt3.false c.forward-third.ensures c.forward-inner.ensures
    c.magnitude_at-2.ensures c.emit_terms-end.ensures c.op_kind.ensures u

pub emit_terms-returns-then-p-w : goal.emit_terms-returns-then-p-w
emit_terms-returns-then-p-w t c = terms-end _ c.args.w.now _ _ _ _ _ c.requires.room c.if-p-w.true

pub emit_terms-returns-then-n-eq0 : goal.emit_terms-returns-then-n-eq0
emit_terms-returns-then-n-eq0 t c =
    let u = rw (to_z-of_z (sfits_of c.word.type_inv), c.word.ensures) at c.put_constant.ensures in
    of-constant _ c.args.w.now _ _ c.requires.room c.if-n-eq0.true u

pub emit_terms-returns : goal.emit_terms-returns
emit_terms-returns t c =
    let u = rw (to_z-of_z (sfits_of c.word-2.type_inv), c.word-2.ensures) at c.put_coefficient-e.ensures in
    of-term _ c.args.w.now _ _ _ _ c.requires.room c.if-n-eq0.false c.emit_atom-end.ensures c.skip_atom-q.ensures u c.forward-next.ensures c.emit_terms.ensures
