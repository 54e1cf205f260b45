-- `words::merging::blend` meets its contract. Assumes nothing.
use borrow.Author.Rules.{sfits_of}
use mathlib.Core.Path.{sym, ap, ◌∙◌}
use mir.Syntax.{w64}
use mir.Val.{to_z, of_z}
use mir.Facts.{to_z-of_z}
use Rattle.words.proofs.Joined.{take-first, take_second, take_none, take-zero, take-both, one_of}
use Rattle.words.proofs.merging.+blend.Goals as goal

pub returns-then-o-eq0 : goal.returns-then-o-eq0
returns-then-o-eq0 t c =
    let a = rw (to_z-of_z c.ranges.k, to_z-of_z (sfits_of c.word.type_inv), c.word.ensures) at c.times.ensures in
    let z = rw (to_z-of_z (sfits_of c.times.type_inv), a) at c.put-g.ensures in
    take-first c.args.k c.args.w.now _ _ c.args.v.now _ _ _ _ _ _ _ c.order-o.ensures c.skip_atom-q.ensures c.forward-b.ensures c.skip_atom-j.ensures c.forward-f.ensures
    _ _ _ _ _ _ _ _ _ c.if-o-eq0.true c.copy-e.ensures z (rw (to_z-of_z c.ranges.k) at c.blend-r.ensures)

pub returns-then-o-eq2 : goal.returns-then-o-eq2
returns-then-o-eq2 t c =
    take_second c.args.k c.args.w.now _ _ c.args.v.now _ _ _ _ _ _ _ c.order-o.ensures c.skip_atom-q.ensures c.forward-b.ensures c.skip_atom-j.ensures c.forward-f.ensures
    _ _ _ _ _ _ _ c.if-o-eq2.true c.copy-e-then-o-eq2.ensures (rw (to_z-of_z c.ranges.k) at c.blend-r-then-o-eq2.ensures)

pub returns-then-n-eq0 : goal.returns-then-n-eq0
returns-then-n-eq0 t c =
    let a = rw (to_z-of_z c.ranges.k, to_z-of_z (sfits_of c.word-then-n-eq0.type_inv), c.word-then-n-eq0.ensures, to_z-of_z (sfits_of c.word-then-n-eq0-2.type_inv), c.word-then-n-eq0-2.ensures) at c.multiply_add.ensures in
    let z = rw (to_z-of_z (sfits_of c.multiply_add.type_inv), a) at c.put-e.ensures in
    take_none c.args.k c.args.w.now _ _ c.args.v.now _ _ _ _ _ _ _ c.order-o.ensures c.skip_atom-q.ensures c.forward-b.ensures c.skip_atom-j.ensures c.forward-f.ensures
    _ _ _ _ (one_of _ c.order-o.ensures.most c.if-o-eq0.false c.if-o-eq2.false) c.if-n-eq0.true z

pub returns-then-s-eq0 : goal.returns-then-s-eq0
returns-then-s-eq0 t c =
    let g = one_of _ c.order-o.ensures.most c.if-o-eq0.false c.if-o-eq2.false in
    let a = rw (to_z-of_z c.ranges.k, to_z-of_z (sfits_of c.word-2.type_inv), c.word-2.ensures, to_z-of_z (sfits_of c.word-3.type_inv), c.word-3.ensures) at c.multiply_add-s.ensures in
    take-zero c.args.k c.args.w.now _ _ c.args.v.now _ _ _ _ _ _ _ c.order-o.ensures c.skip_atom-q.ensures c.forward-b.ensures c.skip_atom-j.ensures c.forward-f.ensures
    _ _ _ _ _ g c.if-n-eq0.false (sym a ∙ sym (to_z-of_z {w = w64} (sfits_of c.multiply_add-s.type_inv)) ∙ ap (to_z w64) c.if-s-eq0.true) (rw (to_z-of_z c.ranges.k) at c.blend.ensures)

pub returns : goal.returns
returns t c =
    let g = one_of _ c.order-o.ensures.most c.if-o-eq0.false c.if-o-eq2.false in
    let a = rw (to_z-of_z c.ranges.k, to_z-of_z (sfits_of c.word-2.type_inv), c.word-2.ensures, to_z-of_z (sfits_of c.word-3.type_inv), c.word-3.ensures) at c.multiply_add-s.ensures in
    let z = rw (to_z-of_z (sfits_of c.multiply_add-s.type_inv)) at c.put-g-2.ensures in
    take-both c.args.k c.args.w.now _ _ c.args.v.now _ _ _ _ _ _ _ c.order-o.ensures c.skip_atom-q.ensures c.forward-b.ensures c.skip_atom-j.ensures c.forward-f.ensures
    _ _ _ _ _ _ _ _ _ c.multiply_add-s.result g c.if-n-eq0.false a (λ e. c.if-s-eq0.false (ap (of_z w64) e)) c.copy-e-2.ensures z (rw (to_z-of_z c.ranges.k) at c.blend-r-2.ensures)
