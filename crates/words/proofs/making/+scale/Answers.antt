-- `words::making::scale` meets its contract. Assumes nothing.
use borrow.Author.Rules.{sfits_of}
use mathlib.Core.Path.{◌≡◌, sym, ap, ◌∙◌}
use lib.IntN.{pos, ◌*ℤ◌}
use lib.ListN.{get_or}
use mir.Syntax.{w64}
use mir.Val.{to_z, of_z}
use mir.Facts.{to_z-of_z}
use Rattle.words.specs.Saturated.{saturate, scaled}
use Rattle.words.proofs.Saturated.{scale-const, scale-gone, scale-stays}
use Rattle.words.proofs.TermByTerm.{of-const, of-less, of-more}
use Rattle.words.proofs.making.+scale.Goals as goal

pub returns-then-n-eq0 : goal.returns-then-n-eq0
returns-then-n-eq0 t c =
    let r = rw (to_z-of_z c.ranges.z, to_z-of_z (sfits_of c.word.type_inv), c.word.ensures) at c.times.ensures in
    let v = rw (to_z-of_z (sfits_of c.times.type_inv), r) at c.put-e.ensures in
    of-const (scaled c.args.z) _ c.args.w.now c.args.p _ _ _ _ _ c.if-n-eq0.true (scale-const c.args.z _) v

pub returns-then-m-eq0 : goal.returns-then-m-eq0
returns-then-m-eq0 t c =
    let r = rw (to_z-of_z c.ranges.z, to_z-of_z (sfits_of c.word-2.type_inv), c.word-2.ensures) at c.times-m.ensures in
    let z : saturate (c.args.z *ℤ get_or c.args.w.now c.skip_atom-q.result (pos 0)) ≡ pos 0 = sym r ∙ sym (to_z-of_z {w = w64} (sfits_of c.times-m.type_inv)) ∙ ap (to_z w64) c.if-m-eq0.true in
    of-less (scaled c.args.z) c.args.w.now _ _ c.skip_atom-q.result _ _ _ _ _ _ c.if-n-eq0.false c.skip_atom-q.ensures c.forward-b.ensures (λ b t. scale-gone c.args.z _ b t z) (rw (to_z-of_z c.ranges.z) at c.scale.ensures)

pub returns : goal.returns
returns t c =
    let r = rw (to_z-of_z c.ranges.z, to_z-of_z (sfits_of c.word-2.type_inv), c.word-2.ensures) at c.times-m.ensures in
    let v = rw (to_z-of_z (sfits_of c.times-m.type_inv), r) at c.put-f.ensures in
    of-more (scaled c.args.z) _ c.args.w.now _ _ c.skip_atom-q.result _ _ _ _ _ _ _ _ _ _ c.if-n-eq0.false c.skip_atom-q.ensures c.forward-b.ensures
    (λ b t. scale-stays c.args.z _ b t (λ e. c.if-m-eq0.false (ap (of_z w64) (r ∙ e)))) c.copy-e.ensures v (rw (to_z-of_z c.ranges.z) at c.scale-r.ensures)
