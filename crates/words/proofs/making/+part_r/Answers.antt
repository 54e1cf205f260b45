-- `words::making::part_r` meets its contract. Assumes nothing.
use borrow.Author.Rules.{sfits_of}
use mathlib.Core.Path.{sym, ap, ◌∙◌}
use lib.IntN.{nat_abs}
use mir.Syntax.{w64}
use mir.Val.{to_z, of_z}
use mir.Facts.{to_z-of_z}
use Rattle.folding.specs.Fold.{part_r}
use Rattle.words.proofs.Parts.{r-const, r-gone, r-stays}
use Rattle.words.proofs.TermByTerm.{of-const, of-less, of-more}
use Rattle.words.proofs.making.+part_r.Goals as goal

pub returns-then-n-eq0 : goal.returns-then-n-eq0
returns-then-n-eq0 t c =
    let d = rw (to_z-of_z (sfits_of c.word.type_inv), c.word.ensures, to_z-of_z c.ranges.g) at c.floor_mod.ensures in
    let v = rw (to_z-of_z (sfits_of c.floor_mod.type_inv), d) at c.put-e.ensures in
    of-const (part_r (nat_abs c.args.g)) _ c.args.w.now c.args.p _ _ _ _ _ c.if-n-eq0.true (r-const (nat_abs c.args.g) _) v

pub returns-then-m-eq0 : goal.returns-then-m-eq0
returns-then-m-eq0 t c =
    let d = rw (to_z-of_z (sfits_of c.word-c.type_inv), c.word-c.ensures, to_z-of_z c.ranges.g) at c.floor_mod-m.ensures in
    of-less (part_r (nat_abs c.args.g)) c.args.w.now _ _ c.skip_atom-q.result _ _ _ _ _ _ c.if-n-eq0.false c.skip_atom-q.ensures c.forward-b.ensures (λ b t. r-gone (nat_abs c.args.g) _ b t (sym d ∙ sym (to_z-of_z {w = w64} (sfits_of c.floor_mod-m.type_inv)) ∙ ap (to_z w64) c.if-m-eq0.true)) (rw (to_z-of_z c.ranges.g) at c.part_r.ensures)

pub returns : goal.returns
returns t c =
    let d = rw (to_z-of_z (sfits_of c.word-c.type_inv), c.word-c.ensures, to_z-of_z c.ranges.g) at c.floor_mod-m.ensures in
    let u = rw (to_z-of_z (sfits_of c.word-c.type_inv), c.word-c.ensures) at c.put-f.ensures in
    of-more (part_r (nat_abs c.args.g)) _ c.args.w.now _ _ c.skip_atom-q.result _ _ _ _ _ _ _ _ _ _ c.if-n-eq0.false c.skip_atom-q.ensures c.forward-b.ensures
    (λ b t. r-stays (nat_abs c.args.g) _ b t (λ e. c.if-m-eq0.false (ap (of_z w64) (d ∙ e)))) c.copy-e.ensures u (rw (to_z-of_z c.ranges.g) at c.part_r-r.ensures)
