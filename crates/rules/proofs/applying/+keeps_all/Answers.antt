-- `rules::applying::keeps_all` meets its contract. Assumes nothing.
use Rattle.std.proofs.Common.{◌≡◌, ◌∙◌, sym, ap, rules, ℤ, pos, nat_abs, w64, to_z, of_z}
use borrow.Author.Rules.{sfits_of}
use mir.Facts.{to_z-of_z}
use Rattle.expression.specs.Expression.{eqℤ}
use Rattle.rules.proofs.Terms.{zero_test, keeps-last, keeps-not, keeps-more}
use Rattle.rules.proofs.applying.+keeps_all.Goals as goal

pub returns-then-n-eq0 : goal.returns-then-n-eq0
returns-then-n-eq0 t c =
    let v : to_z w64 (of_z w64 c.word.result) ≡ c.word.result = search rules in
    let d = rw (v, c.word.ensures, to_z-of_z c.ranges.c) at c.floor_div.ensures in
    keeps-last c.args.w.now _ _ (nat_abs c.args.c) _ c.if-n-eq0.true (zero_test c.floor_div.result (sfits_of c.floor_div.type_inv) ∙ ap (λ (z : ℤ). eqℤ z (pos 0)) d)

pub returns-then-m-eq0 : goal.returns-then-m-eq0
returns-then-m-eq0 t c =
    let v : to_z w64 (of_z w64 c.word-2.result) ≡ c.word-2.result = search rules in
    let m : to_z w64 (of_z w64 c.floor_mod-m.result) ≡ c.floor_mod-m.result = search rules in
    let d = rw (v, c.word-2.ensures, to_z-of_z c.ranges.c) at c.floor_mod-m.ensures in
    keeps-not c.args.w.now _ _ (nat_abs c.args.c) _ 0 c.if-n-eq0.false c.skip_atom-q.ensures (sym d ∙ sym m ∙ ap (to_z w64) c.if-m-eq0.true)

pub returns : goal.returns
returns t c =
    let v : to_z w64 (of_z w64 c.word-2.result) ≡ c.word-2.result = search rules in
    let d = rw (v, c.word-2.ensures, to_z-of_z c.ranges.c) at c.floor_mod-m.ensures in
    keeps-more c.args.w.now _ _ (nat_abs c.args.c) _ _ c.if-n-eq0.false c.skip_atom-q.ensures _ c.forward-b.ensures (λ e. c.if-m-eq0.false (ap (of_z w64) (d ∙ e)))
    (rw (to_z-of_z c.ranges.c) at c.keeps_all.ensures)
