-- `rules::applying::apply_rule` meets its contract. Assumes nothing.
use Rattle.std.proofs.Common.{◌≡◌, ◌∙◌, sym, ap, rules, pos, nat_abs, w64, to_z, of_z}
use mir.Facts.{to_z-of_z}
use Rattle.integer.proofs.Trunc.{above-0}
use Rattle.rules.proofs.Outcomes.{apply-one, apply-passed, apply_at, apply-rest}
use Rattle.rules.proofs.applying.apply_rule.Goals as goal

pub returns-then-c-eq1 : goal.returns-then-c-eq1
returns-then-c-eq1 c =
    apply-one _ c.args.w.now _ _ c.args.c _ _ _ (ap nat_abs (sym (to_z-of_z c.ranges.c) ∙ ap (to_z w64) c.if-c-eq1.true)) c.rule1.ensures

pub returns-in-Passed : goal.returns-in-Passed
returns-in-Passed c =
    let other = λ (e : nat_abs c.args.c ≡ 1). c.if-c-eq1.false (ap (of_z w64) (above-0 c.args.c c.requires.3 ∙ ap pos e)) in
    apply-passed _ c.args.w.now _ _ c.args.c _ _ other c.fitting.auto.out (rw (to_z-of_z c.ranges.c) at c.in-Passed.ensures)

pub returns-in-At : goal.returns-in-At
returns-in-At c =
    let other = λ (e : nat_abs c.args.c ≡ 1). c.if-c-eq1.false (ap (of_z w64) (above-0 c.args.c c.requires.3 ∙ ap pos e)) in
    let g : to_z w64 (of_z w64 c.in-At.g) ≡ c.in-At.g = search rules in
    let q : to_z w64 (of_z w64 c.in-At.q) ≡ c.in-At.q = search rules in
    apply_at _ c.args.w.now _ _ c.args.c _ _ other _ _ _ _ c.fitting.auto.out (rw (to_z-of_z c.ranges.c) at c.in-At.ensures) (rw (to_z-of_z c.ranges.c, g, q) at c.rule2.ensures)

pub returns-in-None : goal.returns-in-None
returns-in-None c =
    let other = λ (e : nat_abs c.args.c ≡ 1). c.if-c-eq1.false (ap (of_z w64) (above-0 c.args.c c.requires.3 ∙ ap pos e)) in
    apply-rest _ c.args.w.now _ _ c.args.c _ _ other _ _ c.fitting.auto.out (rw (to_z-of_z c.ranges.c) at c.in-None.ensures) (rw (to_z-of_z c.ranges.c) at c.rules34.ensures)
