-- `rules::applying::rule4` meets its contract. Assumes nothing.
use Rattle.std.proofs.Common.{◌≡◌, ◌∙◌, sym, ap, rules, nat_abs, w64, to_z, of_z}
use mir.Facts.{to_z-of_z}
use Rattle.integer.proofs.Trunc.{abs-above-0}
use Rattle.rules.proofs.Made.{rule4-stays, rule4-many, rule4-made}
use Rattle.rules.proofs.applying.rule4.Goals as goal

pub returns-then-d-eq0 : goal.returns-then-d-eq0
returns-then-d-eq0 c =
    let d : to_z w64 (of_z w64 c.nested_divisor-d.result) ≡ c.nested_divisor-d.result = search rules in
    let N = rw (to_z-of_z c.ranges.c) at c.nested_divisor-d.ensures in
    rule4-stays _ c.args.w.now _ _ (nat_abs c.args.c) _ _ (abs-above-0 _ c.requires.3) N _ _ (sym d ∙ ap (to_z w64) c.if-d-eq0.true) (rw (to_z-of_z c.ranges.c) at c.stays.ensures)

pub returns-then-k-gt-MAX_TERMS : goal.returns-then-k-gt-MAX_TERMS
returns-then-k-gt-MAX_TERMS c =
    let N = rw (to_z-of_z c.ranges.c) at c.nested_divisor-d.ensures in
    rule4-many _ c.args.w.now _ _ (nat_abs c.args.c) _ _ (abs-above-0 _ c.requires.3) N (λ e. c.if-d-eq0.false (ap (of_z w64) e)) _ _ c.forward.ensures c.magnitude_at-k.ensures c.requires.5
    c.if-k-gt-MAX_TERMS.true

pub returns : goal.returns
returns c =
    let d : to_z w64 (of_z w64 c.nested_divisor-d.result) ≡ c.nested_divisor-d.result = search rules in
    let N = rw (to_z-of_z c.ranges.c) at c.nested_divisor-d.ensures in
    rw (c.new_op.ensures, d)
    (rule4-made _ c.args.w.now _ _ (nat_abs c.args.c) _ _ (abs-above-0 _ c.requires.3) N (λ e. c.if-d-eq0.false (ap (of_z w64) e)) _ _ c.forward.ensures c.magnitude_at-k.ensures
    _ _ _ _ _ _ c.if-k-gt-MAX_TERMS.false c.forward-2.ensures c.scale-m.ensures c.put-f.ensures)
