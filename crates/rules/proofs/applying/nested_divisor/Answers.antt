-- `rules::applying::nested_divisor` meets its contract. Assumes nothing.
use Rattle.std.proofs.Common.{◌≡◌, ◌∙◌, sym, ap, rules, ℤ, pos, ◌*ℤ◌, get_or, w64, to_z, of_z}
use mir.Facts.{to_z-of_z}
use Rattle.integer.proofs.Trunc.{above-0, abs-above-0}
use Rattle.words.specs.Saturated.{saturate}
use Rattle.rules.specs.Rules.{kept_divisor}
use Rattle.rules.proofs.Nested.{at-floordiv, at-coefficient, at_constant, nest-not, nest-is}
use Rattle.rules.proofs.applying.nested_divisor.Goals as goal

pub returns-then-op-ne3 : goal.returns-then-op-ne3
returns-then-op-ne3 c = nest-not _ c.args.w.now _ _ _ (λ β e x a k y i j st e1 k0. c.if-op-ne3.true i)

pub returns-then-n-ne1 : goal.returns-then-n-ne1
returns-then-n-ne1 c = nest-not _ c.args.w.now _ _ _ (λ β e x a k y i j st e1 k0. c.if-n-ne1.true j)

pub returns-then-magnitude_at-ne3 : goal.returns-then-magnitude_at-ne3
returns-then-magnitude_at-ne3 c =
    nest-not _ c.args.w.now _ _ _ (λ β e x a k y i j st e1 k0. c.if-magnitude_at-ne3.true (c.magnitude_at.ensures ∙ at-floordiv c.args.w.now c.args.p β e x a k y st))

pub returns-then-word-ne1 : goal.returns-then-word-ne1
returns-then-word-ne1 c =
    nest-not _ c.args.w.now _ _ _
    (λ β e x a k y i j st e1 k0. c.if-word-ne1.true (ap (of_z w64) (c.word.ensures ∙ at-coefficient c.args.w.now c.args.p β e x a k y st _ c.skip_atom-q.ensures ∙ e1)))

pub returns-then-word-ne0 : goal.returns-then-word-ne0
returns-then-word-ne0 c =
    nest-not _ c.args.w.now _ _ _
    (λ β e x a k y i j st e1 k0. c.if-word-ne0.true (ap (of_z w64) (c.word-2.ensures ∙ at_constant c.args.w.now c.args.p β e x a k y st _ _ c.skip_atom-q.ensures c.forward-b.ensures ∙ k0)))

pub returns : goal.returns
returns c =
    let w1 : to_z w64 (of_z w64 c.word.result) ≡ c.word.result = search rules in
    let w2 : to_z w64 (of_z w64 c.word-2.result) ≡ c.word-2.result = search rules in
    let w3 : to_z w64 (of_z w64 c.word-3.result) ≡ c.word-3.result = search rules in
    let m : to_z w64 (of_z w64 c.times.result) ≡ c.times.result = search rules in
    let r : to_z w64 (of_z w64 c.kept_divisor.result) ≡ c.kept_divisor.result = search rules in
    let e1 = rw (w3, c.word-3.ensures, to_z-of_z c.ranges.c) at c.times.ensures in
    let e2 = rw (m, e1) at c.kept_divisor.ensures in
    let e3 = e2 ∙ ap (λ (z : ℤ). kept_divisor (saturate (get_or c.args.w.now c.forward-d.result (pos 0) *ℤ z))) (above-0 c.args.c c.requires.1) in
    rw r
    (nest-is _ c.args.w.now _ _ _ _ _ _ _ (abs-above-0 _ c.requires.1) c.skip_atom-q.ensures c.forward-b.ensures c.forward-d.ensures c.if-op-ne3.false c.if-n-ne1.false
    (sym c.magnitude_at.ensures ∙ c.if-magnitude_at-ne3.false) (sym c.word.ensures ∙ sym w1 ∙ ap (to_z w64) c.if-word-ne1.false)
    (sym c.word-2.ensures ∙ sym w2 ∙ ap (to_z w64) c.if-word-ne0.false) e3)
