-- `rules::applying::next_divisor` meets its contract. Assumes nothing.
use Rattle.std.proofs.Common.{◌≡◌, ◌∙◌, sym, ap, subst, rules, ℕ, w64, to_z, of_z}
use Rattle.integer.specs.Gcd.{gcd_of}
use Rattle.rules.specs.Rules.{larger_below, Nexts}
use Rattle.rules.proofs.Terms.{next-none, next_more}
use Rattle.rules.proofs.applying.+next_divisor.Goals as goal

pub returns-then-n-eq0 : goal.returns-then-n-eq0
returns-then-n-eq0 t c = next-none c.args.w.now _ _ _ _ c.if-n-eq0.true

pub returns : goal.returns
returns t c =
    let v : to_z w64 (of_z w64 c.word.result) ≡ c.word.result = search rules in
    let e1 = rw (v, c.word.ensures) at c.magnitude.ensures in
    let e2 = c.gcd-g.ensures ∙ ap (gcd_of c.args.c) e1 in
    let e3 = c.larger_below.ensures ∙ ap (λ (x : ℕ). larger_below c.args.below x c.next_divisor-r.result) e2 in
    subst (λ (x : ℕ). Nexts c.args.w.now c.args.p c.args.n c.args.c c.args.below x) (sym e3)
    (next_more c.args.w.now _ _ _ _ _ _ _ c.if-n-eq0.false c.skip_atom-q.ensures c.forward-b.ensures c.next_divisor-r.ensures)
