-- `rules::rewriting::apply_rules` meets its contract. Assumes nothing.
use Rattle.std.proofs.Common.{◌≡◌, ◌∙◌, refl, rules, w64, to_z, of_z}
use mir.Facts.{to_z-of_z}
use Rattle.rules.proofs.Whole.{rewrites-large, rewrites-passed, rewrites-sum, rewrites-refused, rewrites-again, counted-down, with-fuel, above_zero}
use Rattle.rules.proofs.rewriting.+apply_rules.Goals as goal

pub returns-then-not-is_small_sum : goal.returns-then-not-is_small_sum
returns-then-not-is_small_sum t c =
    with-fuel (counted-down _ c.if-fuel-eq0.false) (rewrites-large _ _ _ _ _ _ c.requires.0 _ c.if-not-is_small_sum.ensures)

pub returns-in-Passed : goal.returns-in-Passed
returns-in-Passed t c =
    with-fuel (counted-down _ c.if-fuel-eq0.false)
    (rewrites-passed _ _ _ _ _ _ c.requires.0 _ _ _ refl c.if-not-is_small_sum.ensures (rw (to_z-of_z c.ranges.c) at c.in-Passed.ensures))

pub returns-in-Sum : goal.returns-in-Sum
returns-in-Sum t c =
    with-fuel (counted-down _ c.if-fuel-eq0.false)
    (rewrites-sum _ _ _ _ _ _ _ _ _ _ _ _ _ _ c.requires.6 c.if-not-is_small_sum.ensures (rw (to_z-of_z c.ranges.c) at c.in-Sum.ensures) c.settle.ensures)

pub returns-then-not-small : goal.returns-then-not-small
returns-then-not-small t c =
    let e = rw (to_z-of_z c.ranges.c) at c.in-Again.ensures in
    let d : to_z w64 (of_z w64 c.in-Again.g.divisor) ≡ c.in-Again.g.divisor = search rules in
    let R = rw (d, c.if-not-small.true) at c.apply_rules-r.ensures in
    with-fuel (counted-down _ c.if-fuel-eq0.false)
    (rewrites-refused _ _ _ _ _ _ _ _ _ _ _ _ _ _ c.requires.0 (above_zero _ c.requires.3) c.if-not-is_small_sum.ensures e c.hold_both-a.ensures R)

pub returns-in-Again : goal.returns-in-Again
returns-in-Again t c =
    let e = rw (to_z-of_z c.ranges.c) at c.in-Again.ensures in
    let d : to_z w64 (of_z w64 c.in-Again.g.divisor) ≡ c.in-Again.g.divisor = search rules in
    let k : to_z w64 (of_z w64 c.in-Again.g.factor) ≡ c.in-Again.g.factor = search rules in
    let R = rw (d, c.if-not-small.false) at c.apply_rules-r.ensures in
    with-fuel (counted-down _ c.if-fuel-eq0.false)
    (rewrites-again _ _ _ _ _ _ _ _ _ _ _ _ _ _ c.requires.0 (above_zero _ c.requires.3) c.if-not-is_small_sum.ensures e c.hold_both-a.ensures R c.requires.6 _ _
    (c.apply_rules-r.auto.scratch ∙ c.apply_rule.auto.out) _ _ _ (rw k at c.join.ensures))
