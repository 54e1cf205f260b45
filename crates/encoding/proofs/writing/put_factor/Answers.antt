-- `encoding::writing::put_factor` meets its contract. Assumes nothing.
use mathlib.Core.Path.{sym, ap, ◌∙◌}
use mir.Syntax.{w64}
use mir.Val.{to_z, of_z}
use mir.Facts.{to_z-of_z}
use Rattle.expression.specs.declared.Node.TheVariants as N
use Rattle.expression.specs.declared.One.TheVariants.{Product}
use Rattle.encoding.proofs.Stored.{nothing, one, factor-one, factor-other}
use Rattle.encoding.proofs.writing.put_factor.Goals as goal

pub returns-then-factor-eq1 : goal.returns-then-factor-eq1
returns-then-factor-eq1 c =
    let e = sym (to_z-of_z c.ranges.factor) ∙ ap (to_z w64) c.if-factor-eq1.true in
    rw (factor-one c.args.factor e) (nothing _ _ _ c.requires.most)

pub returns-else-factor-eq1 : goal.returns-else-factor-eq1
returns-else-factor-eq1 c =
    let z = to_z-of_z c.ranges.factor in
    rw (factor-other c.args.factor (λ e. c.if-factor-eq1.false (ap (of_z w64) e)))
    (one (N.One (Product c.args.factor)) (rw z at c.put_node.ensures))
