-- `integer::floor_mod` meets its contract. Assumes nothing.
use mathlib.Core.Path.{◌∙◌, subst⁻¹}
use mir.Syntax.{w64}
use mir.Val.{SFits}
use mir.Facts.{to_z-of_z}
use Rattle.integer.proofs.Division.{can-divide, floor-mod-fits, mod_below, mod-above}
use Rattle.integer.proofs.floor_mod.Goals as goal

pub nonzero_rem-r : goal.nonzero_rem-r
nonzero_rem-r c = can-divide c.ranges.a c.ranges.divisor c.requires

pub overflow_add-result : goal.overflow_add-result
overflow_add-result c =
    subst⁻¹ (SFits w64) (mod_below c.ranges.a c.ranges.divisor c.requires c.if-r-lt0.true)
    (floor-mod-fits c.ranges.a c.ranges.divisor c.requires)

pub returns-then-r-lt0 : goal.returns-then-r-lt0
returns-then-r-lt0 c =
    to_z-of_z
    (subst⁻¹ (SFits w64) (mod_below c.ranges.a c.ranges.divisor c.requires c.if-r-lt0.true)
    (floor-mod-fits c.ranges.a c.ranges.divisor c.requires))
    ∙ mod_below c.ranges.a c.ranges.divisor c.requires c.if-r-lt0.true

pub returns-else-r-lt0 : goal.returns-else-r-lt0
returns-else-r-lt0 c = mod-above c.ranges.a c.ranges.divisor c.requires c.if-r-lt0.false
