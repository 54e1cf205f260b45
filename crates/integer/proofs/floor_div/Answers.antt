-- `integer::floor_div` meets its contract. Assumes nothing.
use mathlib.Core.Path.{◌∙◌, subst⁻¹}
use mir.Syntax.{w64}
use mir.Val.{SFits}
use mir.Facts.{to_z-of_z}
use Rattle.integer.proofs.Division.{can-divide, floor-div-fits, div_below, div-above}
use Rattle.integer.proofs.floor_div.Goals as goal

pub nonzero_div-q : goal.nonzero_div-q
nonzero_div-q c = can-divide c.ranges.a c.ranges.divisor c.requires

pub nonzero_rem-r : goal.nonzero_rem-r
nonzero_rem-r c = can-divide c.ranges.a c.ranges.divisor c.requires

pub overflow_sub-result : goal.overflow_sub-result
overflow_sub-result c =
    subst⁻¹ (SFits w64) (div_below c.ranges.a c.ranges.divisor c.requires c.if-r-lt0.true)
    (floor-div-fits c.ranges.a c.ranges.divisor c.requires)

pub returns-then-r-lt0 : goal.returns-then-r-lt0
returns-then-r-lt0 c =
    to_z-of_z
    (subst⁻¹ (SFits w64) (div_below c.ranges.a c.ranges.divisor c.requires c.if-r-lt0.true)
    (floor-div-fits c.ranges.a c.ranges.divisor c.requires))
    ∙ div_below c.ranges.a c.ranges.divisor c.requires c.if-r-lt0.true

pub returns-else-r-lt0 : goal.returns-else-r-lt0
returns-else-r-lt0 c = div-above c.ranges.a c.ranges.divisor c.requires c.if-r-lt0.false
