-- The theorems on the table of refusals. Assumes nothing.
use Prim.Native.Nat.{◌<◌}
use native.Mathlib.Omega.{arith}
use Rattle.refusal.specs.Number.{number_of}
use Rattle.refusal.specs.declared.Refusal.{Refusal}
use Rattle.refusal.specs.declared.Refusal.TheVariants.{ShapeLimits, Attribute, Repeat, LayoutRule, RepeatedLayout, PaddedSize, Outside, WrongLength, CountLimit, WorkingLimit, ShortBuffer, NoPlan, NoLayout}

-- No refusal has the number of a call that is done.
pub number-positive : (r : Refusal) → 0 < number_of r
number-positive ShapeLimits = omega arith
number-positive Attribute = omega arith
number-positive (Repeat e l) = omega arith
number-positive LayoutRule = omega arith
number-positive (RepeatedLayout s e l) = omega arith
number-positive PaddedSize = omega arith
number-positive Outside = omega arith
number-positive WrongLength = omega arith
number-positive CountLimit = omega arith
number-positive WorkingLimit = omega arith
number-positive ShortBuffer = omega arith
number-positive NoPlan = omega arith
number-positive NoLayout = omega arith
