-- `encoding::writing::place_of` meets its contract. Assumes nothing.
use mir.Syntax.{w64}
use mir.Facts.{to_z_pos}
use native.Mathlib.Omega.{arith}
use Rattle.encoding.proofs.Variables.{of-dim, of_range, of-runtime}
use Rattle.encoding.proofs.writing.place_of.Goals as goal

pub returns-in-0 : goal.returns-in-0
returns-in-0 c = of-dim _ _ _ c.if-n-lt-MAX_VARIABLES.true c.in-0.is (to_z_pos w64 (omega arith))

pub returns-in-1 : goal.returns-in-1
returns-in-1 c = of_range _ _ _ c.if-n-lt-MAX_VARIABLES.true c.in-1.is (to_z_pos w64 (omega arith))

pub returns-in_default : goal.returns-in_default
returns-in_default c = of-runtime _ _ (λ e. omega arith) (λ e. omega arith)
