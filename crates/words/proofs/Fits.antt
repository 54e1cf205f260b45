-- What fits, by its parts. Assumes nothing.
use Prim.Native.Nat.{◌<◌, ◌≤◌, ◌^◌}
use native.Mathlib.Omega.{arith}
use lib.IntN.{ℤ, pos, negsuc, nat_abs}
use mir.Syntax.{w64}
use mir.Val.{SFits}
use Rattle.integer.proofs.Linear.{up, dn}

pub parts-fit : (a : ℤ) → SFits w64 a → (up a < 2 ^ 63) × (dn a ≤ 2 ^ 63)
parts-fit (pos n) h = (omega (arith, h.sfits), omega arith)
parts-fit (negsuc n) h = (omega arith, omega (arith, h.sfits))

pub abs-fit : (a : ℤ) → SFits w64 a → nat_abs a ≤ 9223372036854775808
abs-fit (pos n) h = omega (arith, h.sfits)
abs-fit (negsuc n) h = omega (arith, h.sfits)
