-- What the tests of a node's value say. Assumes nothing.
use mathlib.Core.Path.{◌≡◌, refl, sym, ap}
use mathlib.Core.Bool.{true, false}
use Prim.Native.Nat.{ℕ, suc, ◌-◌, ◌≤◌}
use native.Mathlib.Omega.{arith}
use lib.Dec.{leb, T}
use lib.IntN.{ℤ, pos, negsuc, nat_abs, neg_ℤ}
use lib.Signed.{lt_z, le_z, ◌<ℤ◌, non_neg}
use borrow.Author.Tests.{ltb-true, ltb-false, le-leb, lt-leb, lt-ltb, le-ltb}
use mir.Syntax.{w64}
use mir.Val.{SFits, Fits}
use lib.IntN.{◌-ℤ◌}
use Rattle.integer.proofs.Linear.{dn, same, diff-parts, abs-parts, fits_by, lt-true, lt-false}
use Rattle.integer.proofs.Trunc.{above-0, abs-above-0}
use Rattle.integer.specs.Exact.{limit}
use Rattle.expression.specs.Node.{max_divisor, is_divisor, place_node, variable_node}
use Rattle.expression.specs.declared.Node.TheVariants as N

no : {X : Type 0} → false ≡ true → X
no e = let z : ◌≡◌ {A = ℕ} 0 1 = cc in absurd (omega arith)

pub small-fits : (x : ℤ) → nat_abs x ≤ limit → SFits w64 x
small-fits x h = fits_by x (omega (arith, abs-parts x))

pub pos-non_neg : (z : ℤ) → lt_z z (pos 0) ≡ false → T (non_neg z)
pos-non_neg (pos v) t = tt
pos-non_neg (negsuc v) t = no (sym t)

pub small_low : (z : ℤ) → lt_z z (neg_ℤ (pos limit)) ≡ true → false ≡ leb (nat_abs z) limit
small_low z t = sym (lt-leb (nat_abs z) limit (omega (arith, lt-true z (neg_ℤ (pos limit)) t, abs-parts z)))

pub small-high : (z : ℤ) → lt_z z (neg_ℤ (pos limit)) ≡ false → le_z z (pos limit) ≡ leb (nat_abs z) limit
small-high (pos v) t = refl
small-high (negsuc v) t = sym (le-leb (suc v) limit (omega (arith, lt-false (negsuc v) (neg_ℤ (pos limit)) t)))

pub divisor-low : (z : ℤ) → lt_z z (pos 1) ≡ true → false ≡ is_divisor z
divisor-low (pos v) t = let h = ltb-true v 1 t in rw (le-ltb 0 v (omega arith))
divisor-low (negsuc v) t = refl

pub divisor-high : (z : ℤ) → lt_z z (pos 1) ≡ false → le_z z (pos max_divisor) ≡ is_divisor z
divisor-high (pos v) t = let h = ltb-false v 1 t in rw (lt-ltb 0 v (omega arith))
divisor-high (negsuc v) t = no (sym t)

pub abs-fits : (z : ℤ) → SFits w64 z → Fits w64 (nat_abs z)
abs-fits (pos n) f = record { fits = omega (arith, f.sfits) }
abs-fits (negsuc n) f = record { fits = omega (arith, f.sfits) }

pub pred-is : (c : ℤ) → pos 0 <ℤ c → c -ℤ pos 1 ≡ pos (nat_abs c - 1)
pred-is c h = let e = above-0 c h in let k = abs-above-0 c h in same _ _ (omega (arith, diff-parts c (pos 1), abs-parts c, ap dn e))

-- a variable's place
pub variable-neg : (dims ranges : ℕ) (z : ℤ) → lt_z z (pos 0) ≡ true → N.Bad ≡ variable_node dims ranges z
variable-neg dims ranges (pos p) t = absurd (omega (arith, ltb-true p 0 t))
variable-neg dims ranges (negsuc p) t = refl

pub variable-pos : (dims ranges : ℕ) (z : ℤ) → lt_z z (pos 0) ≡ false → variable_node dims ranges z ≡ place_node dims ranges (nat_abs z)
variable-pos dims ranges (pos p) t = refl
variable-pos dims ranges (negsuc p) t = no (sym t)
