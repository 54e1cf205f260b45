-- The reckoned range of each kind of node, in the numbers that the code works out. Assumes nothing.
use Rattle.std.specs.Prelude.{Option, Some, None}
use Rattle.std.specs.Option.{option_zip}
use mathlib.Core.Path.{◌≡◌, refl, ap}
use mathlib.Core.Bool.{Bool, true, false, cond, ◌&&◌}
use Prim.Native.Nat.{ℕ, suc, ◌-◌, ◌/◌, ◌%◌, ◌<◌, ◌≤◌}
use native.Mathlib.Nat.{mod-lt, div-le_self}
use native.Mathlib.Omega.{arith}
use borrow.Author.Tests.{le-leb, eq-eqb, ne_eqb, ltb-true}
use lib.IntN.{ℤ, pos, negsuc, nat_abs, ◌*ℤ◌}
use lib.Signed.{lt_z}
use Rattle.integer.specs.Floor.{floor_div, floor_mod}
use Rattle.integer.specs.Exact.{limit, exactly}
use Rattle.expression.specs.Expression.{floordiv, modulo, span, eqℤ, mul_range, op_range, is_small}
use Rattle.expression.specs.Node.{max_divisor}
use Rattle.expression.specs.Reckon.{reckon}

-- a range that is kept, by its ends
abbrev pub kept : ℤ → ℤ → Option (ℤ × ℤ)
kept a b = Some (a, b)

kept-both : (p q : Bool) (a b : ℤ) → option_zip (cond p (Some a) None) (cond q (Some b) None) ≡ cond (p && q) (kept a b) None
kept-both true true a b = refl
kept-both true false a b = refl
kept-both false q a b = refl

pub both-exact : (a b : ℤ) → option_zip (exactly a) (exactly b) ≡ reckon (span a b)
unfolding exactly reckon
both-exact a b = kept-both (is_small a) (is_small b) a b

pub small-floor : (z : ℤ) (c : ℕ) → nat_abs z ≤ limit → is_small (floor_div z c) ≡ true
small-floor (pos a) c h = le-leb (a / c) limit (omega (arith, div-le_self a c))
small-floor (negsuc a) c h = le-leb (suc (a / c)) limit (omega (arith, div-le_self a c))

pub small-mod : (z : ℤ) (c : ℕ) → 0 < c → c ≤ max_divisor → is_small (floor_mod z c) ≡ true
small-mod (pos a) c h k = le-leb (a % c) limit (omega (arith, mod-lt a h))
small-mod (negsuc a) c h k = le-leb (c - suc (a % c)) limit (omega arith)

-- a range that is kept
pub keeps : (a b : ℤ) → is_small a ≡ true → is_small b ≡ true → kept a b ≡ reckon (span a b)
unfolding reckon
keeps a b p q = rw (p, q)

eqℤ-same : (a b : ℤ) → a ≡ b → eqℤ a b ≡ true
unfolding eqℤ
eqℤ-same (pos a) (pos b) e = eq-eqb a b (ap nat_abs e)
eqℤ-same (pos a) (negsuc b) e = let z : ◌≡◌ {A = ℕ} 0 1 = cc in absurd (omega arith)
eqℤ-same (negsuc a) (pos b) e = let z : ◌≡◌ {A = ℕ} 0 1 = cc in absurd (omega arith)
eqℤ-same (negsuc a) (negsuc b) e = let q = ap nat_abs e in eq-eqb a b (omega arith)

eqℤ-other : (a b : ℤ) → (a ≡ b → ⊥) → eqℤ a b ≡ false
unfolding eqℤ
eqℤ-other (pos a) (pos b) f = ne_eqb a b (λ e. f (ap pos e))
eqℤ-other (pos a) (negsuc b) f = refl
eqℤ-other (negsuc a) (pos b) f = refl
eqℤ-other (negsuc a) (negsuc b) f = ne_eqb a b (λ e. f (ap negsuc e))

module _ (lo hi : ℤ) (c : ℕ) where
  pub floor-range : nat_abs lo ≤ limit → nat_abs hi ≤ limit → kept (floor_div lo c) (floor_div hi c) ≡ reckon (op_range floordiv (span lo hi) c)
  unfolding op_range
  floor-range p q = (keeps (floor_div lo c) (floor_div hi c) (small-floor lo c p) (small-floor hi c q))

  pub mod_same : 0 < c → c ≤ max_divisor → floor_div lo c ≡ floor_div hi c → kept (floor_mod lo c) (floor_mod hi c) ≡ reckon (op_range modulo (span lo hi) c)
  unfolding op_range
  mod_same h k e = rw (eqℤ-same (floor_div lo c) (floor_div hi c) e) (keeps (floor_mod lo c) (floor_mod hi c) (small-mod lo c h k) (small-mod hi c h k))

  pub mod-other : c ≤ max_divisor → (floor_div lo c ≡ floor_div hi c → ⊥) → kept (pos 0) (pos (c - 1)) ≡ reckon (op_range modulo (span lo hi) c)
  unfolding op_range
  mod-other k f = rw (eqℤ-other (floor_div lo c) (floor_div hi c) f) (keeps (pos 0) (pos (c - 1)) refl (le-leb (c - 1) limit (omega arith)))

pub mul-neg : (z lo hi : ℤ) → lt_z z (pos 0) ≡ true → mul_range z (span lo hi) ≡ span (z *ℤ hi) (z *ℤ lo)
unfolding mul_range
mul-neg (pos n) lo hi t = absurd (omega (arith, ltb-true n 0 t))
mul-neg (negsuc n) lo hi t = refl

pub mul-pos : (z lo hi : ℤ) → lt_z z (pos 0) ≡ false → mul_range z (span lo hi) ≡ span (z *ℤ lo) (z *ℤ hi)
unfolding mul_range
mul-pos (pos n) lo hi t = refl
mul-pos (negsuc n) lo hi t = let z : ◌≡◌ {A = ℕ} 0 1 = cc in absurd (omega arith)
