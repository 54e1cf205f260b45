-- Linear arithmetic on ℤ by `omega`: a number z is `up z` less `dn z`, one of which is 0. Assumes nothing.
use mathlib.Core.Path.{◌≡◌, refl, ap, ◌∙◌}
use mathlib.Core.Bool.{true, false}
use Prim.Native.Nat.{ℕ, zero, suc, ◌+◌, ◌*◌, ◌<◌, ◌≤◌, ◌^◌}
use native.Mathlib.Decide.{dec_lt}
use native.Mathlib.Omega.{arith}
use lib.IntN.{ℤ, pos, negsuc, neg_ℤ, nat_abs, sub_ℕ, ◌+ℤ◌, ◌-ℤ◌, ◌*ℤ◌}
use lib.Signed.{lt_z, ◌<ℤ◌, ◌≤ℤ◌}
use lib.Dec.{leb→le, le→leb, ltb→lt, lt→ltb}
use borrow.Author.Tests.{ltb-true, ltb-false, lt-ltb, le-ltb}
use mir.Syntax.{w64}
use mir.Val.{SFits, to_z, of_z}

abbrev pub up : ℤ → ℕ
up (pos n) = n
up (negsuc n) = 0

abbrev pub dn : ℤ → ℕ
dn (pos n) = 0
dn (negsuc n) = suc n

-- two numbers are equal by their parts
pub same : (a b : ℤ) → up a + dn b ≡ up b + dn a → a ≡ b
same (pos m) (pos n) e = ap pos (omega arith)
same (pos m) (negsuc n) e = absurd (omega arith)
same (negsuc m) (pos n) e = absurd (omega arith)
same (negsuc m) (negsuc n) e = ap negsuc (omega arith)

-- ---- the parts of a sum, a difference, a magnitude and a product

sub-parts-by : (a b : ℕ) → Dec (a < b) → up (sub_ℕ a b) + b ≡ dn (sub_ℕ a b) + a
sub-parts-by a b (yes h) = rw (lt-ltb a b h) (omega arith)
sub-parts-by a b (no f) = let h : b ≤ a = omega arith in rw (le-ltb a b h) (omega arith)

pub sub_parts : (a b : ℕ) → up (sub_ℕ a b) + b ≡ dn (sub_ℕ a b) + a
sub_parts a b = sub-parts-by a b (dec_lt a b)

pub add_parts : (a b : ℤ) → up (a +ℤ b) + (dn a + dn b) ≡ dn (a +ℤ b) + (up a + up b)
add_parts (pos m) (pos n) = omega arith
add_parts (pos m) (negsuc n) = omega (arith, sub_parts m (suc n))
add_parts (negsuc m) (pos n) = omega (arith, sub_parts n (suc m))
add_parts (negsuc m) (negsuc n) = omega arith

pub up_neg : (a : ℤ) → up (neg_ℤ a) ≡ dn a
up_neg (pos zero) = refl
up_neg (pos (suc n)) = refl
up_neg (negsuc n) = refl

pub dn-neg : (a : ℤ) → dn (neg_ℤ a) ≡ up a
dn-neg (pos zero) = refl
dn-neg (pos (suc n)) = refl
dn-neg (negsuc n) = refl

pub diff-parts : (a b : ℤ) → up (a -ℤ b) + (dn a + up b) ≡ dn (a -ℤ b) + (up a + dn b)
diff-parts a b = omega (arith, add_parts a (neg_ℤ b), up_neg b, dn-neg b)

pub abs-parts : (a : ℤ) → nat_abs a ≡ up a + dn a
abs-parts (pos n) = omega arith
abs-parts (negsuc n) = omega arith

pub abs-le : (a : ℤ) (l : ℕ) → (up a ≤ dn a + l) × (dn a ≤ up a + l) → nat_abs a ≤ l
abs-le (pos n) l h = omega arith
abs-le (negsuc n) l h = omega arith

pub up-mul : (a b : ℤ) → up (a *ℤ b) ≡ up a * up b + dn a * dn b
up-mul (pos m) (pos n) = omega arith
up-mul (pos m) (negsuc n) = up_neg (pos (m * suc n)) ∙ omega arith
up-mul (negsuc m) (pos n) = up_neg (pos (suc m * n)) ∙ omega arith
up-mul (negsuc m) (negsuc n) = omega arith

pub dn-mul : (a b : ℤ) → dn (a *ℤ b) ≡ up a * dn b + dn a * up b
dn-mul (pos m) (pos n) = omega arith
dn-mul (pos m) (negsuc n) = dn-neg (pos (m * suc n)) ∙ omega arith
dn-mul (negsuc m) (pos n) = dn-neg (pos (suc m * n)) ∙ omega arith
dn-mul (negsuc m) (negsuc n) = omega arith

-- ---- the order, as a test and as a fact

pub lt-true : (a b : ℤ) → lt_z a b ≡ true → up a + dn b < up b + dn a
lt-true (pos m) (pos n) t = omega (arith, ltb-true m n t)
lt-true (pos m) (negsuc n) t = let z : ◌≡◌ {A = ℕ} 0 1 = cc in absurd (omega arith)
lt-true (negsuc m) (pos n) t = omega arith
lt-true (negsuc m) (negsuc n) t = omega (arith, ltb-true n m t)

pub lt-false : (a b : ℤ) → lt_z a b ≡ false → up b + dn a ≤ up a + dn b
lt-false (pos m) (pos n) t = omega (arith, ltb-false m n t)
lt-false (pos m) (negsuc n) t = omega arith
lt-false (negsuc m) (pos n) t = let z : ◌≡◌ {A = ℕ} 0 1 = cc in absurd (omega arith)
lt-false (negsuc m) (negsuc n) t = omega (arith, ltb-false n m t)

pub ≤-parts : (a b : ℤ) → a ≤ℤ b → up a + dn b ≤ up b + dn a
≤-parts (pos m) (pos n) h = omega (arith, leb→le m n h.le)
≤-parts (pos m) (negsuc n) h = absurd h.le
≤-parts (negsuc m) (pos n) h = omega arith
≤-parts (negsuc m) (negsuc n) h = omega (arith, leb→le n m h.le)

pub parts-≤ : (a b : ℤ) → up a + dn b ≤ up b + dn a → a ≤ℤ b
parts-≤ (pos m) (pos n) h = record { le = le→leb m n (omega arith) }
parts-≤ (pos m) (negsuc n) h = absurd (omega arith)
parts-≤ (negsuc m) (pos n) h = record { le = tt }
parts-≤ (negsuc m) (negsuc n) h = record { le = le→leb n m (omega arith) }

pub <-parts : (a b : ℤ) → a <ℤ b → up a + dn b < up b + dn a
<-parts (pos m) (pos n) h = omega (arith, ltb→lt m n h.lt)
<-parts (pos m) (negsuc n) h = absurd h.lt
<-parts (negsuc m) (pos n) h = omega arith
<-parts (negsuc m) (negsuc n) h = omega (arith, ltb→lt n m h.lt)

pub parts-< : (a b : ℤ) → up a + dn b < up b + dn a → a <ℤ b
parts-< (pos m) (pos n) h = record { lt = lt→ltb m n (omega arith) }
parts-< (pos m) (negsuc n) h = absurd (omega arith)
parts-< (negsuc m) (pos n) h = record { lt = tt }
parts-< (negsuc m) (negsuc n) h = record { lt = lt→ltb n m (omega arith) }

-- of the two parts one is 0
pub neg-up : (a : ℤ) → lt_z a (pos 0) ≡ true → up a ≡ 0
neg-up (pos n) t = absurd (omega (arith, ltb-true n 0 t))
neg-up (negsuc n) t = refl

pub pos-dn : (a : ℤ) → lt_z a (pos 0) ≡ false → dn a ≡ 0
pos-dn (pos n) t = refl
pos-dn (negsuc n) t = let z : ◌≡◌ {A = ℕ} 0 1 = cc in absurd (omega arith)

-- ---- what fits an i64

-- z, read back from its bits
abbrev pub held : ℤ → ℤ
held z = to_z w64 (of_z w64 z)

pub fits_by : (a : ℤ) → (up a < dn a + 2 ^ 63) × (dn a ≤ up a + 2 ^ 63) → SFits w64 a
fits_by (pos n) h = record { sfits = omega arith }
fits_by (negsuc n) h = record { sfits = omega arith }

pub parts-fit : (a : ℤ) → SFits w64 a → (up a < 2 ^ 63) × (dn a ≤ 2 ^ 63)
parts-fit (pos n) f = omega (arith, f.sfits)
parts-fit (negsuc n) f = omega (arith, f.sfits)

-- `omega lin`: tests and facts of order on ℤ are read too
pub ruleset lin = (arith, lt-true, lt-false, ≤-parts, <-parts)
