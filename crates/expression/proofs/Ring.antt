-- Laws of ℤ: the ring laws as one set of rules, and floor division by a quotient and a remainder. Assumes nothing.
use mathlib.Core.Path.{◌≡◌, refl, sym, ap, ◌∙◌}
use Prim.Native.Nat.{ℕ, zero, suc, ◌*◌, ◌<◌, ◌-◌, ◌≤◌}
use native.Mathlib.Nat.{mod-lt}
use native.Mathlib.Omega.{arith}
use lib.IntN.{ℤ, pos, negsuc, neg_ℤ, sub_ℕ, nat_abs, ◌+ℤ◌, ◌*ℤ◌, +ℤ_assoc, +ℤ_comm, +ℤ_idl, +ℤ_idr, +ℤ_invl, +ℤ_invr, *ℤ_comm, zero-*ℤ, neg_ℤ-+ℤ, neg_ℤ-neg_ℤ}
use Rattle.integer.specs.Floor.{floor_div, floor_mod}
use Rattle.integer.proofs.Laws.{*ℤ-distribl, *ℤ-assoc, div-mod, div-unique, mod-unique}
use mathlib.Core.Bool.{Bool, true, false, cond, not}
use lib.Dec.{T, ltb, lt→ltb}
use lib.Arith.{le→nltb}

-- (a + b) + (c + e) regrouped
pub swap4 : (a b c e : ℤ) → (a +ℤ b) +ℤ (c +ℤ e) ≡ (a +ℤ c) +ℤ (b +ℤ e)
swap4 a b c e =
    +ℤ_assoc a b (c +ℤ e)
    ∙ ap (λ x. a +ℤ x) (sym (+ℤ_assoc b c e) ∙ ap (λ x. x +ℤ e) (+ℤ_comm b c) ∙ +ℤ_assoc c b e)
    ∙ sym (+ℤ_assoc a c (b +ℤ e))

pub *ℤ-distribr : (a b k : ℤ) → (a +ℤ b) *ℤ k ≡ a *ℤ k +ℤ b *ℤ k
*ℤ-distribr a b k =
    *ℤ_comm (a +ℤ b) k
    ∙ *ℤ-distribl k a b
    ∙ ap (λ x. x +ℤ k *ℤ b) (*ℤ_comm k a)
    ∙ ap (λ x. a *ℤ k +ℤ x) (*ℤ_comm k b)

pub negℤ-*ℤ : (a b : ℤ) → neg_ℤ a *ℤ b ≡ neg_ℤ (a *ℤ b)
negℤ-*ℤ (pos zero) b = zero-*ℤ b ∙ ap neg_ℤ (sym (zero-*ℤ b))
negℤ-*ℤ (pos (suc n)) (pos m) = refl
negℤ-*ℤ (pos (suc n)) (negsuc m) = sym (neg_ℤ-neg_ℤ (pos (suc n * suc m)))
negℤ-*ℤ (negsuc n) (pos m) = sym (neg_ℤ-neg_ℤ (pos (suc n * m)))
negℤ-*ℤ (negsuc n) (negsuc m) = refl

pub +ℤ-left : (a b c : ℤ) → a +ℤ (b +ℤ c) ≡ b +ℤ (a +ℤ c)
+ℤ-left a b c = sym (+ℤ_assoc a b c) ∙ ap (λ x. x +ℤ c) (+ℤ_comm a b) ∙ +ℤ_assoc b a c

pub *ℤ-left : (a b c : ℤ) → a *ℤ (b *ℤ c) ≡ b *ℤ (a *ℤ c)
*ℤ-left a b c = sym (*ℤ-assoc a b c) ∙ ap (λ x. x *ℤ c) (*ℤ_comm a b) ∙ *ℤ-assoc b a c

pub *ℤ-negℤ : (a b : ℤ) → a *ℤ neg_ℤ b ≡ neg_ℤ (a *ℤ b)
*ℤ-negℤ a b = *ℤ_comm a (neg_ℤ b) ∙ negℤ-*ℤ b a ∙ ap neg_ℤ (*ℤ_comm b a)

pub cancel-mid : (a b : ℤ) → a +ℤ (neg_ℤ a +ℤ b) ≡ b
cancel-mid a b = sym (+ℤ_assoc a (neg_ℤ a) b) ∙ ap (λ x. x +ℤ b) (+ℤ_invr a) ∙ +ℤ_idl b

pub cancel-mid' : (a b : ℤ) → neg_ℤ a +ℤ (a +ℤ b) ≡ b
cancel-mid' a b = sym (+ℤ_assoc (neg_ℤ a) a b) ∙ ap (λ x. x +ℤ b) (+ℤ_invl a) ∙ +ℤ_idl b

T_true : (b : Bool) → T b → b ≡ true
T_true true t = refl
T_true false t = absurd t

T_false : (b : Bool) → T (not b) → b ≡ false
T_false true t = absurd t
T_false false t = refl

subℕ-lt : (a b : ℕ) → a < b → sub_ℕ a b ≡ negsuc (b - suc a)
subℕ-lt a b h = ap (λ x. cond x (negsuc (b - suc a)) (pos (a - b))) (T_true (ltb a b) (lt→ltb a b h))

pub subℕ-ge : (a b : ℕ) → b ≤ a → sub_ℕ a b ≡ pos (a - b)
subℕ-ge a b h = ap (λ x. cond x (negsuc (b - suc a)) (pos (a - b))) (T_false (ltb a b) (le→nltb a b h))

-- −(suc n) + r, for r ≤ n
pub neg-plus : (n r : ℕ) → r ≤ n → negsuc n +ℤ pos r ≡ negsuc (n - r)
neg-plus n r h = subℕ-lt r (suc n) (omega arith) ∙ ap negsuc (omega arith)

-- `simp ringℤ`: both sides of an equation between sums of products are brought to one form
pub ruleset ringℤ = (*ℤ-distribr, *ℤ-distribl, +ℤ_assoc, +ℤ_comm, +ℤ-left, *ℤ-assoc, *ℤ_comm, *ℤ-left, negℤ-*ℤ, *ℤ-negℤ, neg_ℤ-+ℤ, neg_ℤ-neg_ℤ, cancel-mid, cancel-mid', +ℤ_invr, +ℤ_invl, +ℤ_idl, +ℤ_idr)

-- ---- a difference of natural numbers

-- ---- floor division by a quotient and a remainder

pub floor-of : (c : ℕ) (q : ℤ) (r : ℕ) → r < c → floor_div (pos c *ℤ q +ℤ pos r) c ≡ q
floor-of c q r h = div-unique (pos c *ℤ q +ℤ pos r) q c r h refl

pub mod-of : (c : ℕ) (q : ℤ) (r : ℕ) → r < c → floor_mod (pos c *ℤ q +ℤ pos r) c ≡ pos r
mod-of c q r h = mod-unique (pos c *ℤ q +ℤ pos r) q c r h refl

-- the remainder as a natural number
unfoldable pub rem : ℤ → ℕ → ℕ
rem z c = nat_abs (floor_mod z c)

pub rem_lt : (z : ℤ) (c : ℕ) → 0 < c → rem z c < c
unfolding rem
rem_lt (pos a) c h = mod-lt a h
rem_lt (negsuc a) c h = omega arith

pub rem_is : (z : ℤ) (c : ℕ) → floor_mod z c ≡ pos (rem z c)
unfolding rem
rem_is (pos a) c = refl
rem_is (negsuc a) c = refl

pub split : (z : ℤ) (c : ℕ) → 0 < c → z ≡ pos c *ℤ floor_div z c +ℤ pos (rem z c)
split z c h = sym (div-mod z c h) ∙ ap (λ x. pos c *ℤ floor_div z c +ℤ x) (rem_is z c)
