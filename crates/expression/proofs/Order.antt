-- The order of ℤ by a witness, and that it goes through the operations. Assumes nothing.
use mathlib.Core.Path.{◌≡◌, sym, ap, ◌∙◌, subst}
use Prim.Native.Nat.{ℕ, suc, ◌+◌, ◌*◌, ◌-◌, ◌/◌, ◌%◌, ◌<◌, ◌≤◌}
use native.Mathlib.Omega.{arith}
use native.Mathlib.Nat as NatL
use lib.IntN.{ℤ, pos, negsuc, neg_ℤ, nat_abs, ◌+ℤ◌, ◌*ℤ◌, +ℤ_assoc, +ℤ_idl, +ℤ_idr, +ℤ_invl}
use lib.Signed.{◌≤ℤ◌}
use Rattle.integer.proofs.Linear.{up, dn, same, add_parts, ≤-parts, parts-≤}
use Rattle.integer.specs.Floor.{floor_div, floor_mod}
use Rattle.integer.proofs.Laws.{*ℤ-distribl}
use Rattle.expression.proofs.Ring.{swap4, cancel-mid', floor-of, rem, rem_lt, rem_is, split}

-- a is at most b: b is a and a natural number more
pub record Le (a b : ℤ) : Type 0 where
  pub gap : ℕ
  pub is : a +ℤ pos gap ≡ b

pub Le-refl : (a : ℤ) → Le a a
Le-refl a = record { gap = 0; is = +ℤ_idr a }

pub Le-eq : {a b : ℤ} → a ≡ b → Le a b
Le-eq {a} e = record { gap = 0; is = +ℤ_idr a ∙ e }

pub Le-trans : {a b c : ℤ} → Le a b → Le b c → Le a c
Le-trans {a} h k = record { gap = h.gap + k.gap; is = sym (+ℤ_assoc a (pos h.gap) (pos k.gap)) ∙ ap (λ z. z +ℤ pos k.gap) h.is ∙ k.is }

pub cancel_left : (a x y : ℤ) → a +ℤ x ≡ a +ℤ y → x ≡ y
cancel_left a x y e = sym (cancel-mid' a x) ∙ ap (λ z. neg_ℤ a +ℤ z) e ∙ cancel-mid' a y

pub pos_inj : (m n : ℕ) → pos m ≡ pos n → m ≡ n
pos_inj m n e = ap nat_abs e

pub Le-anti : {a b : ℤ} → Le a b → Le b a → a ≡ b
unfolding Le-trans
Le-anti {a} {b} h k = sym (+ℤ_idr a) ∙ ap (λ (n : ℕ). a +ℤ pos n) none ∙ h.is
  where
    all : h.gap + k.gap ≡ 0
    all = pos_inj (h.gap + k.gap) 0 (cancel_left a (pos (h.gap + k.gap)) (pos 0) ((Le-trans h k).is ∙ sym (+ℤ_idr a)))

    none : 0 ≡ h.gap
    none = omega (arith, all)

pub Le-add : {a b c e : ℤ} → Le a b → Le c e → Le (a +ℤ c) (b +ℤ e)
Le-add {a} {b} {c} {e} h k = record { gap = h.gap + k.gap; is = swap4 a c (pos h.gap) (pos k.gap) ∙ ap (λ z. z +ℤ (c +ℤ pos k.gap)) h.is ∙ ap (λ z. b +ℤ z) k.is }

pub Le-mul : (n : ℕ) {a b : ℤ} → Le a b → Le (pos n *ℤ a) (pos n *ℤ b)
Le-mul n {a} {b} h = record { gap = n * h.gap; is = sym (*ℤ-distribl (pos n) a (pos h.gap)) ∙ ap (λ z. pos n *ℤ z) h.is }

pub Le-mul-neg : (n : ℕ) {a b : ℤ} → Le a b → Le (negsuc n *ℤ b) (negsuc n *ℤ a)
Le-mul-neg n {a} {b} h = record { gap = suc n * h.gap; is = ap (λ z. negsuc n *ℤ z +ℤ pos (suc n * h.gap)) (sym h.is) ∙ ap (λ z. z +ℤ pos (suc n * h.gap)) (*ℤ-distribl (negsuc n) a (pos h.gap)) ∙ +ℤ_assoc (negsuc n *ℤ a) (negsuc n *ℤ pos h.gap) (pos (suc n * h.gap)) ∙ ap (λ z. negsuc n *ℤ a +ℤ z) (+ℤ_invl (pos (suc n * h.gap))) ∙ +ℤ_idr (negsuc n *ℤ a) }

-- a + n, when a = c * f + r, is c * (f + (r + n) / c) + (r + n) % c
floor-up : (a : ℤ) (n c : ℕ) → 0 < c → a +ℤ pos n ≡ pos c *ℤ (floor_div a c +ℤ pos ((rem a c + n) / c)) +ℤ pos ((rem a c + n) % c)
floor-up a n c hc =
    ap (λ z. z +ℤ pos n) (split a c hc)
    ∙ +ℤ_assoc (pos c *ℤ floor_div a c) (pos (rem a c)) (pos n)
    ∙ ap (λ (m : ℕ). pos c *ℤ floor_div a c +ℤ pos m) (sym (NatL.div-add-mod (rem a c + n) c))
    ∙ sym (+ℤ_assoc (pos c *ℤ floor_div a c) (pos (c * ((rem a c + n) / c))) (pos ((rem a c + n) % c)))
    ∙ ap (λ z. z +ℤ pos ((rem a c + n) % c)) (sym (*ℤ-distribl (pos c) (floor_div a c) (pos ((rem a c + n) / c))))

pub Le-floor : (c : ℕ) {a b : ℤ} → 0 < c → Le a b → Le (floor_div a c) (floor_div b c)
Le-floor c {a} {b} hc h = record { gap = (rem a c + h.gap) / c; is = sym (ap (λ z. floor_div z c) (sym h.is ∙ floor-up a h.gap c hc) ∙ floor-of c (floor_div a c +ℤ pos ((rem a c + h.gap) / c)) ((rem a c + h.gap) % c) (NatL.mod-lt (rem a c + h.gap) hc)) }

-- at one quotient, the remainders are ordered too
pub Le-mod : (c : ℕ) {a b : ℤ} → 0 < c → floor_div a c ≡ floor_div b c → Le a b → Le (floor_mod a c) (floor_mod b c)
Le-mod c {a} {b} hc e h = record { gap = h.gap; is = ap (λ z. z +ℤ pos h.gap) (rem_is a c) ∙ cancel_left (pos c *ℤ floor_div a c) (pos (rem a c) +ℤ pos h.gap) (pos (rem b c)) both ∙ sym (rem_is b c) }
  where
    both : pos c *ℤ floor_div a c +ℤ (pos (rem a c) +ℤ pos h.gap) ≡ pos c *ℤ floor_div a c +ℤ pos (rem b c)
    both =
        sym (+ℤ_assoc (pos c *ℤ floor_div a c) (pos (rem a c)) (pos h.gap))
        ∙ ap (λ z. z +ℤ pos h.gap) (sym (split a c hc)) ∙ h.is ∙ split b c hc
        ∙ ap (λ z. pos c *ℤ z +ℤ pos (rem b c)) (sym e)

pub Le-mod-lo : (z : ℤ) (c : ℕ) → Le (pos 0) (floor_mod z c)
Le-mod-lo z c = record { gap = rem z c; is = +ℤ_idl (pos (rem z c)) ∙ sym (rem_is z c) }

pub Le-mod-hi : (z : ℤ) (c : ℕ) → 0 < c → Le (floor_mod z c) (pos (c - 1))
Le-mod-hi z c hc = record { gap = c - 1 - rem z c; is = ap (λ w. w +ℤ pos (c - 1 - rem z c)) (rem_is z c) ∙ ap pos (omega (arith, rem_lt z c hc)) }

-- the same by the parts of the two numbers
pub Le-parts : (a b : ℤ) → Le a b → up a + dn b ≤ up b + dn a
Le-parts a b h =
    let e = subst (λ (z : ℤ). up z + (dn a + 0) ≡ dn z + (up a + h.gap)) h.is (add_parts a (pos h.gap)) in
    omega arith

-- and as the library orders them
pub Le-order : {a b : ℤ} → Le a b → a ≤ℤ b
Le-order {a} {b} h = parts-≤ a b (Le-parts a b h)

pub order-Le : {a b : ℤ} → a ≤ℤ b → Le a b
order-Le {a} {b} h =
    let e = ≤-parts a b h in
    let g = up b + dn a - (up a + dn b) in
    record { gap = g; is = same (a +ℤ pos g) b (omega (arith, add_parts a (pos g))) }
