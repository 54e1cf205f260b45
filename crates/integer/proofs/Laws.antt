-- Laws of ℤ: order, product, and floor division with its remainder. Assumes nothing.
use mathlib.Core.Path.{◌≡◌, ap, ◌∙◌}
use Prim.Native.Nat.{ℕ, suc, ◌+◌, ◌-◌, ◌*◌, ◌/◌, ◌%◌, ◌<◌}
use native.Mathlib.Nat.{mod-lt, div-add-mod, div-eq_of_lt-le, mul-add-mod_self_left, mod-eq_of_lt}
use native.Mathlib.Omega.{arith}
use lib.IntN.{ℤ, pos, negsuc, ◌+ℤ◌, ◌*ℤ◌}
use lib.Signed.{◌<ℤ◌, ◌≤ℤ◌}
use Rattle.integer.specs.Floor.{floor_div, floor_mod}
use Rattle.integer.proofs.Linear.{up, dn, same, add_parts, up-mul, dn-mul, ≤-parts, parts-≤, parts-<}

pub add-mono : (a b c : ℤ) → a ≤ℤ b → (a +ℤ c) ≤ℤ (b +ℤ c)
add-mono a b c h = parts-≤ _ _ (omega (arith, ≤-parts a b h, add_parts a c, add_parts b c))

-- laws that are not linear: each fact times a factor is handed over
pub *ℤ-distribl : (a b c : ℤ) → a *ℤ (b +ℤ c) ≡ a *ℤ b +ℤ a *ℤ c
*ℤ-distribl a b c =
    let e = add_parts b c in
    same _ _
    (omega (
      arith,
      up-mul a (b +ℤ c),
      dn-mul a (b +ℤ c),
      up-mul a b,
      dn-mul a b,
      up-mul a c,
      dn-mul a c,
      add_parts (a *ℤ b) (a *ℤ c),
      ap (λ (n : ℕ). up a * n) e,
      ap (λ (n : ℕ). dn a * n) e,
    ))

pub *ℤ-assoc : (a b c : ℤ) → (a *ℤ b) *ℤ c ≡ a *ℤ (b *ℤ c)
*ℤ-assoc a b c =
    let u = up-mul a b in
    let d = dn-mul a b in
    let v = up-mul b c in
    let w = dn-mul b c in
    same _ _
    (rw (up-mul (a *ℤ b) c, dn-mul (a *ℤ b) c, up-mul a (b *ℤ c), dn-mul a (b *ℤ c), u, d, v, w) (omega arith))

-- below 0, c times a quotient and a remainder
neg-form : (c k r : ℕ) → r < c → pos c *ℤ negsuc k +ℤ pos r ≡ negsuc (c * k + (c - suc r))
neg-form c k r h =
    let q = negsuc k in
    same _ _ (omega (arith, add_parts (pos c *ℤ q) (pos r), up-mul (pos c) q, dn-mul (pos c) q))

-- what is divided is the divisor times the quotient, and the remainder
pub div-mod : (a : ℤ) (c : ℕ) → 0 < c → pos c *ℤ floor_div a c +ℤ floor_mod a c ≡ a
div-mod (pos a) c h = ap pos (div-add-mod a c)
div-mod (negsuc a) c h =
    let l = mod-lt a h in
    neg-form c (a / c) (c - suc (a % c)) (omega arith) ∙ ap negsuc (omega (arith, div-add-mod a c, l))

-- the remainder lies in 0 .. c - 1
pub mod_low : (a : ℤ) (c : ℕ) → pos 0 ≤ℤ floor_mod a c
mod_low (pos a) c = parts-≤ _ _ (omega arith)
mod_low (negsuc a) c = parts-≤ _ _ (omega arith)

pub mod-high : (a : ℤ) (c : ℕ) → 0 < c → floor_mod a c <ℤ pos c
mod-high (pos a) c h = parts-< _ _ (omega (arith, mod-lt a h))
mod-high (negsuc a) c h = parts-< _ _ (omega (arith, mod-lt a h))

-- the quotient and the remainder are the only numbers like that
module _ (c k r : ℕ) (h : r < c) where
  nat-quotient : (c * k + r) / c ≡ k
  nat-quotient = div-eq_of_lt-le c (omega arith) (omega arith)

  nat-remainder : (c * k + r) % c ≡ r
  nat-remainder = mul-add-mod_self_left c k r ∙ mod-eq_of_lt h

pub div-unique : (a q : ℤ) (c r : ℕ) → r < c → a ≡ pos c *ℤ q +ℤ pos r → floor_div a c ≡ q
div-unique a (pos k) c r h e = rw e (ap pos (nat-quotient c k r h))
div-unique a (negsuc k) c r h e = rw (e, neg-form c k r h) (ap negsuc (nat-quotient c k (c - suc r) (omega arith)))

pub mod-unique : (a q : ℤ) (c r : ℕ) → r < c → a ≡ pos c *ℤ q +ℤ pos r → floor_mod a c ≡ pos r
mod-unique a (pos k) c r h e = rw e (ap pos (nat-remainder c k r h))
mod-unique a (negsuc k) c r h e =
    let s = nat-remainder c k (c - suc r) (omega arith) in
    rw (e, neg-form c k r h) (ap pos (omega arith))
