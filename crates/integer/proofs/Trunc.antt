-- Division toward zero, as `/` and `%` of i64 have it, and the correction below zero that rounds it down. Assumes nothing.
use mathlib.Core.Path.{◌≡◌, refl, sym, ap, ◌∙◌}
use mathlib.Core.Bool.{true, false}
use Prim.Native.Nat.{ℕ, suc, ◌-◌, ◌*◌, ◌/◌, ◌%◌, ◌<◌}
use native.Mathlib.Nat.{mod-lt, div-le_self, lt_of_le_of_lt, div-add-mod}
use native.Mathlib.Omega.{arith}
use lib.IntN.{ℤ, pos, negsuc, neg_ℤ, nat_abs, ◌+ℤ◌, ◌-ℤ◌, ◌*ℤ◌}
use lib.Signed.{lt_z, quot_z, rem_z, mag_rem, ◌<ℤ◌}
use mir.Syntax.{w64}
use mir.Val.{SFits}
use mir.Facts.{ltb_yes}
use Rattle.integer.specs.Floor.{floor_div, floor_mod}
use Rattle.integer.proofs.Linear.{up, dn, same, add_parts, diff-parts, up_neg, dn-neg, up-mul, dn-mul, neg-up, pos-dn, lt-true, fits_by}
use Rattle.integer.proofs.Laws.{div-unique, mod-unique}

module _ (c : ℕ) (h : 0 < c) where
  -- what is divided is the divisor times the quotient, and the remainder
  pub quot-rem : (a : ℤ) → pos c *ℤ quot_z a (pos c) +ℤ rem_z a (pos c) ≡ a
  quot-rem (pos a) = ap pos (div-add-mod a c)
  quot-rem (negsuc a) =
      let q = pos (suc a / c) in
      let r = pos (suc a % c) in
      let e = div-add-mod (suc a) c in
      same _ _
      (omega (
        arith,
        add_parts (pos c *ℤ neg_ℤ q) (neg_ℤ r),
        up-mul (pos c) (neg_ℤ q),
        dn-mul (pos c) (neg_ℤ q),
        ap (λ (n : ℕ). c * n) (up_neg q),
        ap (λ (n : ℕ). c * n) (dn-neg q),
        up_neg r,
        dn-neg r,
      ))

  pub rem-small : (a : ℤ) → (up (rem_z a (pos c)) < c) × (dn (rem_z a (pos c)) < c)
  rem-small (pos a) = omega (arith, mod-lt a h)
  rem-small (negsuc a) =
      omega (arith, mod-lt (suc a) h, up_neg (pos (suc a % c)), dn-neg (pos (suc a % c)))

  -- a remainder below 0: one less, and the divisor more
  module _ (a : ℤ) (t : lt_z (rem_z a (pos c)) (pos 0) ≡ true) where
    below : a ≡ pos c *ℤ (quot_z a (pos c) -ℤ pos 1) +ℤ pos (c - dn (rem_z a (pos c)))
    below =
        let q = quot_z a (pos c) in
        let r = rem_z a (pos c) in
        let s = rem-small a in
        let e = diff-parts q (pos 1) in
        sym (quot-rem a)
        ∙ same _ _
        (omega (
          arith,
          add_parts (pos c *ℤ q) r,
          up-mul (pos c) q,
          dn-mul (pos c) q,
          up-mul (pos c) (q -ℤ pos 1),
          dn-mul (pos c) (q -ℤ pos 1),
          ap (λ (n : ℕ). c * n) e,
          add_parts (pos c *ℤ (q -ℤ pos 1)) (pos (c - dn r)),
          neg-up r t,
        ))

    rest-small : c - dn (rem_z a (pos c)) < c
    rest-small = omega (arith, lt-true (rem_z a (pos c)) (pos 0) t)

    pub down_div : quot_z a (pos c) -ℤ pos 1 ≡ floor_div a c
    down_div = sym (div-unique a _ c _ rest-small below)

    pub down-mod : rem_z a (pos c) +ℤ pos c ≡ floor_mod a c
    down-mod =
        let r = rem_z a (pos c) in
        same _ (pos (c - dn r)) (omega (arith, add_parts r (pos c), neg-up r t, rem-small a))
        ∙ sym (mod-unique a (quot_z a (pos c) -ℤ pos 1) c _ rest-small below)

  -- any other remainder: as it is
  module _ (a : ℤ) (t : lt_z (rem_z a (pos c)) (pos 0) ≡ false) where
    rem_is : rem_z a (pos c) ≡ pos (up (rem_z a (pos c)))
    rem_is = same _ _ (omega (arith, pos-dn (rem_z a (pos c)) t))

    above : a ≡ pos c *ℤ quot_z a (pos c) +ℤ pos (up (rem_z a (pos c)))
    above = sym (quot-rem a) ∙ ap (λ (z : ℤ). pos c *ℤ quot_z a (pos c) +ℤ z) rem_is

    pub same_div : quot_z a (pos c) ≡ floor_div a c
    same_div = sym (div-unique a _ c _ (rem-small a).0 above)

    pub same-mod : rem_z a (pos c) ≡ floor_mod a c
    same-mod = rem_is ∙ sym (mod-unique a (quot_z a (pos c)) c _ (rem-small a).0 above)

  -- what fits an i64
  pub quot_fits : (a : ℤ) → SFits w64 a → SFits w64 (quot_z a (pos c))
  quot_fits (pos a) f = record { sfits = lt_of_le_of_lt (div-le_self a c) f.sfits }
  quot_fits (negsuc a) f =
      let q = pos (suc a / c) in
      fits_by (neg_ℤ q) (omega (arith, f.sfits, div-le_self (suc a) c, up_neg q, dn-neg q))

  pub rem-fits : (a : ℤ) → SFits w64 a → SFits w64 (rem_z a (pos c))
  rem-fits a f = record { sfits = lt_of_le_of_lt (mag_rem a (pos c)) f.sfits }

  pub floor-fits : (a : ℤ) → SFits w64 a → SFits w64 (floor_div a c)
  floor-fits (pos a) f = record { sfits = lt_of_le_of_lt (div-le_self a c) f.sfits }
  floor-fits (negsuc a) f = record { sfits = lt_of_le_of_lt (div-le_self a c) f.sfits }

  pub mod-fits : (a : ℤ) → SFits w64 (pos c) → SFits w64 (floor_mod a c)
  mod-fits (pos a) f = record { sfits = omega (arith, f.sfits, mod-lt a h) }
  mod-fits (negsuc a) f = record { sfits = omega (arith, f.sfits, mod-lt a h) }

-- a divisor above 0
pub above-0 : (a : ℤ) → pos 0 <ℤ a → a ≡ pos (nat_abs a)
above-0 (pos n) h = refl
above-0 (negsuc n) h = absurd h.lt

pub abs-above-0 : (a : ℤ) → pos 0 <ℤ a → 0 < nat_abs a
abs-above-0 (pos n) h = ltb_yes h.lt
abs-above-0 (negsuc n) h = absurd h.lt
