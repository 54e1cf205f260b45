-- What the crate's definitions mean, one theorem under each sentence. Assumes nothing.
use Rattle.std.specs.Prelude.{Some, None}
use mathlib.Core.Path.{◌≡◌, refl, sym, ap, ◌∙◌}
use mathlib.Core.Bool.{Bool, true, false}
use mathlib.Core.Logic.{◌↔◌}
use mathlib.Core.List.{[], ◌∷◌}
use Prim.Native.Nat.{ℕ, zero, suc, ◌+◌, ◌*◌, ◌<◌, ◌≤◌, ◌^◌, ◌∣◌}
use native.Mathlib.Nat.{dvd_antisymm, dvd-zero, le_of_dvd, mod-le}
use native.Mathlib.Omega.{arith}
use lib.Dec.{leb}
use lib.IntN.{ℤ, pos, neg_ℤ, nat_abs, ◌+ℤ◌, ◌-ℤ◌, ◌*ℤ◌, +ℤ_comm, +ℤ-neg_ℤ_cancel}
use lib.Signed.{◌<ℤ◌, ◌≤ℤ◌}
use borrow.Author.Tests.{leb-true, leb-false}
use Rattle.integer.specs.Floor.{floor_div, floor_mod}
use Rattle.integer.specs.Exact.{limit, exactly, exact_answer}
use Rattle.integer.specs.Gcd.{IsGcd, gcd_of, least_remainder, rounds_of}
use Rattle.integer.proofs.Linear.{lin, up, dn, add_parts, parts-≤, parts-<}
use Rattle.integer.proofs.Laws.{*ℤ-distribl, div-mod, mod_low, mod-high, div-unique, mod-unique}
use Rattle.integer.proofs.Limits.{exact-in, exact-out, exact_one}
use Rattle.integer.proofs.Divisors.{gcd-is, gcd-unique}
use Rattle.integer.proofs.Rounds.{least-half, gcd-kept, rounds-digits, rounds-more}

-- x is c times x floordiv c, plus x mod c.
pub floor-split : (x : ℤ) (c : ℕ) → 0 < c → x ≡ pos c *ℤ floor_div x c +ℤ floor_mod x c
floor-split x c h = sym (div-mod x c h)

-- x mod c lies in 0 .. c - 1.
pub floor-mod-below : (x : ℤ) (c : ℕ) → 0 < c → (pos 0 ≤ℤ floor_mod x c) × (floor_mod x c <ℤ pos c)
floor-mod-below x c h = (mod_low x c, mod-high x c h)

-- x mod c is x less c times x floordiv c.
pub floor-mod-is : (x : ℤ) (c : ℕ) → 0 < c → floor_mod x c ≡ x -ℤ pos c *ℤ floor_div x c
floor-mod-is x c h =
    let p = pos c *ℤ floor_div x c in
    sym (+ℤ-neg_ℤ_cancel (floor_mod x c) p) ∙ ap (λ (z : ℤ). z -ℤ p) (+ℤ_comm (floor_mod x c) p ∙ div-mod x c h)

-- No other quotient, with a remainder in 0 .. c - 1, splits x.
pub floor-unique : (x q : ℤ) (c r : ℕ) → r < c → x ≡ pos c *ℤ q +ℤ pos r
    → (floor_div x c ≡ q) × (floor_mod x c ≡ pos r)
floor-unique x q c r h e = (div-unique x q c r h e, mod-unique x q c r h e)

-- floordiv rounds towards minus infinity: c times the quotient is at most x, and c times the next number is above x.
pub floor-down : (x : ℤ) (c : ℕ) → 0 < c
    → ((pos c *ℤ floor_div x c) ≤ℤ x) × (x <ℤ (pos c *ℤ (floor_div x c +ℤ pos 1)))
floor-down x c h =
    let p = pos c *ℤ floor_div x c in
    let m = floor_mod x c in
    let e = div-mod x c h in
    let s = add_parts p m in
    let low = mod_low x c in
    let high = mod-high x c h in (
      parts-≤ p x (omega (lin, ap up e, ap dn e)),
      rw *ℤ-distribl (parts-< x (p +ℤ pos (c * 1)) (omega (lin, ap up e, ap dn e, add_parts p (pos (c * 1))))),
    )

-- -1 floordiv 7 is -1, and -1 mod 7 is 6.
pub floor-sample : (floor_div (neg_ℤ (pos 1)) 7 ≡ neg_ℤ (pos 1)) × (floor_mod (neg_ℤ (pos 1)) 7 ≡ pos 6)
floor-sample = (refl, refl)

-- A number is kept, as itself, exactly where its magnitude is at most the limit.
pub exact-value : (z v : ℤ) → (exactly z ≡ Some v) ↔ ((v ≡ z) × (nat_abs z ≤ limit))
exact-value z v = (kept (leb (nat_abs z) limit) refl, λ h. exact-in z h.1 ∙ ap Some (sym h.0))
  where
    kept : (b : Bool) → leb (nat_abs z) limit ≡ b → exactly z ≡ Some v → (v ≡ z) × (nat_abs z ≤ limit)
    kept true e p =
        let h = leb-true (nat_abs z) limit e in
        let r = exact-in z h in
        (cc, h)
    kept false e p = absurd (exact_one p (exact-out z (leb-false (nat_abs z) limit e)))

-- It has passed exactly where its magnitude is above the limit.
pub exact-passed : (z : ℤ) → (exactly z ≡ None) ↔ (limit < nat_abs z)
exact-passed z = (gone (leb (nat_abs z) limit) refl, exact-out z)
  where
    gone : (b : Bool) → leb (nat_abs z) limit ≡ b → exactly z ≡ None → limit < nat_abs z
    gone true e p = absurd (exact_one (exact-in z (leb-true (nat_abs z) limit e)) p)
    gone false e p = leb-false (nat_abs z) limit e

-- Within the limit the answer on paper is 0 with the number; past it, 8 with a zero.
pub exact-answer : (z : ℤ)
    → (nat_abs z ≤ limit → exact_answer (exactly z) ≡ record { number = 0; values = z ∷ []; places = [] })
    × (limit < nat_abs z → exact_answer (exactly z) ≡ record { number = 8; values = pos 0 ∷ []; places = [] })
exact-answer z = (λ h. ap exact_answer (exact-in z h), λ h. ap exact_answer (exact-out z h))

-- gcd_of a b is the greatest common divisor of a and b, by what divides what.
pub gcd-greatest : (a b : ℕ) → IsGcd a b (gcd_of a b)
gcd-greatest a b = gcd-is a b

-- There is no other.
pub gcd-only : (a b r : ℕ) → IsGcd a b r → r ≡ gcd_of a b
gcd-only a b r g = gcd-unique a b r (gcd_of a b) g (gcd-is a b)

-- Unless both are 0, it is the largest number that divides both.
pub gcd-largest : (a b d : ℕ) → 0 < a + b → d ∣ a → d ∣ b → d ≤ gcd_of a b
gcd-largest a b d h p q = le_of_dvd (positive (gcd_of a b) (gcd-is a b)) ((gcd-is a b).greatest d p q)
  where
    none : (n : ℕ) → 0 ∣ n → n ≡ 0
    none n z = dvd_antisymm (dvd-zero n) z

    positive : (g : ℕ) → IsGcd a b g → 0 < g
    positive zero i = absurd (omega (arith, none a i.left, none b i.right))
    positive (suc g) i = omega arith

-- A round leaves the greatest common divisor as it is.
pub round_keeps : (a b : ℕ) → 0 < b → gcd_of a b ≡ gcd_of b (least_remainder a b)
round_keeps a b h = gcd-kept a b h

-- A round at least halves b.
pub round-halves : (a b : ℕ) → 0 < b → 2 * least_remainder a b ≤ b
round-halves a b h = least-half a b h

-- A pair takes one round more than the pair that goes on.
pub rounds-counted : (a b : ℕ) → 0 < b → rounds_of a b ≡ suc (rounds_of b (least_remainder a b))
rounds-counted a b h = rounds-more a b h

-- Where b is 0 no round is left, and a is the greatest common divisor.
pub rounds-ended : (a : ℕ) → (rounds_of a 0 ≡ 0) × (gcd_of a 0 ≡ a)
unfolding rounds_of gcd_of
rounds-ended a = (refl, refl)

-- A number of k binary digits in the second place takes at most k rounds, whatever the first is.
pub rounds-at-most : (k a b : ℕ) → b < 2 ^ k → rounds_of a b ≤ k
rounds-at-most k a b h = rounds-digits k a b h

-- So two numbers below 2^64 take at most 64 rounds; the first one's size does not matter.
pub rounds-64 : (a b : ℕ) → b < 2 ^ 64 → rounds_of a b ≤ 64
rounds-64 a b h = rounds-digits 64 a b h

-- A divisor of at most 2^40 takes at most 42 rounds with any other number, and 41 in the second place.
pub rounds-divisor : (c k : ℕ) → c ≤ 2 ^ 40 → (rounds_of c k ≤ 42) × (rounds_of k c ≤ 41)
rounds-divisor c k h = (first k, rounds-digits 41 k c (omega arith))
  where
    first : (n : ℕ) → rounds_of c n ≤ 42
    first zero = rounds-digits 42 c 0 (omega arith)
    first (suc n) =
        let r = rounds-digits 41 (suc n) (least_remainder c (suc n)) (omega (arith, mod-le c (suc n))) in
        omega (arith, rounds-more c (suc n) (omega arith))
