-- What the rules do to values: floor division and its remainder when a multiple leaves, and a floordiv of a floordiv. Assumes nothing.
use mathlib.Core.Path.{◌≡◌, sym, ap, ◌∙◌}
use Prim.Native.Nat.{ℕ, ◌+◌, ◌*◌, ◌<◌}
use native.Mathlib.Nat as NatL
use lib.Arith.{digits_lt}
use lib.IntN.{ℤ, pos, neg_ℤ, ◌+ℤ◌, ◌*ℤ◌, +ℤ_assoc, +ℤ_idl, +ℤ_idr, *ℤ-zero}
use Rattle.integer.specs.Floor.{floor_div, floor_mod}
use Rattle.integer.proofs.Laws.{*ℤ-distribl}
use Rattle.expression.proofs.Ring.{ringℤ, floor-of, mod-of, rem, rem_lt, rem_is, split}

-- rule 2, both operations: c = g * k, and R lies in [q * g, q * g + g - 1]
regroup : (a b f m r : ℤ) → a *ℤ (b *ℤ f +ℤ m) +ℤ r ≡ (a *ℤ b) *ℤ f +ℤ (a *ℤ m +ℤ r)
regroup a b f m r = simp ringℤ

module _ (g k : ℕ) (P q R : ℤ) (r : ℕ) (hk : 0 < k) (hr : r < g) (e : R ≡ pos g *ℤ q +ℤ pos r) where
  rule2-small : g * rem (P +ℤ q) k + r < g * k
  rule2-small = rw (NatL.mul_comm g k, NatL.mul_comm g (rem (P +ℤ q) k)) (digits_lt (rem_lt (P +ℤ q) k hk) hr)

  rule2-shape : pos g *ℤ P +ℤ R ≡ pos (g * k) *ℤ floor_div (P +ℤ q) k +ℤ pos (g * rem (P +ℤ q) k + r)
  rule2-shape =
      ap (λ z. pos g *ℤ P +ℤ z) e
      ∙ sym (+ℤ_assoc (pos g *ℤ P) (pos g *ℤ q) (pos r))
      ∙ ap (λ z. z +ℤ pos r) (sym (*ℤ-distribl (pos g) P q) ∙ ap (λ z. pos g *ℤ z) (split (P +ℤ q) k hk))
      ∙ regroup (pos g) (pos k) (floor_div (P +ℤ q) k) (pos (rem (P +ℤ q) k)) (pos r)

  pub rule2-floor : floor_div (pos g *ℤ P +ℤ R) (g * k) ≡ floor_div (P +ℤ q) k
  rule2-floor = ap (λ z. floor_div z (g * k)) rule2-shape ∙ floor-of (g * k) (floor_div (P +ℤ q) k) (g * rem (P +ℤ q) k + r) rule2-small

  pub rule2-mod : floor_mod (pos g *ℤ P +ℤ R) (g * k) ≡ pos g *ℤ floor_mod (P +ℤ q) k +ℤ (neg_ℤ (q *ℤ pos g) +ℤ R)
  rule2-mod =
      ap (λ z. floor_mod z (g * k)) rule2-shape
      ∙ mod-of (g * k) (floor_div (P +ℤ q) k) (g * rem (P +ℤ q) k + r) rule2-small
      ∙ ap (λ z. pos g *ℤ z +ℤ pos r) (sym (rem_is (P +ℤ q) k))
      ∙ ap (λ z. pos g *ℤ floor_mod (P +ℤ q) k +ℤ z) (back (pos g) q (pos r) ∙ ap (λ z. neg_ℤ (q *ℤ pos g) +ℤ z) (sym e))
    where
      back : (a b x : ℤ) → x ≡ neg_ℤ (b *ℤ a) +ℤ (a *ℤ b +ℤ x)
      back a b x = simp ringℤ

-- rule 3
module _ (c : ℕ) (U S : ℤ) (hc : 0 < c) where
  rule3-shape : pos c *ℤ U +ℤ S ≡ pos c *ℤ (U +ℤ floor_div S c) +ℤ pos (rem S c)
  rule3-shape =
      ap (λ z. pos c *ℤ U +ℤ z) (split S c hc)
      ∙ sym (+ℤ_assoc (pos c *ℤ U) (pos c *ℤ floor_div S c) (pos (rem S c)))
      ∙ ap (λ z. z +ℤ pos (rem S c)) (sym (*ℤ-distribl (pos c) U (floor_div S c)))

  pub rule3-floor : floor_div (pos c *ℤ U +ℤ S) c ≡ U +ℤ floor_div S c
  rule3-floor = ap (λ z. floor_div z c) rule3-shape ∙ floor-of c (U +ℤ floor_div S c) (rem S c) (rem_lt S c hc)

  pub rule3-mod : floor_mod (pos c *ℤ U +ℤ S) c ≡ floor_mod S c
  rule3-mod = ap (λ z. floor_mod z c) rule3-shape ∙ mod-of c (U +ℤ floor_div S c) (rem S c) (rem_lt S c hc) ∙ sym (rem_is S c)

-- rule 4
pub rule4-floor : (a c : ℕ) (X : ℤ) → 0 < a → 0 < c → floor_div (floor_div X a) c ≡ floor_div X (a * c)
rule4-floor a c X ha hc =
    let q : pos (rem X a) ≡ pos a *ℤ pos 0 +ℤ pos (rem X a) = sym (ap (λ z. z +ℤ pos (rem X a)) (*ℤ-zero (pos a)) ∙ +ℤ_idl (pos (rem X a))) in
    sym (ap (λ z. floor_div z (a * c)) (split X a ha)
    ∙ rule2-floor a c (floor_div X a) (pos 0) (pos (rem X a)) (rem X a) hc (rem_lt X a ha) q
    ∙ ap (λ z. floor_div z c) (+ℤ_idr (floor_div X a)))
