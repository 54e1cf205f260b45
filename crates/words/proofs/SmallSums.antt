-- A sum whose numbers were kept or passed the limit keeps the limits exactly where the sum does, and then it is the sum. Assumes nothing.
use mathlib.Core.Path.{◌≡◌, refl, ap, ap₂, ◌∙◌}
use mathlib.Core.Bool.{Bool, true, false, ◌&&◌}
use Prim.Native.Nat.{ℕ}
use lib.IntN.{ℤ, pos}
use Rattle.folding.specs.Sum.{Sum, atom_range}
use Rattle.folding.specs.Working.{small_from, small_sum}
use Rattle.words.specs.Saturated.{saturate, saturate_sum}
use Rattle.words.proofs.Ends.{sat-ok, sat-kept}
use Rattle.words.proofs.Tests.{clash}
use Rattle.expression.specs.Expression.{Kind, Range, add_range, mul_range, is_small, small_range}

module _ (β : Kind → ℕ → Range) where
  from-sat : (r : Range) (t : Sum) → small_from β r (saturate_sum t) ≡ small_from β r t
  unfolding small_from saturate_sum
  from-sat r (Sum.const k) = go (is_small k) refl
    where
      go : (b : Bool) → is_small k ≡ b → is_small (saturate k) && small_range (add_range r (record { lo = saturate k; hi = saturate k })) ≡ is_small k && small_range (add_range r (record { lo = k; hi = k }))
      go true e = ap (λ (z : ℤ). is_small z && small_range (add_range r (record { lo = z; hi = z }))) (sat-kept k e)
      go false e = rw (sat-ok k, e) refl
  from-sat r (Sum.term c a t) = go (is_small c) refl (λ q. from-sat q t)
    where
      go : (b : Bool) → is_small c ≡ b → ((q : Range) → small_from β q (saturate_sum t) ≡ small_from β q t)
          → ((is_small (saturate c) && small_range (mul_range (saturate c) (atom_range a β))) && small_range (add_range r (mul_range (saturate c) (atom_range a β)))) && small_from β (add_range r (mul_range (saturate c) (atom_range a β))) (saturate_sum t)
          ≡ ((is_small c && small_range (mul_range c (atom_range a β))) && small_range (add_range r (mul_range c (atom_range a β)))) && small_from β (add_range r (mul_range c (atom_range a β))) t
      go true e ih =
          ap (λ (z : ℤ). ((is_small z && small_range (mul_range z (atom_range a β))) && small_range (add_range r (mul_range z (atom_range a β)))) && small_from β (add_range r (mul_range z (atom_range a β))) (saturate_sum t)) (sat-kept c e)
          ∙ ap (λ (b : Bool). ((is_small c && small_range (mul_range c (atom_range a β))) && small_range (add_range r (mul_range c (atom_range a β)))) && b) (ih (add_range r (mul_range c (atom_range a β))))
      go false e ih = rw (sat-ok c, e) refl

  pub ok-sat : (t : Sum) → small_sum β (saturate_sum t) ≡ small_sum β t
  unfolding small_sum
  ok-sat t = from-sat (record { lo = pos 0; hi = pos 0 }) t

  first_of : (a b : Bool) → (a && b) ≡ true → (a ≡ true) × (b ≡ true)
  first_of true b e = (refl, e)
  first_of false b e = clash e

  from-kept : (r : Range) (t : Sum) → small_from β r t ≡ true → saturate_sum t ≡ t
  unfolding small_from saturate_sum
  from-kept r (Sum.const k) e = ap Sum.const (sat-kept k (first_of _ _ e).0)
  from-kept r (Sum.term c a t) e =
      let h = first_of _ _ e in
      ap₂ (λ (x : ℤ) (y : Sum). Sum.term x a y) (sat-kept c (first_of _ _ (first_of _ _ h.0).0).0) (from-kept (add_range r (mul_range c (atom_range a β))) t h.1)

  pub ok-kept : (t : Sum) → small_sum β t ≡ true → saturate_sum t ≡ t
  unfolding small_sum
  ok-kept t e = from-kept (record { lo = pos 0; hi = pos 0 }) t e
