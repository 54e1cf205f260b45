-- Merging of sums, case by case of the first atoms. Assumes nothing.
use mathlib.Core.Path.{◌≡◌, refl, ap, ◌∙◌}
use Prim.Native.Nat.{Ordering}
use Prim.Native.Nat.{zero, suc}
use lib.IntN.{ℤ, pos, negsuc, ◌+ℤ◌, ◌*ℤ◌}
use Rattle.folding.specs.Sum.{Atom, Sum}
use Rattle.folding.specs.Fold.{cons_term}
use Rattle.words.specs.Saturated.{saturate, shifted}
use Rattle.words.specs.Merged.{head_order, choose, merge_term, merged, multiplied, blended}

pub merged-const : (k l : ℤ) → merged (Sum.const k) (Sum.const l) ≡ Sum.const (saturate (k +ℤ l))
unfolding merged shifted
merged-const k l = refl

pub merged-lt : (c : ℤ) (a : Atom) (t u : Sum) → head_order (Sum.term c a t) u ≡ Ordering.lt → merged (Sum.term c a t) u ≡ Sum.term (saturate c) a (merged t u)
unfolding merged merge_term head_order choose
merged-lt c a t (Sum.const l) h = refl
merged-lt c a t (Sum.term e b u) h = ap (λ o. choose o (Sum.term (saturate c) a (merged t (Sum.term e b u))) (cons_term (saturate (c +ℤ e)) b (merged t u)) (Sum.term e b (merge_term c a (merged t) u))) h

pub merged-gt : (t : Sum) (e : ℤ) (b : Atom) (u : Sum) → head_order t (Sum.term e b u) ≡ Ordering.gt → merged t (Sum.term e b u) ≡ Sum.term e b (merged t u)
unfolding merged merge_term head_order choose shifted
merged-gt (Sum.const k) e b u h = refl
merged-gt (Sum.term c a t) e b u h = ap (λ o. choose o (Sum.term (saturate c) a (merged t (Sum.term e b u))) (cons_term (saturate (c +ℤ e)) b (merged t u)) (Sum.term e b (merge_term c a (merged t) u))) h

pub merged-eq : (c : ℤ) (a : Atom) (t : Sum) (e : ℤ) (b : Atom) (u : Sum) → head_order (Sum.term c a t) (Sum.term e b u) ≡ Ordering.eq → merged (Sum.term c a t) (Sum.term e b u) ≡ cons_term (saturate (c +ℤ e)) b (merged t u)
unfolding merged merge_term head_order choose
merged-eq c a t e b u h = ap (λ o. choose o (Sum.term (saturate c) a (merged t (Sum.term e b u))) (cons_term (saturate (c +ℤ e)) b (merged t u)) (Sum.term e b (merge_term c a (merged t) u))) h

pub cons-zero : (v : ℤ) (b : Atom) (t : Sum) → v ≡ pos 0 → cons_term v b t ≡ t
unfolding cons_term
cons-zero v b t e = ap (λ (z : ℤ). cons_term z b t) e

pub cons-more : (v : ℤ) (b : Atom) (t : Sum) → (v ≡ pos 0 → ⊥) → cons_term v b t ≡ Sum.term v b t
unfolding cons_term
cons-more (pos zero) b t h = absurd (h refl)
cons-more (pos (suc n)) b t h = refl
cons-more (negsuc n) b t h = refl

pub head-same : (k : ℤ) (t u : Sum) → head_order (multiplied k t) u ≡ head_order t u
unfolding head_order multiplied
head-same k (Sum.const z) (Sum.const l) = refl
head-same k (Sum.const z) (Sum.term e b u) = refl
head-same k (Sum.term c a t) (Sum.const l) = refl
head-same k (Sum.term c a t) (Sum.term e b u) = refl

pub blend-const : (k z l : ℤ) → blended k (Sum.const z) (Sum.const l) ≡ Sum.const (saturate ((k *ℤ z) +ℤ l))
unfolding blended multiplied
blend-const k z l = merged-const (k *ℤ z) l

pub blend-lt : (k c : ℤ) (a : Atom) (t u : Sum) → head_order (Sum.term c a t) u ≡ Ordering.lt → blended k (Sum.term c a t) u ≡ Sum.term (saturate (k *ℤ c)) a (blended k t u)
unfolding blended multiplied
blend-lt k c a t u h = merged-lt (k *ℤ c) a (multiplied k t) u (head-same k (Sum.term c a t) u ∙ h)

pub blend-gt : (k : ℤ) (t : Sum) (e : ℤ) (b : Atom) (u : Sum) → head_order t (Sum.term e b u) ≡ Ordering.gt → blended k t (Sum.term e b u) ≡ Sum.term e b (blended k t u)
unfolding blended
blend-gt k t e b u h = merged-gt (multiplied k t) e b u (head-same k t (Sum.term e b u) ∙ h)

pub blend-eq : (k c : ℤ) (a : Atom) (t : Sum) (e : ℤ) (b : Atom) (u : Sum) → head_order (Sum.term c a t) (Sum.term e b u) ≡ Ordering.eq → blended k (Sum.term c a t) (Sum.term e b u) ≡ cons_term (saturate ((k *ℤ c) +ℤ e)) b (blended k t u)
unfolding blended multiplied
blend-eq k c a t e b u h = merged-eq (k *ℤ c) a (multiplied k t) e b u (head-same k (Sum.term c a t) (Sum.term e b u) ∙ h)
