-- Sums that are merged are k times the first sum and the second, each number kept within 2^62 or past it. Assumes nothing.
use mathlib.Core.Path.{◌≡◌, refl, sym, ap, ap₂, ◌∙◌, subst}
use mathlib.Core.Logic.{◌≢◌}
use Rattle.integer.proofs.Signs.{abs-mul, abs-zero}
use Prim.Native.Nat.{ℕ, zero, suc, ◌*◌, Ordering}
use native.Mathlib.Omega.{arith}
use lib.IntN.{ℤ, pos, negsuc, nat_abs, ◌+ℤ◌, ◌*ℤ◌}
use Rattle.folding.specs.Sum.{Atom, Sum, atom_order}
use Rattle.folding.specs.Fold.{cons_term, place_term, insert_term, add_constant, add_sums, scale_sum}
use Rattle.folding.proofs.AtomOrder.{flip, order_flip, order-greater, order_same}
use Rattle.folding.proofs.Merging.{above-trans, above-insert, above-plusℤ}
use Rattle.folding.specs.Folded.{Above}
use Rattle.words.specs.Saturated.{saturate, saturate_sum, shifted}
use Rattle.words.proofs.Merged.{cons-more}
use Rattle.words.proofs.Saturated.{sat-in, sat-zero}
use Rattle.words.specs.Merged.{choose, merge_term, merged, multiplied, blended, Sorted, Kept}

above-plus : (x : Atom) (t u : Sum) → Above x t → Above x u → Above x (add_sums t u)
unfolding add_sums Above
above-plus x (Sum.const k) u h g = above-plusℤ x k u g
above-plus x (Sum.term c a t) u h g = above-insert x c a (add_sums t u) h.0 (above-plus x t u h.1 g)

front : (c : ℤ) (a : Atom) (x : Sum) → c ≢ pos 0 → Above a x → insert_term c a x ≡ Sum.term c a x
unfolding insert_term place_term Above
front c a (Sum.const k) h p = cons-more c a (Sum.const k) h
front c a (Sum.term e b t) h p = ap (λ o. place_term o c a e b t (insert_term c a t)) p.0 ∙ cons-more c a (Sum.term e b t) h

behind : (c : ℤ) (a : Atom) (e : ℤ) (b : Atom) (x : Sum) → atom_order b a ≡ Ordering.lt → insert_term c a (Sum.term e b x) ≡ Sum.term e b (insert_term c a x)
unfolding insert_term place_term
behind c a e b x h = ap (λ o. place_term o c a e b x (insert_term c a x)) (order_flip b a ∙ ap flip h)

plus-behind : (t : Sum) (e : ℤ) (b : Atom) (u : Sum) → Above b t → add_sums t (Sum.term e b u) ≡ Sum.term e b (add_sums t u)
unfolding add_sums add_constant Above
plus-behind (Sum.const k) e b u h = refl
plus-behind (Sum.term c a t) e b u h = ap (insert_term c a) (plus-behind t e b u h.1) ∙ behind c a e b (add_sums t u) h.0

sat-of-cons : (m : ℤ) (b : Atom) (t : Sum) → saturate_sum (cons_term m b t) ≡ cons_term (saturate m) b (saturate_sum t)
unfolding saturate_sum cons_term
sat-of-cons (pos zero) b t = sym (ap (λ (z : ℤ). cons_term z b (saturate_sum t)) (sat-in (pos 0) (omega arith)))
sat-of-cons (pos (suc n)) b t = sym (cons-more (saturate (pos (suc n))) b (saturate_sum t) (λ e. let z : ◌≡◌ {A = ℕ} (suc n) 0 = ap nat_abs (sat-zero (pos (suc n)) e) in absurd (omega arith)))
sat-of-cons (negsuc n) b t = sym (cons-more (saturate (negsuc n)) b (saturate_sum t) (λ e. let z : ◌≡◌ {A = ℕ} (suc n) 0 = ap nat_abs (sat-zero (negsuc n) e) in absurd (omega arith)))

last : (k : ℤ) (u : Sum) → Kept u → shifted k u ≡ saturate_sum (add_constant k u)
unfolding shifted saturate_sum add_constant Kept
last k (Sum.const l) h = refl
last k (Sum.term e b u) h = ap₂ (λ (x : ℤ) (y : Sum). Sum.term x b y) (sym h.0) (last k u h.1)

-- the first sum's first term against the second
merge-term : (c : ℤ) (a : Atom) (t u : Sum) → c ≢ pos 0 → Above a t → Kept u → Sorted u → ((v : Sum) → Kept v → Sorted v → merged t v ≡ saturate_sum (add_sums t v)) → merge_term c a (merged t) u ≡ saturate_sum (insert_term c a (add_sums t u))
unfolding merge_term saturate_sum Kept Sorted Above insert_term choose place_term
merge-term c a t (Sum.const l) nz at ku su ih =
    ap (λ (x : Sum). Sum.term (saturate c) a x) (ih (Sum.const l) ku su)
    ∙ ap saturate_sum (sym (front c a (add_sums t (Sum.const l)) nz (above-plus a t (Sum.const l) at tt)))
merge-term c a t (Sum.term e b u) nz at ku su ih = go (atom_order a b) refl (merge-term c a t u nz at ku.1 su.1.1 ih)
  where
    go : (o : Ordering) → atom_order a b ≡ o → merge_term c a (merged t) u ≡ saturate_sum (insert_term c a (add_sums t u))
        → choose o (Sum.term (saturate c) a (merged t (Sum.term e b u))) (cons_term (saturate (c +ℤ e)) b (merged t u)) (Sum.term e b (merge_term c a (merged t) u)) ≡ saturate_sum (insert_term c a (add_sums t (Sum.term e b u)))
    go Ordering.lt h rest =
        ap (λ (x : Sum). Sum.term (saturate c) a x) (ih (Sum.term e b u) ku su)
        ∙ ap saturate_sum (sym (front c a (add_sums t (Sum.term e b u)) nz (above-plus a t (Sum.term e b u) at (h, above-trans a b u h su.1.0))))
    go Ordering.eq h rest =
        let ab = order_same a b h in
        ap (λ (x : Sum). cons_term (saturate (c +ℤ e)) b x) (ih u ku.1 su.1.1)
        ∙ sym (sat-of-cons (c +ℤ e) b (add_sums t u))
        ∙ ap saturate_sum (sym (ap (insert_term c a) (plus-behind t e b u (subst (λ (x : Atom). Above x t) ab at)) ∙ ap (λ o. place_term o c a e b (add_sums t u) (insert_term c a (add_sums t u))) h))
    go Ordering.gt h rest =
        let ba = order-greater a b h in
        ap₂ (λ (x : ℤ) (y : Sum). Sum.term x b y) (sym ku.0) rest
        ∙ ap saturate_sum (sym (ap (insert_term c a) (plus-behind t e b u (above-trans b a t ba at)) ∙ behind c a e b (add_sums t u) ba))

pub merged-plus : (t u : Sum) → Sorted t → Kept u → Sorted u → merged t u ≡ saturate_sum (add_sums t u)
unfolding merged add_sums Kept Sorted
merged-plus (Sum.const k) u st ku su = last k u ku
merged-plus (Sum.term c a t) u st ku su = merge-term c a t u st.0 st.1.0 ku su (λ v kv sv. merged-plus t v st.1.1 kv sv)

not-zero : (k c : ℤ) → k ≢ pos 0 → c ≢ pos 0 → k *ℤ c ≢ pos 0
not-zero k c h g e =
    let z : nat_abs k * nat_abs c ≡ 0 = sym (abs-mul k c) ∙ ap nat_abs e in
    go (nat_abs k) (nat_abs c) (λ i. h (abs-zero k i)) (λ i. g (abs-zero c i)) z
  where
    go : (m n : ℕ) → (m ≡ 0 → ⊥) → (n ≡ 0 → ⊥) → m * n ≡ 0 → ⊥
    go zero n a b i = a refl
    go (suc m) zero a b i = b refl
    go (suc m) (suc n) a b i = omega arith

mul-is-scale : (k : ℤ) (t : Sum) → k ≢ pos 0 → Sorted t → multiplied k t ≡ scale_sum k t
unfolding multiplied scale_sum Sorted
mul-is-scale k (Sum.const z) h s = refl
mul-is-scale k (Sum.term c a t) h s = ap (λ (x : Sum). Sum.term (k *ℤ c) a x) (mul-is-scale k t h s.1.1) ∙ sym (cons-more (k *ℤ c) a (scale_sum k t) (not-zero k c h s.0))

above-mul : (x : Atom) (k : ℤ) (t : Sum) → Above x t → Above x (multiplied k t)
unfolding multiplied Above
above-mul x k (Sum.const z) h = tt
above-mul x k (Sum.term c a t) h = (h.0, above-mul x k t h.1)

sorted-mul : (k : ℤ) (t : Sum) → k ≢ pos 0 → Sorted t → Sorted (multiplied k t)
unfolding multiplied Sorted
sorted-mul k (Sum.const z) h s = tt
sorted-mul k (Sum.term c a t) h s = (not-zero k c h s.0, (above-mul a k t s.1.0, sorted-mul k t h s.1.1))

-- k times the first sum and the second
pub blend-law : (k : ℤ) (t u : Sum) → k ≢ pos 0 → Sorted t → Kept u → Sorted u → blended k t u ≡ saturate_sum (add_sums (scale_sum k t) u)
unfolding blended
blend-law k t u h st ku su = merged-plus (multiplied k t) u (sorted-mul k t h st) ku su ∙ ap (λ (x : Sum). saturate_sum (add_sums x u)) (mul-is-scale k t h st)
