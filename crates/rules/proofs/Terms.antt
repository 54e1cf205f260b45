-- What is found of a sum term by term: the next gcd, and whether something leaves. Assumes nothing.
use mathlib.Core.Path.{◌≡◌, refl, sym, ap, ◌∙◌}
use mathlib.Core.Bool.{Bool, true, false}
use mathlib.Core.List.{List, [], ◌∷◌}
use Prim.Native.Nat.{ℕ, ◌-◌}
use native.Mathlib.Omega.{arith}
use borrow.Author.Tests.{eqb-true, eqb-false}
use lib.Dec.{eqb}
use lib.IntN.{ℤ, pos, nat_abs}
use mir.Syntax.{w64}
use mir.Val.{SFits, to_z, of_z}
use mir.Facts.{to_z-of_z}
use lib.ListN.{drop, get_or}
use Rattle.integer.specs.Gcd.{gcd_of}
use Rattle.integer.specs.Floor.{floor_div, floor_mod}
use Rattle.expression.specs.Expression.{Kind, Range, eqℤ}
use Rattle.folding.specs.Sum.{Atom, Sum, term_count}
use Rattle.folding.specs.Fold.{divides, keeps_all}
use Rattle.words.specs.Words.{term_words, sum_words, constant_of}
use Rattle.words.proofs.Reading.{word-is}
use Rattle.words.proofs.Parts.{divides-yes, divides-no}
use Rattle.words.specs.Promises.{Forward, SkipsAtom}
use Rattle.words.proofs.Skipping.{ahead}
use Rattle.words.proofs.Trial.{try-yes, try-no}
use Rattle.rules.specs.Rules.{larger_below, next_divisor, Nexts, Keeps}
use Rattle.rules.proofs.Search.{larger-least, larger-below}

-- the machine's test for 0
pub zero_test : (z : ℤ) → SFits w64 z → eqb (of_z w64 z) 0 ≡ eqℤ z (pos 0)
zero_test z F = go (eqb (of_z w64 z) 0) refl
  where
    go : (b : Bool) → eqb (of_z w64 z) 0 ≡ b → b ≡ eqℤ z (pos 0)
    go true e = try-yes z (pos 0) (sym (to_z-of_z F) ∙ ap (to_z w64) (eqb-true (of_z w64 z) 0 e))
    go false e = try-no z (pos 0) (λ i. eqb-false (of_z w64 z) 0 e (ap (of_z w64) i))

-- what holds of the rest of the terms, and how the first one's coefficient joins it
by-terms : {A : Type 0} (f : Sum → A) (w : List ℤ) (p n q b : ℕ) (r s : A) → (n ≡ 0 → ⊥) → SkipsAtom w p q → Forward w q 1 b
    → ((a : Atom) (t : Sum) → r ≡ f t → s ≡ f (Sum.term (get_or w q (pos 0)) a t))
    → ((β : Kind → ℕ → Range) (t : Sum) (x : List ℤ) → n - 1 ≡ term_count t → drop b w ≡ sum_words β t x → r ≡ f t)
    → (β : Kind → ℕ → Range) (t : Sum) (x : List ℤ) → n ≡ term_count t → drop p w ≡ sum_words β t x → s ≡ f t
unfolding term_count sum_words term_words constant_of
by-terms f w p n q b r s z a g h k β (Sum.const l) x i e = absurd (z i)
by-terms f w p n q b r s z a g h k β (Sum.term c y t) x i e =
    let rest = term_words β t (constant_of t ∷ x) in
    let at = a.past β y (c ∷ rest) e in
    h y t (k β t x (omega arith) (ahead w q 1 b (c ∷ []) rest at refl (omega arith) g))
    ∙ ap (λ (v : ℤ). f (Sum.term v y t)) (word-is w q c rest at)

-- there is no term
no-terms : {A : Type 0} (f : Sum → A) (w : List ℤ) (p n : ℕ) (s : A) → n ≡ 0 → s ≡ f (Sum.const (get_or w p (pos 0)))
    → (β : Kind → ℕ → Range) (t : Sum) (x : List ℤ) → n ≡ term_count t → drop p w ≡ sum_words β t x → s ≡ f t
unfolding term_count sum_words term_words constant_of
no-terms f w p n s z h β (Sum.const k) x i e = h ∙ ap (λ (v : ℤ). f (Sum.const v)) (word-is w p k x e)
no-terms f w p n s z h β (Sum.term c a t) x i e = absurd (omega arith)

module _ (w : List ℤ) (p n c b : ℕ) where
  pub next-none : n ≡ 0 → Nexts w p n c b 1
  unfolding next_divisor
  next-none z = record { low = omega arith; high = λ h. h; is = no-terms (next_divisor c b) w p n 1 z refl }

  pub next_more : (q m r : ℕ) → (n ≡ 0 → ⊥) → SkipsAtom w p q → Forward w q 1 m → Nexts w m (n - 1) c b r → Nexts w p n c b (larger_below b (gcd_of c (nat_abs (get_or w q (pos 0)))) r)
  unfolding next_divisor
  next_more q m r z a f k =
      let g = gcd_of c (nat_abs (get_or w q (pos 0))) in
      record {
        low = omega (arith, k.low, larger-least b g r);
        high = λ h. larger-below b g r (k.high h);
        is = by-terms (next_divisor c b) w p n q m r (larger_below b g r) z a f (λ y t e. ap (larger_below b g) e) k.is;
      }

module _ (w : List ℤ) (p n c : ℕ) where
  pub keeps-last : (r : Bool) → n ≡ 0 → r ≡ eqℤ (floor_div (get_or w p (pos 0)) c) (pos 0) → Keeps w p n c r
  unfolding keeps_all
  keeps-last r z e = record { is = no-terms (keeps_all c) w p n r z e }

  module _ (q b : ℕ) (z : n ≡ 0 → ⊥) (a : SkipsAtom w p q) where
    pub keeps-not : floor_mod (get_or w q (pos 0)) c ≡ pos 0 → Keeps w p n c false
    unfolding keeps_all term_count sum_words term_words constant_of
    keeps-not e = record { is = go }
      where
        go : (β : Kind → ℕ → Range) (t : Sum) (x : List ℤ) → n ≡ term_count t → drop p w ≡ sum_words β t x → false ≡ keeps_all c t
        go β (Sum.const k) x i h = absurd (z i)
        go β (Sum.term v y t) x i h =
            let rest = term_words β t (constant_of t ∷ x) in
            let d : divides c v ≡ true = ap (divides c) (sym (word-is w q v rest (a.past β y (v ∷ rest) h))) ∙ divides-yes (get_or w q (pos 0)) c e in
            sym (rw d refl)

    pub keeps-more : (r : Bool) → Forward w q 1 b → (floor_mod (get_or w q (pos 0)) c ≡ pos 0 → ⊥) → Keeps w b (n - 1) c r → Keeps w p n c r
    unfolding keeps_all
    keeps-more r f e k = record { is = by-terms (keeps_all c) w p n q b r r z a f (λ y t i. i ∙ sym (rw (divides-no (get_or w q (pos 0)) c e) refl)) k.is }
