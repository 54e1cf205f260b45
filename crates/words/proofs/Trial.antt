-- Rule 2 tried. Assumes nothing.
use mathlib.Core.Path.{◌≡◌, refl, sym, ap, ap₂, ◌∙◌}
use mathlib.Core.Bool.{Bool, true, false}
use mathlib.Core.List.{List, [], ◌∷◌, ◌++◌, append_assoc}
use Prim.Native.Nat.{ℕ, ◌+◌, ◌*◌, ◌≤◌}
use native.Mathlib.Omega.{arith}
use borrow.Author.Tests.{eq-eqb, ne_eqb}
use lib.IntN.{ℤ, pos, negsuc, +ℤ_idl}
use lib.ListN.{length, drop}
use Rattle.folding.specs.Sum.{Sum, term_count, sum_range, sum_size}
use Rattle.folding.specs.Working.{small_sum}
use Rattle.folding.specs.Fold.{part_r, one_quotient, quotient_of}
use Rattle.folding.proofs.Size.{size-parts}
use Rattle.integer.specs.Floor.{floor_div}
use Rattle.words.specs.Words.{term_words, sum_words, constant_of}
use Rattle.words.proofs.Room.{words-enough, stands}
use Rattle.words.specs.Promises.{Makes, Reckons, Tries}
use Rattle.words.proofs.TermByTerm.{terms-rest}
use Rattle.words.proofs.Tests.{clash}
use Rattle.expression.specs.Expression.{Kind, Range, eqℤ}

eq_yes : (a b : ℤ) → a ≡ b → eqℤ a b ≡ true
unfolding eqℤ
eq_yes (pos m) b e = ap (λ (z : ℤ). eqℤ (pos m) z) (sym e) ∙ eq-eqb m m refl
eq_yes (negsuc m) b e = ap (λ (z : ℤ). eqℤ (negsuc m) z) (sym e) ∙ eq-eqb m m refl

eq_no : (a b : ℤ) → (a ≡ b → ⊥) → eqℤ a b ≡ false
unfolding eqℤ
eq_no (pos m) (pos n) h = ne_eqb m n (λ e. h (ap pos e))
eq_no (pos m) (negsuc n) h = refl
eq_no (negsuc m) (pos n) h = refl
eq_no (negsuc m) (negsuc n) h = ne_eqb m n (λ e. h (ap negsuc e))

module _ (w : List ℤ) (p n g : ℕ) (o o' : List ℤ) (m r : ℕ) (M : Makes (part_r g) w p n o o' 0 m r) where
  -- R stands in the scratch
  there : (β : Kind → ℕ → Range) (t : Sum) (x : List ℤ) → n ≡ term_count t → drop p w ≡ sum_words β t x → 7 * sum_size t + 1 ≤ length o → drop 0 o' ≡ sum_words β (part_r g t) (drop r o')
  unfolding sum_words
  there β t x h e k =
      let u = part_r g t in
      let s = stands (sum_words β u []) o o' 0 r (omega arith) (omega (arith, words-enough β u, size-parts g t)) M.high M.same (M.made β t x h e).0 in
      s.1 ∙ (ap (λ (l : List ℤ). l ++ drop r o') (terms-rest β u (constant_of u ∷ [])) ∙ append_assoc (term_words β u []) (constant_of u ∷ []) (drop r o') ∙ sym (terms-rest β u (constant_of u ∷ drop r o')))

  pub no_room : (l h : ℤ) → Reckons o' 0 m (pos 0) (pos 0) false l h → (q : ℤ) → Tries w p n g (length o) false false q
  unfolding small_sum
  no_room l h R q = record { is = λ β t x e f k. R.is β (part_r g t) (drop r o') (M.made β t x e f).1 (there β t x e f k); fits = λ β t x e f k y. clash y }

  pub of-try : (l h : ℤ) → Reckons o' 0 m (pos 0) (pos 0) true l h → (fit : Bool) → fit ≡ eqℤ (floor_div l g) (floor_div h g) → Tries w p n g (length o) true fit (floor_div l g)
  unfolding small_sum one_quotient quotient_of
  of-try l h R fit e0 = record {
    is = λ β t x e f k. R.is β (part_r g t) (drop r o') (M.made β t x e f).1 (there β t x e f k);
    fits = λ β t x e f k y.
        let u = part_r g t in
        let E = R.ends β u (drop r o') (M.made β t x e f).1 (there β t x e f k) refl in
        let a : l ≡ (sum_range u β).lo = E.0 ∙ +ℤ_idl (sum_range u β).lo in
        let b : h ≡ (sum_range u β).hi = E.1 ∙ +ℤ_idl (sum_range u β).hi in
        (e0 ∙ ap₂ (λ (x y : ℤ). eqℤ (floor_div x g) (floor_div y g)) a b, ap (λ (z : ℤ). floor_div z g) a);
  }

pub try-yes : (a b : ℤ) → a ≡ b → true ≡ eqℤ a b
try-yes a b e = sym (eq_yes a b e)

pub try-no : (a b : ℤ) → (a ≡ b → ⊥) → false ≡ eqℤ a b
try-no a b e = sym (eq_no a b e)
