-- The order of words, word by word. Assumes nothing.
use mathlib.Core.Path.{◌≡◌, refl, sym, ap, ap₂, ◌∙◌}
use mathlib.Core.Bool.{Bool, true, false}
use mathlib.Core.List.{List, []}
use Prim.Native.Nat.compare
use Prim.Native.Nat.{Ordering}
use Prim.Native.Nat.{ℕ, zero, suc, ◌+◌, ◌^◌, ◌<◌, ◌≤◌, compare}
use native.Mathlib.Omega.{arith}
use native.Mathlib.Numerals.{add-one}
use lib.Dec.{ltb, leb-zero, leb-suc-zero, leb-suc-suc}
use lib.IntN.{ℤ, pos, negsuc}
use lib.Signed.{lt_z, mag}
use lib.ListN.{length, drop, get_or}
use lib.Seq.{drop-cons, drop-length}
use mir.Syntax.{w64}
use mir.Val.{to_z, of_z, hbits}
use mir.ValLaws.{to_z-of_z}
use Rattle.folding.specs.Sum.{integer_order, then_by}
use Rattle.words.specs.Words.{word_order}
use Rattle.words.proofs.Tests.{clash}

-- what the machine's test of two words says
pub flag_is : (x y : ℤ) (b : Bool) → mag x < 2 ^ hbits w64 → mag y < 2 ^ hbits w64 → lt_z (to_z w64 (of_z w64 x)) (to_z w64 (of_z w64 y)) ≡ b → lt_z x y ≡ b
flag_is x y b h k e = ap₂ (λ u v. lt_z u v) (sym (to_z-of_z w64 x (record { sfits = h }))) (sym (to_z-of_z w64 y (record { sfits = k }))) ∙ e

-- how the test stands to the order
nat-less : (a b : ℕ) → ltb a b ≡ true → compare a b ≡ Ordering.lt
nat-less zero zero e = clash e
nat-less zero (suc b) e = compare.zero-suc b
nat-less (suc a) zero e = clash (sym (leb-suc-zero (suc a)) ∙ e)
nat-less (suc a) (suc b) e = compare.suc-suc a b ∙ nat-less a b (sym (leb-suc-suc (suc a) b) ∙ e)

nat-greater : (a b : ℕ) → ltb b a ≡ true → compare a b ≡ Ordering.gt
nat-greater zero zero e = clash e
nat-greater zero (suc b) e = clash (sym (leb-suc-zero (suc b)) ∙ e)
nat-greater (suc a) zero e = compare.suc-zero a
nat-greater (suc a) (suc b) e = compare.suc-suc a b ∙ nat-greater a b (sym (leb-suc-suc (suc b) a) ∙ e)

nat-equal : (a b : ℕ) → ltb a b ≡ false → ltb b a ≡ false → compare a b ≡ Ordering.eq
nat-equal zero zero e f = compare.zero-zero
nat-equal zero (suc b) e f = clash (sym e ∙ leb-suc-suc zero b ∙ leb-zero b)
nat-equal (suc a) zero e f = clash (sym f ∙ leb-suc-suc zero a ∙ leb-zero a)
nat-equal (suc a) (suc b) e f = compare.suc-suc a b ∙ nat-equal a b (sym (leb-suc-suc (suc a) b) ∙ e) (sym (leb-suc-suc (suc b) a) ∙ f)

less : (x y : ℤ) → lt_z x y ≡ true → integer_order x y ≡ Ordering.lt
unfolding integer_order
less (pos a) (pos b) e = nat-less a b e
less (pos a) (negsuc b) e = clash e
less (negsuc a) (pos b) e = refl
less (negsuc a) (negsuc b) e = nat-less b a e

greater : (x y : ℤ) → lt_z y x ≡ true → integer_order x y ≡ Ordering.gt
unfolding integer_order
greater (pos a) (pos b) e = nat-greater a b e
greater (pos a) (negsuc b) e = refl
greater (negsuc a) (pos b) e = clash e
greater (negsuc a) (negsuc b) e = nat-greater b a e

equal : (x y : ℤ) → lt_z x y ≡ false → lt_z y x ≡ false → integer_order x y ≡ Ordering.eq
unfolding integer_order
equal (pos a) (pos b) e f = nat-equal a b e f
equal (pos a) (negsuc b) e f = clash (sym f)
equal (negsuc a) (pos b) e f = clash (sym e)
equal (negsuc a) (negsuc b) e f = nat-equal b a e f

-- ---- one turn of the loop
module _ (a b : List ℤ) (i : ℕ) (h : i < length a) (k : i < length b) where
  turn : word_order (drop i a) (drop i b) ≡ then_by (integer_order (get_or a i (pos 0)) (get_or b i (pos 0))) (word_order (drop (suc i) a) (drop (suc i) b))
  unfolding word_order
  turn = ap₂ (λ u v. word_order u v) (drop-cons a i (pos 0) h) (drop-cons b i (pos 0) k)

  pub turn-lt : lt_z (get_or a i (pos 0)) (get_or b i (pos 0)) ≡ true → word_order (drop i a) (drop i b) ≡ Ordering.lt
  unfolding then_by
  turn-lt e = turn ∙ ap (λ o. then_by o (word_order (drop (suc i) a) (drop (suc i) b))) (less _ _ e)

  pub turn-gt : lt_z (get_or b i (pos 0)) (get_or a i (pos 0)) ≡ true → word_order (drop i a) (drop i b) ≡ Ordering.gt
  unfolding then_by
  turn-gt e = turn ∙ ap (λ o. then_by o (word_order (drop (suc i) a) (drop (suc i) b))) (greater _ _ e)

  pub turn-eq : lt_z (get_or a i (pos 0)) (get_or b i (pos 0)) ≡ false → lt_z (get_or b i (pos 0)) (get_or a i (pos 0)) ≡ false → word_order (drop i a) (drop i b) ≡ word_order (drop (i + 1) a) (drop (i + 1) b)
  unfolding then_by
  turn-eq e f = rw add-one (turn ∙ ap (λ o. then_by o (word_order (drop (suc i) a) (drop (suc i) b))) (equal _ _ e f))

drop-end : (a : List ℤ) (i : ℕ) → i ≤ length a → length a ≤ i → drop i a ≡ []
drop-end a i h k = let e : i ≡ length a = omega arith in ap (λ (n : ℕ). drop n a) e ∙ drop-length a

module _ (a b : List ℤ) (i : ℕ) (h : i ≤ length a) (k : i ≤ length b) where
  pub end_lt : length a ≤ i → i < length b → word_order (drop i a) (drop i b) ≡ Ordering.lt
  unfolding word_order
  end_lt e f = ap₂ (λ u v. word_order u v) (drop-end a i h e) (drop-cons b i (pos 0) f)

  pub end-gt : i < length a → length b ≤ i → word_order (drop i a) (drop i b) ≡ Ordering.gt
  unfolding word_order
  end-gt e f = ap₂ (λ u v. word_order u v) (drop-cons a i (pos 0) e) (drop-end b i k f)

  pub end-eq : length a ≤ i → length b ≤ i → word_order (drop i a) (drop i b) ≡ Ordering.eq
  unfolding word_order
  end-eq e f = ap₂ (λ u v. word_order u v) (drop-end a i h e) (drop-end b i k f)
