-- The parts of a sum at g, term by term. Assumes nothing.
use mathlib.Core.Path.{◌≡◌, refl, ap}
use mathlib.Core.Bool.{Bool, true, false, cond}
use Prim.Native.Nat.{ℕ}
use borrow.Author.Tests.{ne_eqb}
use lib.IntN.{ℤ, pos, negsuc}
use Rattle.folding.specs.Sum.{Atom, Sum}
use Rattle.folding.specs.Fold.{divides, part_p, part_r}
use Rattle.integer.specs.Floor.{floor_div, floor_mod}
use Rattle.expression.specs.Expression.{eqℤ}

pub divides-yes : (z : ℤ) (g : ℕ) → floor_mod z g ≡ pos 0 → divides g z ≡ true
unfolding divides eqℤ
divides-yes z g e = ap (λ (x : ℤ). eqℤ x (pos 0)) e

not-zero : (x : ℤ) → (x ≡ pos 0 → ⊥) → eqℤ x (pos 0) ≡ false
unfolding eqℤ
not-zero (pos n) h = ne_eqb n 0 (λ e. h (ap pos e))
not-zero (negsuc n) h = refl

pub divides-no : (z : ℤ) (g : ℕ) → (floor_mod z g ≡ pos 0 → ⊥) → divides g z ≡ false
unfolding divides
divides-no z g h = not-zero (floor_mod z g) h

module _ (g : ℕ) where
  pub p-const : (k : ℤ) → part_p g (Sum.const k) ≡ Sum.const (floor_div k g)
  unfolding part_p
  p-const k = refl

  pub r-const : (k : ℤ) → part_r g (Sum.const k) ≡ Sum.const (floor_mod k g)
  unfolding part_r
  r-const k = refl

  pub p-stays : (c : ℤ) (a : Atom) (t : Sum) → floor_mod c g ≡ pos 0 → part_p g (Sum.term c a t) ≡ Sum.term (floor_div c g) a (part_p g t)
  unfolding part_p
  p-stays c a t e = ap (λ (b : Bool). cond b (Sum.term (floor_div c g) a (part_p g t)) (part_p g t)) (divides-yes c g e)

  pub p-gone : (c : ℤ) (a : Atom) (t : Sum) → (floor_mod c g ≡ pos 0 → ⊥) → part_p g (Sum.term c a t) ≡ part_p g t
  unfolding part_p
  p-gone c a t e = ap (λ (b : Bool). cond b (Sum.term (floor_div c g) a (part_p g t)) (part_p g t)) (divides-no c g e)

  pub r-gone : (c : ℤ) (a : Atom) (t : Sum) → floor_mod c g ≡ pos 0 → part_r g (Sum.term c a t) ≡ part_r g t
  unfolding part_r
  r-gone c a t e = ap (λ (b : Bool). cond b (part_r g t) (Sum.term c a (part_r g t))) (divides-yes c g e)

  pub r-stays : (c : ℤ) (a : Atom) (t : Sum) → (floor_mod c g ≡ pos 0 → ⊥) → part_r g (Sum.term c a t) ≡ Sum.term c a (part_r g t)
  unfolding part_r
  r-stays c a t e = ap (λ (b : Bool). cond b (part_r g t) (Sum.term c a (part_r g t))) (divides-no c g e)
