-- The derived order of weights is the order of their values. Assumes nothing.
use Rattle.std.proofs.Common.{ℕ, ◌<◌, ◌≤◌, ◌≡◌, Bool, true, false, refl, sym, ltb, min, ◌∙◌, ap, arith, Option, Some, Ordering, Less, Equal, Greater}
use lib.Dec.{eqb}
use Rattle.std.specs.Ordering.{nat_cmp, ordering_then, partial_ordering_then, is_lt, is_le, is_some_and, ord_min}
use mathlib.Core.Bool.{cond}
use native.Mathlib.Decide.{dec_lt}
use native.Mathlib.Nat.{le_of_lt}
use borrow.Author.Tests.{lt-ltb, le-ltb, eq-eqb, ne_eqb}
use Rattle.tree_planner.specs.declared.Weight.{Weight}
use Rattle.tree_planner.specs.Words.{value_of, Worded, Good}
use Rattle.tree_planner.proofs.Adding.{value-lt, value-high, value_mid, value_low, less-top, less-high, less-mid, less-low, smaller-second, smaller-first}

-- field by field, as a derived order compares
abbrev pub by_words : Weight → Weight → Ordering
by_words a b =
    ordering_then (nat_cmp a.top b.top)
    (ordering_then (nat_cmp a.high b.high) (ordering_then (nat_cmp a.mid b.mid) (nat_cmp a.low b.low)))

abbrev pub partly_by_words : Weight → Weight → Option Ordering
partly_by_words a b =
    partial_ordering_then (Some (nat_cmp a.top b.top))
    (partial_ordering_then (Some (nat_cmp a.high b.high))
    (partial_ordering_then (Some (nat_cmp a.mid b.mid)) (Some (nat_cmp a.low b.low))))

then_is : (o p : Ordering) → partial_ordering_then (Some o) (Some p) ≡ Some (ordering_then o p)
then_is Less p = refl
then_is Equal p = refl
then_is Greater p = refl

partly_is : (a b : Weight) → partly_by_words a b ≡ Some (by_words a b)
partly_is a b = rw (then_is, then_is, then_is) refl

-- the first number that differs decides
first : (x y : ℕ) (o : Ordering) (t : Bool) → ((x ≡ y → ⊥) → ltb x y ≡ t) → (x ≡ y → is_lt o ≡ t) → is_lt (ordering_then (nat_cmp x y) o) ≡ t
first x y o t f g =
    elim (dec_lt x y) [
      | yes l ↦ simp (lt-ltb x y l) (sym (lt-ltb x y l) ∙ f (λ e. omega arith))
      | no n ↦
          elim (dec_lt y x) [
            | yes l ↦ let h : y ≤ x = omega arith in simp (le-ltb x y h, ne_eqb x y (λ e. omega arith)) (sym (le-ltb x y h) ∙ f (λ e. omega arith))
            | no m ↦ let e : x ≡ y = omega arith in let h : y ≤ x = omega arith in simp (le-ltb x y h, eq-eqb x y e) (g e)
          ]
    ]

last : (x y : ℕ) → is_lt (nat_cmp x y) ≡ ltb x y
last x y = by_tests (ltb x y) (eqb x y)
  where
    by_tests : (s t : Bool) → is_lt (cond s Less (cond t Equal Greater)) ≡ s
    by_tests true t = refl
    by_tests false true = refl
    by_tests false false = refl

module _ (a b : Weight) (A : Worded a) (B : Worded b) where
  less-is : is_lt (by_words a b) ≡ ltb (value_of a) (value_of b)
  less-is =
      first a.top b.top _ _ (less-top a b A B)
      (λ e. first a.high b.high _ _ (less-high a b A B e)
      (λ f. first a.mid b.mid _ _ (less-mid a b A B e f)
      (λ g. last a.low b.low ∙ less-low a b A B e f g)))

  pub below-is : is_some_and is_lt (partly_by_words a b) ≡ ltb (value_of a) (value_of b)
  below-is = ap (is_some_and is_lt) (partly_is a b) ∙ less-is

pub least-of : (a b r : Weight) → Good a → Worded b → r ≡ ord_min by_words a b → (value_of r ≡ min (value_of a) (value_of b)) × Good r
least-of a b r A B e = go (is_lt (by_words b a)) (less-is b a B A.words) e
  where
    go :
        (t : Bool) → t ≡ ltb (value_of b) (value_of a) → r ≡ cond t b a → (value_of r ≡ min (value_of a) (value_of b)) × Good r
    go true q p = rw p (smaller-second a b true A B q refl)
    go false q p = rw p (smaller-first a b false q refl, A)

clash : {X : Type 0} → false ≡ true → X
clash e = let z : ◌≡◌ {A = ℕ} 0 1 = cc in absurd (omega arith)

-- the first number that differs decides, up to
up : (x y p q : ℕ) (o : Ordering) → (x < y → p ≤ q) → (x ≡ y → is_le o ≡ true → p ≤ q) → is_le (ordering_then (nat_cmp x y) o) ≡ true → p ≤ q
up x y p q o f g h =
    elim (dec_lt x y) [
      | yes l ↦ f l
      | no n ↦
          elim (dec_lt y x) [
            | yes l ↦ let k : y ≤ x = omega arith in let z : is_le (ordering_then (nat_cmp x y) o) ≡ false = simp (le-ltb x y k, ne_eqb x y (λ e. omega arith)) refl in clash (sym z ∙ h)
            | no m ↦ let e : x ≡ y = omega arith in let k : y ≤ x = omega arith in let z : is_le (ordering_then (nat_cmp x y) o) ≡ is_le o = simp (le-ltb x y k, eq-eqb x y e) refl in g e (sym z ∙ h)
          ]
    ]

up-last : (x y : ℕ) → is_le (nat_cmp x y) ≡ true → x ≤ y
up-last x y h =
    elim (dec_lt y x) [
      | yes l ↦ let k : y ≤ x = omega arith in let z : is_le (nat_cmp x y) ≡ false = simp (le-ltb x y k, ne_eqb x y (λ e. omega arith)) refl in clash (sym z ∙ h)
      | no n ↦ omega arith
    ]

-- the words of b may be large
pub up-to : (a b : Weight) → Worded a → is_some_and is_le (partly_by_words a b) ≡ true → value_of a ≤ value_of b
up-to a b A h =
    up a.top b.top _ _ _ (λ l. le_of_lt (value-lt a b A l))
    (λ e. up a.high b.high _ _ _ (λ l. le_of_lt (value-high a b A e l))
    (λ f. up a.mid b.mid _ _ _ (λ l. le_of_lt (value_mid a b A e f l))
    (λ g i. value_low a b e f g (up-last a.low b.low i))))
    (sym (ap (is_some_and is_le) (partly_is a b)) ∙ h)
