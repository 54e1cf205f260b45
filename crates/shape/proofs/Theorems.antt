-- The theorems on shapes and lists of dimensions. Assumes nothing.
use Rattle.std.specs.Prelude.{Option, Some, None}
use mathlib.Core.Path.{◌≡◌, refl, sym, ap}
use mathlib.Core.Bool.{Bool, true, false, cond}
use mathlib.Core.Logic.{◌↔◌}
use mathlib.Core.List.{List, []}
use Prim.Native.Nat.{ℕ, ◌<◌}
use lib.Dec.{ltb}
use lib.ListN.{length, get_or}
use borrow.Author.Tests.{lt-leb, lt-ltb, leb-false, eq-eqb, eqb-true}
use Rattle.radix.specs.Radix.{row_major, digits, In}
use Rattle.radix.proofs.Radix.{below, digits-row_major, row_major-digits, digits_in}
use Rattle.radix.proofs.Tests.{and_right, and-true, every-all}
use Rattle.refusal.specs.Number.{done, refusal}
use Rattle.refusal.specs.declared.Refusal.TheVariants.{Repeat}
use Rattle.shape.specs.Shape.{sizes_of, count_of}
use Rattle.shape.specs.Repeats.{FirstRepeat}
use Rattle.shape.specs.Dimensions.{in_range, same_dimension, repeats, later_place, earlier_place, free, first_pair, first_repeat, is_permutation, Permutation}
use Rattle.shape.specs.declared.Shape.{Shape}
use Rattle.shape.proofs.FirstRepeats.{no-repeat, first_found, some-repeat}
use Rattle.shape.proofs.Repeats.{pair-found}
use Rattle.shape.proofs.Permutations.{apart-free, free-apart, permutation-of, permutation-is}

-- The number of a point is one of the shape's elements, and the point of that number is the point.
pub point-number : (s : Shape) (point : List ℕ) → In point (sizes_of s) → (row_major (sizes_of s) point < count_of s) × (digits (sizes_of s) (row_major (sizes_of s) point) ≡ point)
point-number s point i = (below i, digits-row_major i)

-- The point of an element lies inside, and its number is the element.
pub number-point : (s : Shape) (n : ℕ) → n < count_of s → In (digits (sizes_of s) n) (sizes_of s) × (row_major (sizes_of s) (digits (sizes_of s) n) ≡ n)
number-point s n h = (digits_in (sizes_of s) n h, row_major-digits (sizes_of s) n h)

-- The judging of a permutation agrees with 'in range and free of repeats': every dimension is below the length, and no two places hold the same.
pub permutation-judged : (xs : List ℕ) → (is_permutation xs ≡ true) ↔ (((k : ℕ) → k < length xs → get_or xs k 0 < length xs) × ((i j : ℕ) → i < j → j < length xs → get_or xs i 0 ≡ get_or xs j 0 → ⊥))
unfolding is_permutation in_range
permutation-judged xs = (
  λ e. ((permutation-of xs e).inside, free-apart xs (and_right (in_range (length xs) xs) (free xs) e)),
  λ p. and-true (every-all (λ (k : ℕ). ltb (get_or xs k 0) (length xs)) (length xs) (λ k h. lt-ltb (get_or xs k 0) (length xs) (p.0 k h))) (apart-free xs p.1),
)

-- And with 'every number below the length has its place, and nothing else stands there'.
pub permutation-onto : (xs : List ℕ) → (is_permutation xs ≡ true) ↔ Permutation xs
permutation-onto xs = (permutation-of xs, permutation-is xs)

-- The first two places that hold the same are the first repeat, the later one searched from the front.
pub pair-exactly : (xs : List ℕ) (e l : ℕ) → (first_pair xs ≡ Some (e, l)) ↔ FirstRepeat (same_dimension xs) (length xs) e l
unfolding first_pair
pair-exactly xs e l = (λ q. go (free xs) refl q, λ f. sym (pair-found xs f))
  where
    go : (b : Bool) → free xs ≡ b → cond {A = Option (ℕ × ℕ)} b None (Some (earlier_place xs, later_place xs)) ≡ Some (e, l) → FirstRepeat (same_dimension xs) (length xs) e l
    go true f q = cc
    go false f q =
        let s : ◌≡◌ {A = ℕ × ℕ} (earlier_place xs, later_place xs) (e, l) = cc in
        let a : earlier_place xs ≡ e = ap (λ (p : ℕ × ℕ). p.0) s in
        let b : later_place xs ≡ l = ap (λ (p : ℕ × ℕ). p.1) s in
        rw (← a, ← b) (first_found (same_dimension xs) (length xs) (leb-false (length xs) (later_place xs) f))

-- There are none exactly where no two places hold the same.
pub pair-nowhere : (xs : List ℕ) → (first_pair xs ≡ None) ↔ ((i j : ℕ) → i < j → j < length xs → get_or xs i 0 ≡ get_or xs j 0 → ⊥)
unfolding first_pair
pair-nowhere xs = (λ q. free-apart xs (go (free xs) q), λ a. rw (apart-free xs a))
  where
    go : (b : Bool) → cond {A = Option (ℕ × ℕ)} b None (Some (earlier_place xs, later_place xs)) ≡ None → b ≡ true
    go true q = refl
    go false q = cc

-- A list without repeats is answered done; a repeat is refused with the first later place whose dimension stands at an earlier place, and that place.
pub repeat-absent : (xs : List ℕ) → ((i j : ℕ) → i < j → j < length xs → get_or xs i 0 ≡ get_or xs j 0 → ⊥) → first_repeat xs ≡ done []
unfolding first_repeat
repeat-absent xs a = rw (apart-free xs a)

pub repeat-first : (xs : List ℕ) → later_place xs < length xs
    → (first_repeat xs ≡ refusal [] (Repeat (earlier_place xs) (later_place xs))) × (earlier_place xs < later_place xs) × (get_or xs (earlier_place xs) 0 ≡ get_or xs (later_place xs) 0)
    × ((k : ℕ) → k < later_place xs → repeats xs k ≡ false)
unfolding first_repeat
repeat-first xs h =
    let F = first_found (same_dimension xs) (length xs) h in (
      rw (lt-leb (length xs) (later_place xs) h),
      F.below,
      eqb-true (get_or xs (earlier_place xs) 0) (get_or xs (later_place xs) 0) F.alike,
      λ k l. no-repeat (same_dimension xs) k (λ i g. F.first-later i k g l),
    )

-- A list in which two places hold the same has such a first repeat.
pub repeat-exists : (xs : List ℕ) (i j : ℕ) → i < j → j < length xs → get_or xs i 0 ≡ get_or xs j 0 → later_place xs < length xs
repeat-exists xs i j l h e = (some-repeat (same_dimension xs) (length xs) i j l h (eq-eqb (get_or xs i 0) (get_or xs j 0) e)).inside
