-- Laws of permutations: what the test says, and lists read from their end. Assumes nothing.
use mathlib.Core.Path.{◌≡◌, sym, ap, ◌∙◌}
use mathlib.Core.Bool.{true}
use mathlib.Core.Logic.{⊎_elim}
use Prim.Native.Nat.{ℕ, ◌<◌, ◌≤◌}
use native.Mathlib.Omega.{arith}
use mathlib.Core.List.{List}
use lib.Dec.{ltb}
use lib.ListN.{length, get_or}
use borrow.Author.Tests.{lt-ltb, ltb-true, ne_eqb, eqb-false}
use Rattle.radix.proofs.Tests.{every-all, every-at, and_left, and_right, and-true}
use Rattle.radix.proofs.Lists.{le-or-lt}
use Rattle.radix.proofs.Pigeonhole.{none-left-out}
use Rattle.shape.specs.Dimensions.{place, in_range, same_dimension, free, is_permutation, Permutation}
use Rattle.shape.proofs.FirstRepeats.{different-free, free-different}
use Rattle.shape.proofs.Repeats.{place_at, place-before}

-- no two places hold the same
abbrev pub Apart : List ℕ → Type 0
Apart xs = (i j : ℕ) → i < j → j < length xs → get_or xs i 0 ≡ get_or xs j 0 → ⊥

-- the place of a dimension is at most any place that holds it
pub place-le : (j : ℕ) (xs : List ℕ) (k : ℕ) → get_or xs k 0 ≡ j → place j xs ≤ k
place-le j xs k e = ⊎_elim (λ h. h) (λ g. absurd (place-before j xs k g e)) (le-or-lt (place j xs) k)

pub apart-free : (xs : List ℕ) → Apart xs → free xs ≡ true
apart-free xs a = different-free (same_dimension xs) (length xs) (λ i k l h. ne_eqb (get_or xs i 0) (get_or xs k 0) (a i k l h))

pub free-apart : (xs : List ℕ) → free xs ≡ true → Apart xs
free-apart xs e i j l h = eqb-false (get_or xs i 0) (get_or xs j 0) (free-different (same_dimension xs) (length xs) e i j l h)

-- the test says that every number has its place
pub permutation-of : (xs : List ℕ) → is_permutation xs ≡ true → Permutation xs
unfolding is_permutation in_range
permutation-of xs e = record { inside = within; onto = onto }
  where
    apart : Apart xs
    apart = free-apart xs (and_right (in_range (length xs) xs) (free xs) e)

    within : (k : ℕ) → k < length xs → get_or xs k 0 < length xs
    within k h = ltb-true (get_or xs k 0) (length xs) (every-at (λ (k : ℕ). ltb (get_or xs k 0) (length xs)) (length xs) (and_left (in_range (length xs) xs) (free xs) e) k h)

    onto : (j : ℕ) → j < length xs → place j xs < length xs
    onto j l =
        ⊎_elim
        (λ (g : length xs ≤ place j xs). absurd (none-left-out (length xs) (λ (k : ℕ). get_or xs k 0) j l within apart (λ k h q. place-before j xs k (omega arith) q)))
        (λ h. h)
        (le-or-lt (length xs) (place j xs))

-- and only then
pub permutation-is : (xs : List ℕ) → Permutation xs → is_permutation xs ≡ true
unfolding is_permutation in_range
permutation-is xs p =
    and-true
    (every-all (λ (k : ℕ). ltb (get_or xs k 0) (length xs)) (length xs) (λ k h. lt-ltb (get_or xs k 0) (length xs) (p.inside k h)))
    (apart-free xs (λ i j l h q. none-left-out (length xs) (λ (k : ℕ). place k xs) j h p.onto places-differ (λ k g r. misses i j l q k g r)))
  where
    places-differ : (a b : ℕ) → a < b → b < length xs → place a xs ≡ place b xs → ⊥
    places-differ a b l h e =
        let q : a ≡ b = sym (place_at a xs (p.onto a (omega arith))) ∙ ap (λ (k : ℕ). get_or xs k 0) e ∙ place_at b xs (p.onto b h) in
        omega arith

    misses : (i j : ℕ) → i < j → get_or xs i 0 ≡ get_or xs j 0 → (k : ℕ) → k < length xs → place k xs ≡ j → ⊥
    misses i j l q k g r =
        let v : get_or xs i 0 ≡ k = q ∙ ap (λ (m : ℕ). get_or xs m 0) (sym r) ∙ place_at k xs (p.onto k g) in
        omega (arith, place-le k xs i v)
