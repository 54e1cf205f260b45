-- Arrays that hold a list from their front on, and the same past it. Assumes nothing.
use mathlib.Core.Path.{◌≡◌, refl, ap, ◌∙◌}
use mathlib.Core.List.{List, [], ◌∷◌, ◌++◌}
use Prim.Native.Nat.{ℕ, zero, suc, ◌<◌, ◌≤◌}
use native.Mathlib.Nat.{zero-add}
use native.Mathlib.Omega.{arith}
use lib.ListN.{length, get_or, drop, set, replicate, length-replicate}
use lib.Seq.{sets, length-sets, sets-eq}
use Rattle.encoding.specs.Encode.{filled}
use Rattle.encoding.proofs.Stored.{sets-append}

module _ {A : Type 0} where
  sets-cons : (y : A) (l : List A) (i : ℕ) (xs : List A) → sets (y ∷ l) (suc i) xs ≡ y ∷ sets l i xs
  sets-cons y l i [] = refl
  sets-cons y l i (x ∷ xs) = sets-cons y (set l i x) (suc i) xs

  pub filled-length : (n : ℕ) (z : A) (xs : List A) → length (filled n z xs) ≡ n
  filled-length n z xs = length-sets (replicate n z) 0 xs ∙ length-replicate n z

  filled-cons : (n : ℕ) (z x : A) (xs : List A) → filled (suc n) z (x ∷ xs) ≡ x ∷ filled n z xs
  filled-cons n z x xs = sets-cons x (replicate n z) 0 xs

  zeros : (n k : ℕ) (z : A) → get_or (replicate n z) k z ≡ z
  zeros zero k z = refl
  zeros (suc n) zero z = refl
  zeros (suc n) (suc k) z = zeros n k z

  -- the entries
  pub filled_at : (n : ℕ) (z : A) (xs : List A) (k : ℕ) → k < n → get_or (filled n z xs) k z ≡ get_or xs k z
  filled_at n z [] k h = zeros n k z
  filled_at zero z (x ∷ xs) k h = absurd (omega arith)
  filled_at (suc n) z (x ∷ xs) zero h = ap (λ (l : List A). get_or l zero z) (filled-cons n z x xs)
  filled_at (suc n) z (x ∷ xs) (suc k) h = ap (λ (l : List A). get_or l (suc k) z) (filled-cons n z x xs) ∙ filled_at n z xs k (omega arith)

  -- the list and a rest, where there is room
  pub filled_is : (n : ℕ) (z : A) (xs : List A) → length xs ≤ n → filled n z xs ≡ xs ++ drop (length xs) (replicate n z)
  filled_is n z xs h =
      sets-eq xs (replicate n z) 0 (omega (arith, length-replicate n z))
      ∙ ap (λ (k : ℕ). xs ++ drop k (replicate n z)) (zero-add (length xs))

  -- one entry more
  pub filled_next : (n : ℕ) (z : A) (xs : List A) (x : A) → filled n z (xs ++ (x ∷ [])) ≡ set (filled n z xs) (length xs) x
  filled_next n z xs x =
      sets-append (replicate n z) 0 xs (x ∷ []) ∙ ap (λ (k : ℕ). set (filled n z xs) k x) (zero-add (length xs))
