-- Lists of dimensions: in range, free of repeats, a permutation. Assumes nothing.
use Rattle.std.specs.Prelude.{ℕ, ◌<◌, Bool, ◌&&◌, cond, List, [], ltb, eqb, length, get_or, Option, Some, None}
use Rattle.radix.specs.Radix.{every, first}
use Rattle.refusal.specs.Number.{Answer, done, refusal}
use Rattle.refusal.specs.declared.Refusal.TheVariants.{Repeat}
use Rattle.shape.specs.Repeats.{is_repeat, later_in, earlier_in, is_free}

-- the first place of the dimension j in the list, or the list's length
unfoldable pub place : ℕ → List ℕ → ℕ
place j xs = first (λ (k : ℕ). eqb (get_or xs k 0) j) (length xs)

-- every dimension is below n
unfoldable pub in_range : ℕ → List ℕ → Bool
in_range n xs = every (λ (k : ℕ). ltb (get_or xs k 0) n) (length xs)

-- two places hold the same dimension
abbrev pub same_dimension : List ℕ → ℕ → ℕ → Bool
same_dimension xs i k = eqb (get_or xs i 0) (get_or xs k 0)

-- what stands at place k stands at an earlier place too
abbrev pub repeats : List ℕ → ℕ → Bool
repeats xs k = is_repeat (same_dimension xs) k

-- the later place of the first repeat, or the list's length
abbrev pub later_place : List ℕ → ℕ
later_place xs = later_in (same_dimension xs) (length xs)

-- the earlier place
abbrev pub earlier_place : List ℕ → ℕ
earlier_place xs = earlier_in (same_dimension xs) (length xs)

abbrev pub free : List ℕ → Bool
free xs = is_free (same_dimension xs) (length xs)

-- the first two places that hold the same, the later one searched from the front
unfoldable pub first_pair : List ℕ → Option (ℕ × ℕ)
first_pair xs = cond (free xs) None (Some (earlier_place xs, later_place xs))

-- the first repeat refuses, with the earlier and the later place
unfoldable pub first_repeat : List ℕ → Answer ℕ
first_repeat xs = cond (free xs) (done []) (refusal [] (Repeat (earlier_place xs) (later_place xs)))

-- a permutation of the numbers below the length: in range and free of repeats
unfoldable pub is_permutation : List ℕ → Bool
is_permutation xs = in_range (length xs) xs && free xs

-- the same as a fact: every number below the length has its place, and nothing else stands there
pub record Permutation (xs : List ℕ) : Type 0 where
  pub inside : (k : ℕ) → k < length xs → get_or xs k 0 < length xs
  pub onto : (j : ℕ) → j < length xs → place j xs < length xs
