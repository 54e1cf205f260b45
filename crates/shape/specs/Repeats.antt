-- The first repeat among n places, by any test of two places: `same i k` says that the places i and k hold the same. Assumes nothing.
use Rattle.std.specs.Prelude.{ℕ, ◌<◌, ◌≡◌, Bool, true, false, ltb, leb}
use Rattle.radix.specs.Radix.{first}

-- the first place before k that holds the same as k, or k
abbrev pub earlier_of : (ℕ → ℕ → Bool) → ℕ → ℕ
earlier_of same k = first (λ (i : ℕ). same i k) k

-- what stands at place k stands at an earlier place too
abbrev pub is_repeat : (ℕ → ℕ → Bool) → ℕ → Bool
is_repeat same k = ltb (earlier_of same k) k

-- the later place of the first repeat, searched from the front, or n
unfoldable pub later_in : (ℕ → ℕ → Bool) → ℕ → ℕ
later_in same n = first (is_repeat same) n

-- the earlier place
unfoldable pub earlier_in : (ℕ → ℕ → Bool) → ℕ → ℕ
earlier_in same n = earlier_of same (later_in same n)

-- no two places hold the same
abbrev pub is_free : (ℕ → ℕ → Bool) → ℕ → Bool
is_free same n = leb n (later_in same n)

-- the same as a fact: the places e and l are the first repeat
pub record FirstRepeat (same : ℕ → ℕ → Bool) (n e l : ℕ) : Type 0 where
  pub below : e < l
  pub inside : l < n
  pub alike : same e l ≡ true
  pub first-earlier : (i : ℕ) → i < e → same i l ≡ false
  pub first-later : (i k : ℕ) → i < k → k < l → same i k ≡ false

-- and that no two of n places hold the same
abbrev pub Different : (ℕ → ℕ → Bool) → ℕ → Type 0
Different same n = (i k : ℕ) → i < k → k < n → same i k ≡ false
