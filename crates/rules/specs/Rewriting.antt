-- What the parts of rewriting promise over words: a sum judged, settled in its place, held, and joined. Assumes nothing.
use Rattle.std.specs.Prelude.{◌≡◌, Bool, true, List, [], ℕ, ◌+◌, ◌≤◌, ℤ, length, drop, take}
use Rattle.expression.specs.Expression.{Kind, Range}
use Rattle.folding.specs.Sum.{Sum, term_count}
use Rattle.folding.specs.Working.{small_sum}
use Rattle.words.specs.Words.{sum_words}
use Rattle.words.specs.Merged.{blended}
use Rattle.rules.specs.Outcome.{max_terms}

-- whether the sum of n terms at p keeps the limits
pub record Judges (w : List ℤ) (p n : ℕ) (small : Bool) : Type 0 where
  pub is : (β : Kind → ℕ → Range) (t : Sum) (x : List ℤ) → n ≡ term_count t → drop p w ≡ sum_words β t x → small ≡ small_sum β t

-- a sum written at p, whatever it is: what stands before p is kept
pub record Written (w w' : List ℤ) (p terms end : ℕ) : Type 0 where
  pub same : length w' ≡ length w
  pub below : take p w' ≡ take p w
  pub low : p ≤ end
  pub high : end ≤ length w
  pub few : terms ≤ max_terms

-- the sum t, judged, and where it is small written at p
pub record Settled (β : Kind → ℕ → Range) (t : Sum) (w' : List ℤ) (p : ℕ) (small : Bool) (terms end : ℕ) : Type 0 where
  pub judged : small ≡ small_sum β t
  pub standing : small ≡ true → drop p (take end w') ≡ sum_words β t []
  pub counted : small ≡ true → terms ≡ term_count t

-- the sum made up to `to`
pub record Settles (made : List ℤ) (n to : ℕ) (w w' : List ℤ) (p : ℕ) (small : Bool) (terms end : ℕ) : Type 0 where
  pub written : Written w w' p terms end
  pub settled : (β : Kind → ℕ → Range) (t : Sum) → n ≡ term_count t → n ≤ max_terms → take to made ≡ sum_words β t []
      → p + length (sum_words β t []) ≤ length w → Settled β t w' p small terms end

-- the words that stand behind `to`, written at p, and the words before it written behind them
pub record Holds (made : List ℤ) (to restTo : ℕ) (w w' : List ℤ) (p r : ℕ) : Type 0 where
  pub same : length w' ≡ length w
  pub below : take p w' ≡ take p w
  pub low : p ≤ r
  pub high : r ≤ length w
  pub both : (rest front : List ℤ) → drop to (take restTo made) ≡ rest → take to made ≡ front → p + (length rest + length front) ≤ length w
      → (r ≡ p + length rest) × (drop p (take r w') ≡ rest) × (take (length front) (drop r w') ≡ front)

-- factor times the sum t at a, and the sum u at p
pub record Joins (factor : ℤ) (w w' : List ℤ) (a n p m scratch : ℕ) (small : Bool) (terms end : ℕ) : Type 0 where
  pub written : Written w w' p terms end
  pub settled : (β : Kind → ℕ → Range) (t u : Sum) (x y : List ℤ) → n ≡ term_count t → m ≡ term_count u
      → drop a w ≡ sum_words β t x → drop p w ≡ sum_words β u y
      → term_count (blended factor t u) ≤ max_terms → length (sum_words β (blended factor t u) []) ≤ scratch
      → p + length (sum_words β (blended factor t u) []) ≤ length w → Settled β (blended factor t u) w' p small terms end
