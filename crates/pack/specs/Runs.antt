-- Runs of a table of offsets, within which it goes on by ones, and values copied from place to place. Assumes nothing.
use Rattle.std.specs.Prelude.{ℕ, zero, suc, ◌+◌, ◌*◌, ◌<◌, ◌≤◌, ◌≡◌, List, length, get_or, set}

-- n places of the table from j on go on by ones
abbrev pub GoesOn : List ℕ → ℕ → ℕ → Type 0
GoesOn table j n = (i : ℕ) → i < n → get_or table (j + i) 0 ≡ get_or table j 0 + i

-- the places before j go on by ones in runs of so many, counted from the front
abbrev pub RunsTo : ℕ → List ℕ → ℕ → Type 0
RunsTo run table j = (k i : ℕ) → i < run → k * run + i < j → get_or table (k * run + i) 0 ≡ get_or table (k * run) 0 + i

-- the whole table does; its last run may be shorter
abbrev pub InRuns : ℕ → List ℕ → Type 0
InRuns run table = RunsTo run table (length table)

-- n places of a run from place j on are among the first len: all of them but where the table ends
pub record IsPart (j run len n : ℕ) : Type 0 where
  pub some : 0 < n
  pub narrow : n ≤ run
  pub inside : j + n ≤ len
  pub whole : j + n < len → n ≡ run

-- n values from place a of the source on, at the places from o on
abbrev pub copied : List ℕ → ℕ → ℕ → ℕ → List ℕ → List ℕ
copied source a zero o xs = xs
copied source a (suc n) o xs = set (copied source a n o xs) (o + n) (get_or source (a + n) 0)
