-- Re-tiling as single stores: the cells of a destination and its mark, what one store leaves, and the list of stores of a call. Assumes nothing.
use Rattle.std.specs.Prelude.{ℕ, zero, suc, ◌+◌, ◌-◌, ◌<◌, ◌≤◌, min, List, [], ◌∷◌, ◌++◌, set}

-- one store: a value into the cell at an offset, or a number into the mark
pub data Store : Type 0 where
  cell : ℕ → ℕ → Store
  mark : ℕ → Store

-- what a cut leaves: the cells of the destination, and the mark that says how many of them are final
pub record Memory : Type 0 where
  pub cells : List ℕ
  pub mark : ℕ

abbrev pub memory : List ℕ → ℕ → Memory
memory cells m = record { cells = cells; mark = m }

-- what one store leaves
abbrev pub apply : Store → Memory → Memory
apply (cell o v) M = memory (set M.cells o v) M.mark
apply (mark m) M = memory M.cells m

-- and a list of stores, the first one first
abbrev pub apply_all : List Store → Memory → Memory
apply_all [] M = M
apply_all (x ∷ xs) M = apply_all xs (apply x M)

-- the stores that settle n cells from mark m on, where f o is the value of cell o: cell m, mark m + 1, cell m + 1, mark m + 2, ..
abbrev pub stores : (ℕ → ℕ) → ℕ → ℕ → List Store
stores f m zero = []
stores f m (suc n) = cell m (f m) ∷ (mark (m + 1) ∷ stores f (m + 1) n)

-- how many cells a call with allowance n settles at mark m: the smaller of n and what remains of size cells
abbrev pub settled : ℕ → ℕ → ℕ → ℕ
settled size m n = min n (size - m)

-- the stores of a call with allowance n at mark m
abbrev pub stores_of : (ℕ → ℕ) → ℕ → ℕ → ℕ → List Store
stores_of f size m n = stores f m (settled size m n)

-- the stores of calls with these allowances, one after another, from mark m on
abbrev pub stores_of_calls : (ℕ → ℕ) → ℕ → ℕ → List ℕ → List Store
stores_of_calls f size m [] = []
stores_of_calls f size m (n ∷ ns) = stores_of f size m n ++ stores_of_calls f size (m + settled size m n) ns

-- a store into a cell from m on and below size, or into the mark, of a number above m and at most size
abbrev pub Inside : ℕ → ℕ → Store → Type 0
Inside m size (cell o v) = (m ≤ o) × (o < size)
Inside m size (mark k) = (m < k) × (k ≤ size)

-- and so each store of a list
abbrev pub AllInside : ℕ → ℕ → List Store → Type 0
AllInside m size [] = Unit
AllInside m size (x ∷ xs) = Inside m size x × AllInside m size xs

-- the sum of the allowances
abbrev pub sum : List ℕ → ℕ
sum [] = 0
sum (n ∷ ns) = n + sum ns
