-- Mixed radix: sizes and digits as lists, major first. Product, row-major number, digits, and the tests on them. Assumes nothing.
use Rattle.std.specs.Prelude.{ℕ, zero, suc, ◌+◌, ◌*◌, ◌/◌, ◌%◌, ◌<◌, ◌≤◌, ◌^◌, Bool, true, false, ◌&&◌, cond, List, [], ◌∷◌, length, get_or, ltb, leb}

-- the largest size, and the largest count of elements or cells
abbrev pub max_size : ℕ
max_size = 2 ^ 20

abbrev pub max_count : ℕ
max_count = 2 ^ 40

abbrev pub prod : List ℕ → ℕ
prod [] = 1
prod (d ∷ ds) = d * prod ds

-- the row-major number of the index es over the sizes ds
abbrev pub row_major : List ℕ → List ℕ → ℕ
row_major [] es = 0
row_major (d ∷ ds) [] = 0
row_major (d ∷ ds) (e ∷ es) = e * prod ds + row_major ds es

-- the digits of k over the sizes ds
abbrev pub digits : List ℕ → ℕ → List ℕ
digits [] k = []
digits (d ∷ ds) k = (k / prod ds) ∷ digits ds (k % prod ds)

-- f 0, f 1, .., n entries
abbrev pub tab : (ℕ → ℕ) → ℕ → List ℕ
tab f zero = []
tab f (suc n) = f 0 ∷ tab (λ (k : ℕ). f (suc k)) n

-- the test f holds at every number below n
abbrev pub every : (ℕ → Bool) → ℕ → Bool
every f zero = true
every f (suc n) = every f n && f n

-- the first number below n at which the test f holds, or n
abbrev pub first : (ℕ → Bool) → ℕ → ℕ
first f zero = 0
first f (suc n) = cond (f 0) 0 (suc (first (λ (k : ℕ). f (suc k)) n))

-- every entry is from 1 to most
unfoldable pub is_within : ℕ → List ℕ → Bool
is_within most xs = every (λ (k : ℕ). leb 1 (get_or xs k 0) && leb (get_or xs k 0) most) (length xs)

-- es has one coordinate for each size of ds, and each lies below its size
abbrev pub is_inside : List ℕ → List ℕ → Bool
is_inside [] [] = true
is_inside [] (d ∷ ds) = false
is_inside (e ∷ es) [] = false
is_inside (e ∷ es) (d ∷ ds) = ltb e d && is_inside es ds

-- the same as a fact
pub data In : List ℕ → List ℕ → Type 0 where
  none : In [] []
  more : {e d : ℕ} {es ds : List ℕ} → e < d → In es ds → In (e ∷ es) (d ∷ ds)

-- every entry of ds is from 1 to most
unfoldable pub Bounded : ℕ → List ℕ → Type 0
Bounded most ds = (k : ℕ) → k < length ds → (0 < get_or ds k 0) × (get_or ds k 0 ≤ most)

-- sizes, each from 1 to 2^20
abbrev pub Sizes : List ℕ → Type 0
Sizes ds = Bounded max_size ds

-- no entry of xs is above b
unfoldable pub Upto : ℕ → List ℕ → Type 0
Upto b xs = (k : ℕ) → get_or xs k 0 ≤ b
