-- What the functions on words promise. Assumes nothing.
use Rattle.std.specs.Prelude.{◌≡◌, List, [], ◌++◌, ℕ, ◌+◌, ◌*◌, ◌<◌, ◌≤◌, ℤ, pos, ◌+ℤ◌, length, drop, take, Bool, true, ◌&&◌}
use Rattle.words.specs.Merged.{head_order}
use Rattle.folding.specs.Sum.{Atom, Sum, term_count, atom_range, sum_range, op_number, sum_size}
use Rattle.folding.specs.Working.{small_from, small_sum}
use Rattle.folding.specs.Fold.{part_r, one_quotient, quotient_of}
use Rattle.words.specs.Words.{atom_words, term_words, sum_words, order_number}
use Rattle.expression.specs.Expression.{Kind, Op, Range, add_range, mul_range, is_small, small_range}

-- k words on, and not past the end
pub record Forward (w : List ℤ) (p k r : ℕ) : Type 0 where
  pub low : p ≤ r
  pub high : r ≤ length w
  pub more : p < length w → 0 < k → p < r
  pub is : p + k ≤ length w → r ≡ p + k

-- past n terms
pub record Skips (w : List ℤ) (p n r : ℕ) : Type 0 where
  pub low : p ≤ r
  pub high : r ≤ length w
  pub past : (β : Kind → ℕ → Range) (t : Sum) (x : List ℤ) → n ≡ term_count t → drop p w ≡ term_words β t x → drop r w ≡ x

-- past an atom
pub record SkipsAtom (w : List ℤ) (p r : ℕ) : Type 0 where
  pub low : p ≤ r
  pub high : r ≤ length w
  pub past : (β : Kind → ℕ → Range) (a : Atom) (x : List ℤ) → drop p w ≡ atom_words β a x → drop r w ≡ x

-- ws written from at on: what stands before r is what stood before at, and ws, as far as there is room
pub record Puts (o o' : List ℤ) (at r : ℕ) (ws : List ℤ) : Type 0 where
  pub high : r ≤ length o
  pub low : at ≤ r
  pub same : length o' ≡ length o
  pub is : take r o' ≡ take (length o) (take at o ++ ws)

-- of the n terms and the constant at p a sum is made by f, and written
pub record Makes (f : Sum → Sum) (w : List ℤ) (p n : ℕ) (o o' : List ℤ) (at m r : ℕ) : Type 0 where
  pub few : m ≤ n
  pub high : r ≤ length o
  pub same : length o' ≡ length o
  pub made : (β : Kind → ℕ → Range) (t : Sum) (x : List ℤ) → n ≡ term_count t → drop p w ≡ sum_words β t x
      → (take r o' ≡ take (length o) (take at o ++ sum_words β (f t) [])) × (m ≡ term_count (f t))

-- which of two sums has the next term: 0 the first, 2 the second, 1 both or none
pub record Orders (w : List ℤ) (p n : ℕ) (v : List ℤ) (i m r : ℕ) : Type 0 where
  pub most : r ≤ 2
  pub first : r ≡ 0 → 0 < n
  pub second : r ≡ 2 → 0 < m
  pub alike : r ≡ 1 → n ≡ 0 → m ≡ 0
  pub alike' : r ≡ 1 → m ≡ 0 → n ≡ 0
  pub is : (β : Kind → ℕ → Range) (t u : Sum) (x y : List ℤ) → n ≡ term_count t → m ≡ term_count u → drop p w ≡ term_words β t x → drop i v ≡ term_words β u y → r ≡ order_number (head_order t u)

-- of two sums one is made by f, and written
pub record Merges (f : Sum → Sum → Sum) (w : List ℤ) (p n : ℕ) (v : List ℤ) (i m : ℕ) (o o' : List ℤ) (at k r : ℕ) : Type 0 where
  pub few : k ≤ n + m
  pub high : r ≤ length o
  pub same : length o' ≡ length o
  pub made : (β : Kind → ℕ → Range) (t u : Sum) (x y : List ℤ) → n ≡ term_count t → m ≡ term_count u → drop p w ≡ sum_words β t x → drop i v ≡ sum_words β u y
      → (take r o' ≡ take (length o) (take at o ++ sum_words β (f t u) [])) × (k ≡ term_count (f t u))

-- the range of the n terms and the constant at p, added to lo .. hi: whether all of it is within the limits, and then its ends
pub record Reckons (w : List ℤ) (p n : ℕ) (lo hi : ℤ) (ok : Bool) (l h : ℤ) : Type 0 where
  pub is : (β : Kind → ℕ → Range) (t : Sum) (x : List ℤ) → n ≡ term_count t → drop p w ≡ sum_words β t x → ok ≡ small_from β (record { lo = lo; hi = hi }) t
  pub ends : (β : Kind → ℕ → Range) (t : Sum) (x : List ℤ) → n ≡ term_count t → drop p w ≡ sum_words β t x → ok ≡ true → (l ≡ lo +ℤ (sum_range t β).lo) × (h ≡ hi +ℤ (sum_range t β).hi)

-- one term more: the coefficient c, an atom's range a .. b
pub record AddsTerm (c a b lo hi : ℤ) (ok : Bool) (l h : ℤ) : Type 0 where
  pub is : ok ≡ (is_small c && (small_range (mul_range c (record { lo = a; hi = b })) && small_range (add_range (record { lo = lo; hi = hi }) (mul_range c (record { lo = a; hi = b })))))
  pub low : ok ≡ true → l ≡ lo +ℤ (mul_range c (record { lo = a; hi = b })).lo
  pub high : ok ≡ true → h ≡ hi +ℤ (mul_range c (record { lo = a; hi = b })).hi

pub record AddsEnds (c x y lo hi : ℤ) (ok : Bool) (l h : ℤ) : Type 0 where
  pub is : ok ≡ (is_small c && ((is_small x && is_small y) && (is_small (lo +ℤ x) && is_small (hi +ℤ y))))
  pub low : ok ≡ true → l ≡ lo +ℤ x
  pub high : ok ≡ true → h ≡ hi +ℤ y

-- the sum at p made an atom of it, once, and 0: its operation o, its divisor, and its range lo .. hi
pub record Wraps (o : ℕ) (d lo hi : ℤ) (w : List ℤ) (p n : ℕ) (out out' : List ℤ) (at r : ℕ) : Type 0 where
  pub high : r ≤ length out
  pub same : length out' ≡ length out
  pub made : (β : Kind → ℕ → Range) (op : Op) (c : ℕ) (t : Sum) (x : List ℤ) → o ≡ op_number op → d ≡ pos c → lo ≡ (atom_range (Atom.op op t c) β).lo → hi ≡ (atom_range (Atom.op op t c) β).hi
      → n ≡ term_count t → drop p w ≡ sum_words β t x
      → take r out' ≡ take (length out) (take at out ++ sum_words β (Sum.term (pos 1) (Atom.op op t c) (Sum.const (pos 0))) [])

-- R at g: whether it keeps the limits, and then whether it lies between two neighbouring multiples of g, and which. (room: the scratch's length)
pub record Tries (w : List ℤ) (p n g room : ℕ) (ok fit : Bool) (q : ℤ) : Type 0 where
  pub is : (β : Kind → ℕ → Range) (t : Sum) (x : List ℤ) → n ≡ term_count t → drop p w ≡ sum_words β t x → 7 * sum_size t + 1 ≤ room → ok ≡ small_sum β (part_r g t)
  pub fits : (β : Kind → ℕ → Range) (t : Sum) (x : List ℤ) → n ≡ term_count t → drop p w ≡ sum_words β t x → 7 * sum_size t + 1 ≤ room → ok ≡ true → (fit ≡ one_quotient β g (part_r g t)) × (q ≡ quotient_of β g (part_r g t))
