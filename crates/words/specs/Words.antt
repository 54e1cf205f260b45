-- A folded sum as words: its terms, each the atom's words and the coefficient, then the constant; and the order of words. Assumes nothing.
use Rattle.std.specs.Prelude.{List, [], ◌∷◌, ℤ, pos}
use Prim.Native.Nat.{ℕ, Ordering}
use Rattle.folding.specs.Sum.{Atom, Sum, term_count, kind_number, op_number, atom_range, integer_order, then_by}
use Rattle.expression.specs.Expression.{Kind, Range}

-- the constant
unfoldable pub constant_of : Sum → ℤ
constant_of (Sum.const k) = k
constant_of (Sum.term c a t) = constant_of t

-- the words of an atom and of a sum's terms, before a rest
unfoldable mutual
  pub atom_words : (Kind → ℕ → Range) → Atom → List ℤ → List ℤ
  atom_words β (Atom.var k n) r = pos (kind_number k) ∷ pos n ∷ (β k n).lo ∷ (β k n).hi ∷ r
  atom_words β (Atom.op o t c) r =
      pos (op_number o) ∷ pos c ∷ pos (term_count t) ∷ term_words β t (constant_of t ∷ (atom_range (Atom.op o t c) β).lo ∷ (atom_range (Atom.op o t c) β).hi ∷ r)

  pub term_words : (Kind → ℕ → Range) → Sum → List ℤ → List ℤ
  term_words β (Sum.const k) r = r
  term_words β (Sum.term c a t) r = atom_words β a (c ∷ term_words β t r)

-- the words of a sum, before a rest
unfoldable pub sum_words : (Kind → ℕ → Range) → Sum → List ℤ → List ℤ
sum_words β t r = term_words β t (constant_of t ∷ r)

-- ---- order

-- lists of words in lexicographic order
unfoldable pub word_order : List ℤ → List ℤ → Ordering
word_order [] [] = Ordering.eq
word_order [] (y ∷ ys) = Ordering.lt
word_order (x ∷ xs) [] = Ordering.gt
word_order (x ∷ xs) (y ∷ ys) = then_by (integer_order x y) (word_order xs ys)

-- 0 where the first comes first, 1 where both are alike, 2 where the second does
unfoldable pub order_number : Ordering → ℕ
order_number Ordering.lt = 0
order_number Ordering.eq = 1
order_number Ordering.gt = 2
