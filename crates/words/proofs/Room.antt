-- How many words suffice, and that what was written stands. Assumes nothing.
use mathlib.Core.Path.{◌≡◌, sym, ap, ◌∙◌}
use mathlib.Core.List.{List, [], ◌∷◌, ◌++◌, append_assoc}
use Prim.Native.Nat.{ℕ, ◌+◌, ◌*◌, ◌≤◌}
use native.Mathlib.Omega.{arith}
use lib.IntN.{ℤ}
use lib.ListN.{length, drop, take, length-append, take-append-drop}
use lib.Seq.{take_all, length-take-le, drop_at}
use Rattle.folding.specs.Sum.{Atom, Sum, atom_range, atom_size, sum_size}
use Rattle.words.specs.Words.{atom_words, term_words, sum_words, constant_of}
use Rattle.expression.specs.Expression.{Kind, Range}

mutual
  unfolding atom_words atom_size

  atom-length : (β : Kind → ℕ → Range) (a : Atom) (x : List ℤ) → length (atom_words β a x) + 1 ≤ 7 * atom_size a + length x
  atom-length β (Atom.var k n) x = omega arith
  atom-length β (Atom.op o t c) x = omega (arith, terms-length β t (constant_of t ∷ (atom_range (Atom.op o t c) β).lo ∷ (atom_range (Atom.op o t c) β).hi ∷ x))

  terms-length : (β : Kind → ℕ → Range) (t : Sum) (x : List ℤ) → length (term_words β t x) ≤ 7 * sum_size t + length x
  terms-length β (Sum.const k) x = omega arith
  terms-length β (Sum.term c a t) x = omega (arith, atom-length β a (c ∷ term_words β t x), terms-length β t x)

-- seven words for each atom, and one for the constant
pub words-enough : (β : Kind → ℕ → Range) (t : Sum) → length (sum_words β t []) ≤ 7 * sum_size t + 1
unfolding sum_words
words-enough β t = terms-length β t (constant_of t ∷ [])

-- what was written with room stands there
pub stands : (ws o o' : List ℤ) (at r : ℕ) → at ≤ length o → at + length ws ≤ length o → r ≤ length o → length o' ≡ length o
    → take r o' ≡ take (length o) (take at o ++ ws) → (r ≡ at + length ws) × (drop at o' ≡ ws ++ drop r o')
stands ws o o' at r h k i s e =
    let la = length-take-le at o h in
    let e2 : take r o' ≡ take at o ++ ws = e ∙ take_all (length o) (take at o ++ ws) (omega (arith, length-append (take at o) ws)) in
    let lr : length (take r o') ≡ r = length-take-le r o' (omega arith) in (
      omega (arith, ap length e2, length-append (take at o) ws),
      ap (λ (l : List ℤ). drop at l) (sym (take-append-drop r o') ∙ ap (λ (l : List ℤ). l ++ drop r o') e2 ∙ append_assoc (take at o) ws (drop r o'))
          ∙ drop_at (take at o) (ws ++ drop r o') at la,
    )
