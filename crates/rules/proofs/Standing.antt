-- Words that were written stand, and what stood before them is kept. Assumes nothing.
use mathlib.Core.Path.{◌≡◌, sym, ap, ◌∙◌}
use mathlib.Core.List.{List, [], ◌∷◌, ◌++◌, append_assoc}
use Prim.Native.Nat.{ℕ, zero, suc, ◌+◌, ◌≤◌}
use native.Mathlib.Nat.{zero-add, suc-add}
use native.Mathlib.Omega.{arith}
use lib.IntN.{ℤ}
use lib.ListN.{length, drop, take, take-append-drop, length-append}
use lib.Seq.{take_all, take-take, take-append-le, length-take-le, drop_at, drop-append-le, take-nil}
use Rattle.expression.specs.Expression.{Kind, Range}
use Rattle.folding.specs.Sum.{Sum}
use Rattle.words.specs.Words.{term_words, sum_words, constant_of}
use Rattle.words.specs.Promises.{Puts}
use Rattle.words.proofs.Room.{stands}
use Rattle.words.proofs.TermByTerm.{terms-rest}

-- the words of a sum before a rest are its words, and the rest
pub sum-rest : (β : Kind → ℕ → Range) (t : Sum) (x : List ℤ) → sum_words β t x ≡ sum_words β t [] ++ x
unfolding sum_words
sum-rest β t x =
    terms-rest β t (constant_of t ∷ x)
    ∙ sym (append_assoc (term_words β t []) (constant_of t ∷ []) x)
    ∙ ap (λ (l : List ℤ). l ++ x) (sym (terms-rest β t (constant_of t ∷ [])))

-- words up to a place, and what follows
pub front-stands : (w : List ℤ) (e : ℕ) (ws : List ℤ) → take e w ≡ ws → w ≡ ws ++ drop e w
front-stands w e ws h = sym (take-append-drop e w) ∙ ap (λ (l : List ℤ). l ++ drop e w) h

-- words that stand from p to e, and what follows
pub part-stands : (w : List ℤ) (p e : ℕ) (ws : List ℤ) → p ≤ e → e ≤ length w → drop p (take e w) ≡ ws → drop p w ≡ ws ++ drop e w
part-stands w p e ws h k i =
    ap (λ (l : List ℤ). drop p l) (sym (take-append-drop e w))
    ∙ drop-append-le p (take e w) (drop e w) (omega (arith, length-take-le e w k))
    ∙ ap (λ (l : List ℤ). l ++ drop e w) i

-- what stands before the words put is kept
pub puts-below : (o o' : List ℤ) (at r : ℕ) (ws : List ℤ) → at ≤ length o → Puts o o' at r ws → take at o' ≡ take at o
puts-below o o' at r ws h p =
    sym (take-take at r o' p.low)
    ∙ ap (λ (l : List ℤ). take at l) p.is
    ∙ take-take at (length o) (take at o ++ ws) h
    ∙ take-append-le at (take at o) ws (omega (arith, length-take-le at o h))
    ∙ take-take at at o (omega arith)

-- where there is room the words put stand
pub puts-end : (o o' : List ℤ) (at r : ℕ) (ws : List ℤ) → at ≤ length o → at + length ws ≤ length o → Puts o o' at r ws → r ≡ at + length ws
puts-end o o' at r ws h k p = (stands ws o o' at r h k p.high p.same p.is).0

pub puts-stand : (o o' : List ℤ) (at r : ℕ) (ws : List ℤ) → at ≤ length o → at + length ws ≤ length o → Puts o o' at r ws → drop at (take r o') ≡ ws
puts-stand o o' at r ws h k p =
    ap (λ (l : List ℤ). drop at l) (p.is ∙ take_all (length o) (take at o ++ ws) (omega (arith, length-append (take at o) ws, length-take-le at o h)))
    ∙ drop_at (take at o) ws at (length-take-le at o h)

-- a kept front keeps what stands in it
pub kept-part : (w w' : List ℤ) (p e : ℕ) (ws : List ℤ) → take e w' ≡ take e w → drop p (take e w) ≡ ws → drop p (take e w') ≡ ws
kept-part w w' p e ws h k = ap (λ (l : List ℤ). drop p l) h ∙ k

pub kept-front : (w w' : List ℤ) (p e : ℕ) → p ≤ e → take e w' ≡ take e w → take p w' ≡ take p w
kept-front w w' p e h k = sym (take-take p e w' h) ∙ ap (λ (l : List ℤ). take p l) k ∙ take-take p e w h

-- a part as what is left of a front
pub part-take : (x n y : ℕ) (l : List ℤ) → y ≡ x + n → take n (drop x l) ≡ drop x (take y l)
part-take x n y l e = sym (go x l) ∙ ap (λ (k : ℕ). drop x (take k l)) (sym e)
  where
    go : (x : ℕ) (l : List ℤ) → drop x (take (x + n) l) ≡ take n (drop x l)
    go zero l = ap (λ (k : ℕ). take k l) (zero-add n)
    go (suc x) [] = ap (λ (k : ℕ). drop (suc x) (take k [])) (suc-add x n) ∙ sym (take-nil n)
    go (suc x) (z ∷ l) = ap (λ (k : ℕ). drop (suc x) (take k (z ∷ l))) (suc-add x n) ∙ go x l
