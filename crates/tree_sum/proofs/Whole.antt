-- Sums that stand in a list of words, and sums whose numbers are kept or past the limit. Assumes nothing.
use mathlib.Core.Path.{◌≡◌, refl, sym, ap, ap₂, ◌∙◌}
use mathlib.Core.Bool.{true}
use mathlib.Core.List.{List, [], ◌∷◌, ◌++◌, append_assoc}
use Prim.Native.Nat.{ℕ, suc, ◌+◌, ◌*◌, ◌≤◌}
use native.Mathlib.Omega.{arith}
use lib.IntN.{ℤ, pos, nat_abs}
use lib.ListN.{length, drop, take, length-append, take-append-drop}
use lib.Seq.{take_all, length-take-le, drop_at, take-append-le, drop-append-le, take-take}
use Rattle.expression.specs.Expression.{Kind, Range}
use Rattle.folding.specs.Sum.{Sum, term_count, atom_size, sum_size}
use Rattle.folding.specs.Fold.{cons_term, add_sums, scale_sum}
use Rattle.folding.specs.Folded.{FoldedS}
use Rattle.folding.specs.Working.{small_sum}
use Rattle.folding.proofs.Divisors.{one-l}
use Rattle.words.specs.Words.{term_words, sum_words, constant_of}
use Rattle.words.specs.Saturated.{saturate_sum}
use Rattle.words.specs.Merged.{blended, Sorted, Kept}
use Rattle.words.proofs.Merged.{cons-more}
use Rattle.words.proofs.Blended.{blend-law}
use Rattle.words.specs.Promises.{Puts}
use Rattle.words.proofs.Room.{words-enough}
use Rattle.words.proofs.TermByTerm.{terms-rest}
use Rattle.words.proofs.SmallSums.{ok-kept}

-- ---- words

-- a sum's words before a rest
pub sum-rest : (β : Kind → ℕ → Range) (t : Sum) (r : List ℤ) → sum_words β t [] ++ r ≡ sum_words β t r
unfolding sum_words
sum-rest β t r =
    ap (λ (l : List ℤ). l ++ r) (terms-rest β t (constant_of t ∷ []))
    ∙ append_assoc (term_words β t []) (constant_of t ∷ []) r
    ∙ sym (terms-rest β t (constant_of t ∷ r))

-- what stands up to a place stands before the rest
pub with_rest : (β : Kind → ℕ → Range) (t : Sum) (x : List ℤ) (p e : ℕ) → p ≤ e → e ≤ length x → drop p (take e x) ≡ sum_words β t [] → drop p x ≡ sum_words β t (drop e x)
with_rest β t x p e h k q =
    ap (λ (l : List ℤ). drop p l) (sym (take-append-drop e x))
    ∙ drop-append-le p (take e x) (drop e x) (omega (arith, length-take-le e x k))
    ∙ ap (λ (l : List ℤ). l ++ drop e x) q
    ∙ sum-rest β t (drop e x)

-- what is written behind a place leaves what stands before it
pub puts-below : (x x' : List ℤ) (p e : ℕ) (ws : List ℤ) → p ≤ length x → Puts x x' p e ws → take p x' ≡ take p x
puts-below x x' p e ws h P =
    sym (take-take p e x' P.low)
    ∙ ap (λ (l : List ℤ). take p l) P.is
    ∙ take-take p (length x) (take p x ++ ws) h
    ∙ take-append-le p (take p x) ws (omega (arith, length-take-le p x h))
    ∙ take-take p p x (omega arith)

-- what is written with room stands there
pub puts-stands : (x x' : List ℤ) (p e : ℕ) (ws : List ℤ) → p ≤ length x → p + length ws ≤ length x → Puts x x' p e ws → drop p (take e x') ≡ ws
puts-stands x x' p e ws h k P =
    ap (λ (l : List ℤ). drop p l) (P.is ∙ take_all (length x) (take p x ++ ws) (omega (arith, length-append (take p x) ws, length-take-le p x h)))
    ∙ drop_at (take p x) ws p (length-take-le p x h)

-- ---- numbers kept or past the limit
pub count-saturated : (t : Sum) → term_count (saturate_sum t) ≡ term_count t
unfolding saturate_sum term_count
count-saturated (Sum.const k) = refl
count-saturated (Sum.term c a t) = ap suc (count-saturated t)

size-saturated : (t : Sum) → sum_size (saturate_sum t) ≡ sum_size t
unfolding saturate_sum sum_size
size-saturated (Sum.const k) = refl
size-saturated (Sum.term c a t) = ap (λ (n : ℕ). atom_size a + n) (size-saturated t)

pub saturated-room : (β : Kind → ℕ → Range) (t : Sum) → length (sum_words β (saturate_sum t) []) ≤ 7 * sum_size t + 1
saturated-room β t = omega (arith, words-enough β (saturate_sum t), size-saturated t)

kept_of : (t : Sum) → saturate_sum t ≡ t → Kept t
unfolding saturate_sum Kept
kept_of (Sum.const k) h = tt
kept_of (Sum.term c a t) h = (cc, kept_of t cc)

sorted_of : (β : Kind → ℕ → Range) (t : Sum) → FoldedS β t → Sorted t
unfolding FoldedS Sorted
sorted_of β (Sum.const k) h = tt
sorted_of β (Sum.term c a t) h = (h.0, (h.2, sorted_of β t h.3))

scale_one : (t : Sum) → Sorted t → scale_sum (pos 1) t ≡ t
unfolding scale_sum Sorted
scale_one (Sum.const k) h = ap Sum.const (one-l k)
scale_one (Sum.term c a t) h =
    ap₂ (λ (z : ℤ) (u : Sum). cons_term z a u) (one-l c) (scale_one t h.1.1)
    ∙ cons-more c a t h.0

one_not_zero : pos 1 ≡ pos 0 → ⊥
one_not_zero e = let z : ◌≡◌ {A = ℕ} 1 0 = ap nat_abs e in omega arith

-- two folded sums blended once are their sum
pub blend-once : (β : Kind → ℕ → Range) (t u : Sum) → FoldedS β t → FoldedS β u → small_sum β u ≡ true → blended (pos 1) t u ≡ saturate_sum (add_sums t u)
blend-once β t u h k s =
    blend-law (pos 1) t u one_not_zero (sorted_of β t h) (kept_of u (ok-kept β u s)) (sorted_of β u k)
    ∙ ap (λ (v : Sum). saturate_sum (add_sums v u)) (scale_one t (sorted_of β t h))
