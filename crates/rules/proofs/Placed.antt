-- Sums that stand one after the other, where there is room. Assumes nothing.
use mathlib.Core.Path.{◌≡◌, refl, sym, ap, ap₂, ◌∙◌}
use mathlib.Core.List.{List, [], ◌∷◌, ◌++◌, append_assoc}
use Prim.Native.Nat.{ℕ, suc, ◌+◌, ◌-◌, ◌≤◌}
use native.Mathlib.Omega.{arith}
use lib.IntN.{ℤ, pos, ◌+ℤ◌}
use lib.ListN.{length, drop, take, get_or, length-append, take-append-drop}
use lib.Seq.{take_all, length-take-le, take_at, drop_at, get_or-append_seam}
use Rattle.expression.specs.Expression.{Kind, Range}
use Rattle.folding.specs.Sum.{Sum, term_count}
use Rattle.folding.specs.Fold.{add_constant}
use Rattle.words.specs.Words.{atom_words, term_words, sum_words, constant_of}
use Rattle.words.specs.Saturated.{saturate, shifted}
use Rattle.words.specs.Promises.{Puts}
use Rattle.words.proofs.TermByTerm.{terms-rest}

-- what was written with room is not cut off
pub written : (ws o o' : List ℤ) (at r : ℕ) → at + length ws ≤ length o → r ≤ length o → length o' ≡ length o
    → take r o' ≡ take (length o) (take at o ++ ws) → (take r o' ≡ take at o ++ ws) × (r ≡ at + length ws)
written ws o o' at r k i s e =
    let la = length-take-le at o (omega arith) in
    let e2 : take r o' ≡ take at o ++ ws = e ∙ take_all (length o) (take at o ++ ws) (omega (arith, length-append (take at o) ws)) in
    let lr : length (take r o') ≡ r = length-take-le r o' (omega arith) in
    (e2, omega (arith, ap length e2, length-append (take at o) ws))

-- the first and the second of two parts
pub two-parts : (X Y o : List ℤ) (e r : ℕ) → take r o ≡ X ++ Y → length X ≡ e → (take e o ≡ X) × (drop e (take r o) ≡ Y)
two-parts X Y o e r h k = (
  ap (λ (l : List ℤ). take e l) (sym (take-append-drop r o) ∙ ap (λ (l : List ℤ). l ++ drop r o) h ∙ append_assoc X Y (drop r o)) ∙ take_at X (Y ++ drop r o) e k,
  ap (λ (l : List ℤ). drop e l) h ∙ drop_at X Y e k,
)

-- a sum's words end in its constant
pub last_apart : (β : Kind → ℕ → Range) (t : Sum) → sum_words β t [] ≡ term_words β t [] ++ (constant_of t ∷ [])
unfolding sum_words
last_apart β t = terms-rest β t (constant_of t ∷ [])

-- another constant in its place
shift-apart : (β : Kind → ℕ → Range) (z : ℤ) (t : Sum) → sum_words β (shifted z t) [] ≡ term_words β t [] ++ (saturate (z +ℤ constant_of t) ∷ [])
unfolding shifted term_words constant_of
shift-apart β z t = last_apart β (shifted z t) ∙ ap₂ (λ (x : List ℤ) (k : ℤ). x ++ (k ∷ [])) (terms z t []) (last z t)
  where
    terms : (z : ℤ) (t : Sum) (y : List ℤ) → term_words β (shifted z t) y ≡ term_words β t y
    terms z (Sum.const k) y = refl
    terms z (Sum.term c a t) y = ap (λ (l : List ℤ). atom_words β a (c ∷ l)) (terms z t y)

    last : (z : ℤ) (t : Sum) → constant_of (shifted z t) ≡ saturate (z +ℤ constant_of t)
    last z (Sum.const k) = refl
    last z (Sum.term c a t) = last z t

pub add_apart : (β : Kind → ℕ → Range) (z : ℤ) (t : Sum) → sum_words β (add_constant z t) [] ≡ term_words β t [] ++ ((z +ℤ constant_of t) ∷ [])
unfolding add_constant term_words constant_of
add_apart β z t = last_apart β (add_constant z t) ∙ ap₂ (λ (x : List ℤ) (k : ℤ). x ++ (k ∷ [])) (terms z t []) (last z t)
  where
    terms : (z : ℤ) (t : Sum) (y : List ℤ) → term_words β (add_constant z t) y ≡ term_words β t y
    terms z (Sum.const k) y = refl
    terms z (Sum.term c a t) y = ap (λ (l : List ℤ). atom_words β a (c ∷ l)) (terms z t y)

    last : (z : ℤ) (t : Sum) → constant_of (add_constant z t) ≡ z +ℤ constant_of t
    last z (Sum.const k) = refl
    last z (Sum.term c a t) = last z t

pub add-count : (z : ℤ) (t : Sum) → term_count (add_constant z t) ≡ term_count t
unfolding add_constant term_count
add-count z (Sum.const k) = refl
add-count z (Sum.term c a t) = ap suc (add-count z t)

-- the last word of what stands before end is written anew
module _ (W T : List ℤ) (k v : ℤ) (o o' : List ℤ) (end r : ℕ) (high : end ≤ length o) (stood : take end o ≡ W ++ (T ++ (k ∷ []))) where
  at_last : end ≡ length W + length T + 1
  at_last =
      let l = length-take-le end o high in
      omega (arith, ap length stood, length-append W (T ++ (k ∷ [])), length-append T (k ∷ []))

  parts : take (end - 1) o ≡ W ++ T
  parts =
      let e : length (W ++ T) ≡ end - 1 = omega (arith, at_last, length-append W T) in
      (two-parts (W ++ T) (k ∷ []) o (end - 1) end (stood ∙ sym (append_assoc W T (k ∷ []))) e).0

  pub last_word : get_or o (end - 1) (pos 0) ≡ k
  last_word =
      let e : length (W ++ T) ≡ end - 1 = omega (arith, at_last, length-append W T) in
      ap (λ (l : List ℤ). get_or l (end - 1) (pos 0)) (sym (take-append-drop end o) ∙ ap (λ (l : List ℤ). l ++ drop end o) (stood ∙ sym (append_assoc W T (k ∷ []))) ∙ append_assoc (W ++ T) (k ∷ []) (drop end o))
      ∙ ap (λ (n : ℕ). get_or ((W ++ T) ++ (k ∷ drop end o)) n (pos 0)) (sym e)
      ∙ get_or-append_seam (W ++ T) k (drop end o) (pos 0)

  pub last-anew : Puts o o' (end - 1) r (v ∷ []) → (take r o' ≡ W ++ (T ++ (v ∷ []))) × (r ≡ end)
  last-anew p =
      let w = written (v ∷ []) o o' (end - 1) r (omega (arith, at_last)) p.high p.same p.is in
      (w.0 ∙ ap (λ (l : List ℤ). l ++ (v ∷ [])) parts ∙ append_assoc W T (v ∷ []), omega (arith, at_last, w.1))

-- z more in the constant
pub shift-stands : (β : Kind → ℕ → Range) (t : Sum) (z : ℤ) (o o' : List ℤ) (end r : ℕ) → end ≤ length o → take end o ≡ sum_words β t []
    → Puts o o' (end - 1) r (saturate (z +ℤ get_or o (end - 1) (pos 0)) ∷ []) → take r o' ≡ sum_words β (shifted z t) []
shift-stands β t z o o' end r h e p =
    let s : take end o ≡ [] ++ (term_words β t [] ++ (constant_of t ∷ [])) = e ∙ last_apart β t in
    (last-anew [] (term_words β t []) (constant_of t) (saturate (z +ℤ get_or o (end - 1) (pos 0))) o o' end r h s p).0
    ∙ ap (λ (k : ℤ). term_words β t [] ++ (saturate (z +ℤ k) ∷ [])) (last_word [] (term_words β t []) (constant_of t) (pos 0) o o' end r h s)
    ∙ sym (shift-apart β z t)
