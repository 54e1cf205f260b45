-- A sum copied whole. Assumes nothing.
use mathlib.Core.Path.{◌≡◌, refl, sym, ap, ◌∙◌}
use mathlib.Core.List.{List, [], ◌∷◌, ◌++◌, append_assoc}
use Prim.Native.Nat.{ℕ, ◌-◌}
use native.Mathlib.Omega.{arith}
use lib.IntN.{ℤ, pos}
use lib.ListN.{length, drop, take}
use Rattle.folding.specs.Sum.{Sum, term_count}
use Rattle.words.specs.Words.{atom_words, term_words, sum_words, constant_of}
use Rattle.words.specs.Promises.{Forward, Skips, Puts, Wraps}
use Rattle.words.proofs.Skipping.{ahead}
use Rattle.words.proofs.Written.{both}
use Rattle.words.proofs.TermByTerm.{terms-rest, between}
use Rattle.expression.specs.Expression.{Kind, Range}

pub sum-words : (β : Kind → ℕ → Range) (w : List ℤ) (p n q f : ℕ) (t : Sum) (x : List ℤ) → Skips w p n q → Forward w q 1 f → n ≡ term_count t → drop p w ≡ sum_words β t x → take (f - p) (drop p w) ≡ sum_words β t []
unfolding sum_words
sum-words β w p n q f t x s g h e =
    between w p f (term_words β t (constant_of t ∷ [])) x (omega (arith, s.low, g.low)) g.high
    (e ∙ terms-rest β t (constant_of t ∷ x) ∙ sym (append_assoc (term_words β t []) (constant_of t ∷ []) x) ∙ ap (λ (l : List ℤ). l ++ x) (sym (terms-rest β t (constant_of t ∷ []))))
    (ahead w q 1 f (constant_of t ∷ []) x (s.past β t (constant_of t ∷ x) h e) refl (omega arith) g)

tail : (W : List ℤ) (a b c d : ℤ) → (((W ++ (a ∷ [])) ++ (b ∷ [])) ++ (c ∷ [])) ++ (d ∷ []) ≡ W ++ (a ∷ b ∷ c ∷ d ∷ [])
tail W a b c d = simp append_assoc

pub wrap-made : (o : ℕ) (d lo hi : ℤ) (w : List ℤ) (p n q f : ℕ) (o0 o1 o2 o3 o4 o5 o6 o7 o8 : List ℤ) (at a b c e g h i r : ℕ)
    → Puts o0 o1 at a (pos o ∷ []) → Puts o1 o2 a b (d ∷ []) → Puts o2 o3 b c (pos n ∷ []) → Skips w p n q → Forward w q 1 f → Puts o3 o4 c e (take (f - p) (drop p w))
    → Puts o4 o5 e g (lo ∷ []) → Puts o5 o6 g h (hi ∷ []) → Puts o6 o7 h i (pos 1 ∷ []) → Puts o7 o8 i r (pos 0 ∷ []) → Wraps o d lo hi w p n o0 o8 at r
unfolding sum_words term_words atom_words constant_of
wrap-made o d lo hi w p n q f o0 o1 o2 o3 o4 o5 o6 o7 o8 at a b c e g h i r p1 p2 p3 s sf p4 p5 p6 p7 p8 =
    let P = both o0 o7 o8 at i r _ _ (both o0 o6 o7 at h i _ _ (both o0 o5 o6 at g h _ _ (both o0 o4 o5 at e g _ _ (both o0 o3 o4 at c e _ _ (both o0 o2 o3 at b c _ _ (both o0 o1 o2 at a b _ _ p1 p2) p3) p4) p5) p6) p7) p8 in
    record {
      high = P.high;
      same = P.same;
      made = λ β op k t x eo ed el eh en ew.
          let W = take (f - p) (drop p w) in
          let y = lo ∷ hi ∷ pos 1 ∷ pos 0 ∷ [] in
          P.is
          ∙ ap (λ (l : List ℤ). take (length o0) (take at o0 ++ (pos o ∷ d ∷ pos n ∷ l))) (tail W lo hi (pos 1) (pos 0) ∙ ap (λ (l : List ℤ). l ++ y) (sum-words β w p n q f t x s sf en ew)
          ∙ (ap (λ (l : List ℤ). l ++ y) (terms-rest β t (constant_of t ∷ [])) ∙ append_assoc (term_words β t []) (constant_of t ∷ []) y ∙ sym (terms-rest β t (constant_of t ∷ y))))
          ∙ rw (eo, ed, en, el, eh) refl;
    }
