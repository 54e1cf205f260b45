-- A sum is made term by term. Assumes nothing.
use mathlib.Core.Path.{◌≡◌, refl, sym, ap, ◌∙◌}
use mathlib.Core.List.{List, [], ◌∷◌, ◌++◌, append_assoc}
use Prim.Native.Nat.{ℕ, ◌+◌, ◌-◌, ◌≤◌}
use native.Mathlib.Omega.{arith}
use native.Mathlib.Numerals.{add-one}
use lib.IntN.{ℤ, pos}
use lib.ListN.{length, drop, take, get_or, length-drop, length-append}
use lib.Seq.{take_at}
use Rattle.folding.specs.Sum.{Atom, Sum, term_count, op_number, atom_range}
use Rattle.words.specs.Words.{atom_words, term_words, sum_words, constant_of}
use Rattle.words.proofs.Reading.{word-is}
use Rattle.words.specs.Promises.{Forward, SkipsAtom, Puts, Makes}
use Rattle.words.proofs.Skipping.{ahead}
use Rattle.words.proofs.Written.{both, cut}
use Rattle.expression.specs.Expression.{Kind, Range}

-- the words before a rest are the words, and the rest
mutual
  unfolding atom_words

  pub atom-rest : (β : Kind → ℕ → Range) (a : Atom) (x : List ℤ) → atom_words β a x ≡ atom_words β a [] ++ x
  atom-rest β (Atom.var k n) x = refl
  atom-rest β (Atom.op o t c) x =
      let z = atom_range (Atom.op o t c) β in
      ap (λ (l : List ℤ). pos (op_number o) ∷ pos c ∷ pos (term_count t) ∷ l)
      (terms-rest β t (constant_of t ∷ z.lo ∷ z.hi ∷ x)
      ∙ sym (append_assoc (term_words β t []) (constant_of t ∷ z.lo ∷ z.hi ∷ []) x)
      ∙ ap (λ (l : List ℤ). l ++ x) (sym (terms-rest β t (constant_of t ∷ z.lo ∷ z.hi ∷ []))))

  pub terms-rest : (β : Kind → ℕ → Range) (t : Sum) (x : List ℤ) → term_words β t x ≡ term_words β t [] ++ x
  terms-rest β (Sum.const k) x = refl
  terms-rest β (Sum.term c a t) x =
      atom-rest β a (c ∷ term_words β t x)
      ∙ ap (λ (l : List ℤ). atom_words β a [] ++ (c ∷ l)) (terms-rest β t x)
      ∙ sym (append_assoc (atom_words β a []) (c ∷ term_words β t []) x)
      ∙ ap (λ (l : List ℤ). l ++ x) (sym (atom-rest β a (c ∷ term_words β t [])))

-- what stands between an atom's two places
pub between : (w : List ℤ) (p q : ℕ) (ys x : List ℤ) → p ≤ q → q ≤ length w → drop p w ≡ ys ++ x → drop q w ≡ x → take (q - p) (drop p w) ≡ ys
between w p q ys x h k e f =
    ap (λ (l : List ℤ). take (q - p) l) e ∙ take_at ys x (q - p) (omega (arith, length-drop p w, length-drop q w, ap length e, ap length f, length-append ys x))

pub atom-words : (β : Kind → ℕ → Range) (w : List ℤ) (p q : ℕ) (a : Atom) (x : List ℤ) → SkipsAtom w p q → drop p w ≡ atom_words β a x → take (q - p) (drop p w) ≡ atom_words β a []
atom-words β w p q a x s e = between w p q (atom_words β a []) x s.low s.high (e ∙ atom-rest β a x) (s.past β a x e)

pub of-const : (f : Sum → Sum) (v : ℤ) (w : List ℤ) (p n : ℕ) (o o' : List ℤ) (at r : ℕ) → n ≡ 0 → f (Sum.const (get_or w p (pos 0))) ≡ Sum.const v → Puts o o' at r (v ∷ []) → Makes f w p n o o' at 0 r
unfolding term_count sum_words term_words constant_of
of-const f v w p n o o' at r z g h = record { few = omega arith; high = h.high; same = h.same; made = go }
  where
    go : (β : Kind → ℕ → Range) (t : Sum) (x : List ℤ) → n ≡ term_count t → drop p w ≡ sum_words β t x → (take r o' ≡ take (length o) (take at o ++ sum_words β (f t) [])) × (0 ≡ term_count (f t))
    go β (Sum.const k) x i e =
        let j : f (Sum.const k) ≡ Sum.const v = ap (λ (u : ℤ). f (Sum.const u)) (sym (word-is w p k x e)) ∙ g in
        (h.is ∙ ap (λ (t : Sum). take (length o) (take at o ++ sum_words β t [])) (sym j), ap term_count (sym j))
    go β (Sum.term c a t) x i e = absurd (omega arith)

pub of-less : (f : Sum → Sum) (w : List ℤ) (p n q b : ℕ) (o o' : List ℤ) (at m r : ℕ) → (n ≡ 0 → ⊥) → SkipsAtom w p q → Forward w q 1 b
    → ((a : Atom) (t : Sum) → f (Sum.term (get_or w q (pos 0)) a t) ≡ f t) → Makes f w b (n - 1) o o' at m r → Makes f w p n o o' at m r
unfolding term_count sum_words term_words constant_of
of-less f w p n q b o o' at m r z s g h k = record { few = omega (arith, k.few); high = k.high; same = k.same; made = go }
  where
    go : (β : Kind → ℕ → Range) (t : Sum) (x : List ℤ) → n ≡ term_count t → drop p w ≡ sum_words β t x → (take r o' ≡ take (length o) (take at o ++ sum_words β (f t) [])) × (m ≡ term_count (f t))
    go β (Sum.const k) x i e = absurd (z i)
    go β (Sum.term c a t) x i e =
        let y = term_words β t (constant_of t ∷ x) in
        let eq = s.past β a (c ∷ y) e in
        let j : f (Sum.term c a t) ≡ f t = ap (λ (u : ℤ). f (Sum.term u a t)) (sym (word-is w q c y eq)) ∙ h a t in
        let l = k.made β t x (omega arith) (ahead w q 1 b (c ∷ []) y eq refl (omega arith) g) in
        (l.0 ∙ ap (λ (t : Sum). take (length o) (take at o ++ sum_words β t [])) (sym j), l.1 ∙ ap term_count (sym j))

pub of-more : (f : Sum → Sum) (v : ℤ) (w : List ℤ) (p n q b : ℕ) (o o1 o2 o' : List ℤ) (at e1 e2 m r : ℕ) → (n ≡ 0 → ⊥) → SkipsAtom w p q → Forward w q 1 b
    → ((a : Atom) (t : Sum) → f (Sum.term (get_or w q (pos 0)) a t) ≡ Sum.term v a (f t))
    → Puts o o1 at e1 (take (q - p) (drop p w)) → Puts o1 o2 e1 e2 (v ∷ []) → Makes f w b (n - 1) o2 o' e2 m r → Makes f w p n o o' at (m + 1) r
unfolding term_count sum_words term_words constant_of
of-more f v w p n q b o o1 o2 o' at e1 e2 m r z s g h h1 h2 k =
    record { few = let n0 = z in omega (arith, k.few); high = omega (arith, k.high, h1.same, h2.same); same = k.same ∙ h2.same ∙ h1.same; made = go }
  where
    go : (β : Kind → ℕ → Range) (t : Sum) (x : List ℤ) → n ≡ term_count t → drop p w ≡ sum_words β t x → (take r o' ≡ take (length o) (take at o ++ sum_words β (f t) [])) × (m + 1 ≡ term_count (f t))
    go β (Sum.const k) x i e = absurd (z i)
    go β (Sum.term c a t) x i e =
        let y = term_words β t (constant_of t ∷ x) in
        let eq = s.past β a (c ∷ y) e in
        let j : f (Sum.term c a t) ≡ Sum.term v a (f t) = ap (λ (u : ℤ). f (Sum.term u a t)) (sym (word-is w q c y eq)) ∙ h a t in
        let l = k.made β t x (omega arith) (ahead w q 1 b (c ∷ []) y eq refl (omega arith) g) in
        let A = atom_words β a [] in
        let aw : take (q - p) (drop p w) ≡ A = atom-words β w p q a (c ∷ y) s e in
        let P = both o o1 o2 at e1 e2 (take (q - p) (drop p w)) (v ∷ []) h1 h2 in
        let S = sum_words β (f t) [] in (
          l.0 ∙ ap (λ (n : ℕ). take n (take e2 o2 ++ S)) (h2.same ∙ h1.same) ∙ ap (λ (u : List ℤ). take (length o) (u ++ S)) P.is
              ∙ cut (length o) (take at o ++ (take (q - p) (drop p w) ++ (v ∷ []))) S
              ∙ ap (λ (u : List ℤ). take (length o) ((take at o ++ (u ++ (v ∷ []))) ++ S)) aw
              ∙ ap (λ (u : List ℤ). take (length o) u) (append_assoc (take at o) (A ++ (v ∷ [])) S ∙ ap (λ (u : List ℤ). take at o ++ u) (append_assoc A (v ∷ []) S))
              ∙ ap (λ (u : List ℤ). take (length o) (take at o ++ u)) (sym (atom-rest β a (v ∷ S)))
              ∙ ap (λ (t : Sum). take (length o) (take at o ++ sum_words β t [])) (sym j),
          ap (λ (u : ℕ). u + 1) l.1 ∙ add-one (term_count (f t)) ∙ ap term_count (sym j),
        )
