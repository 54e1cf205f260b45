-- Going over words, step by step. Assumes nothing.
use mathlib.Core.Path.{◌≡◌, refl, sym, ap, ◌∙◌}
use mathlib.Core.List.{List, [], ◌∷◌, ◌++◌}
use Prim.Native.Nat.{ℕ, ◌+◌, ◌-◌, ◌<◌, ◌≤◌}
use native.Mathlib.Omega.{arith}
use native.Mathlib.Decide.{dec_lt}
use lib.IntN.{ℤ, pos, nat_abs}
use lib.ListN.{length, drop, get_or, length-drop, length-append}
use lib.Seq.{drop-drop, drop_at}
use Rattle.folding.specs.Sum.{Atom, Sum, term_count, kind_number, op_number, atom_range}
use Rattle.words.specs.Words.{atom_words, term_words, constant_of}
use Rattle.words.proofs.Reading.{word-is, kind-small, op-large}
use Rattle.words.specs.Promises.{Forward, Skips, SkipsAtom}
use Rattle.expression.specs.Expression.{Kind, Range}

-- over the words ys
pub ahead : (w : List ℤ) (p k r : ℕ) (ys x : List ℤ) → drop p w ≡ ys ++ x → length ys ≡ k → 0 < k → Forward w p k r → drop r w ≡ x
ahead w p k r ys x e f g h =
    let b : p + k ≤ length w = omega (arith, length-drop p w, ap length e, length-append ys x) in
    ap (λ (n : ℕ). drop n w) (h.is b) ∙ sym (drop-drop k p w) ∙ ap (λ (l : List ℤ). drop k l) e ∙ drop_at ys x k f

pub none : (w : List ℤ) (p n : ℕ) → p ≤ length w → n ≡ 0 → Skips w p n p
unfolding term_count term_words
none w p n h z = record { low = omega arith; high = h; past = go }
  where
    go : (β : Kind → ℕ → Range) (t : Sum) (x : List ℤ) → n ≡ term_count t → drop p w ≡ term_words β t x → drop p w ≡ x
    go β (Sum.const k) x f e = e
    go β (Sum.term c a t) x f e = absurd (omega arith)

-- an atom has words
pub not-empty : (β : Kind → ℕ → Range) (a : Atom) (x : List ℤ) → 0 < length (atom_words β a x)
unfolding atom_words
not-empty β (Atom.var k n) x = omega arith
not-empty β (Atom.op o t c) x = omega arith

pub at-end : (w : List ℤ) (p n : ℕ) → p ≤ length w → length w ≤ p → (n ≡ 0 → ⊥) → Skips w p n p
unfolding term_count term_words
at-end w p n h k z = record { low = omega arith; high = h; past = go }
  where
    go : (β : Kind → ℕ → Range) (t : Sum) (x : List ℤ) → n ≡ term_count t → drop p w ≡ term_words β t x → drop p w ≡ x
    go β (Sum.const k) x f e = e
    go β (Sum.term c a t) x f e = absurd (omega (arith, length-drop p w, ap length e, not-empty β a (c ∷ term_words β t x)))

pub at-end-atom : (w : List ℤ) (p : ℕ) → p ≤ length w → length w ≤ p → SkipsAtom w p p
at-end-atom w p h k = record { low = omega arith; high = h; past = λ β a x e. absurd (omega (arith, length-drop p w, ap length e, not-empty β a x)) }

pub one_more : (w : List ℤ) (p n q e r : ℕ) → (n ≡ 0 → ⊥) → SkipsAtom w p q → Forward w q 1 e → Skips w e (n - 1) r → Skips w p n r
unfolding term_count term_words
one_more w p n q e r z a f s = record { low = omega (arith, a.low, f.low, s.low); high = s.high; past = go }
  where
    go : (β : Kind → ℕ → Range) (t : Sum) (x : List ℤ) → n ≡ term_count t → drop p w ≡ term_words β t x → drop r w ≡ x
    go β (Sum.const k) x g i = absurd (z g)
    go β (Sum.term c b t) x g i = s.past β t x (omega arith) (ahead w q 1 e (c ∷ []) (term_words β t x) (a.past β b (c ∷ term_words β t x) i) refl (omega arith) f)

pub of-var : (w : List ℤ) (p k r : ℕ) → k ≡ nat_abs (get_or w p (pos 0)) → k < 3 → Forward w p 4 r → SkipsAtom w p r
unfolding atom_words
of-var w p k r g h f = record { low = f.low; high = f.high; past = go }
  where
    go : (β : Kind → ℕ → Range) (a : Atom) (x : List ℤ) → drop p w ≡ atom_words β a x → drop r w ≡ x
    go β (Atom.var l n) x e = ahead w p 4 r (pos (kind_number l) ∷ pos n ∷ (β l n).lo ∷ (β l n).hi ∷ []) x e refl (omega arith) f
    go β (Atom.op o t c) x e = absurd (omega (arith, op-large o, g ∙ ap nat_abs (word-is w p _ _ e)))

pub of-op : (w : List ℤ) (p k h n b q r : ℕ) → k ≡ nat_abs (get_or w p (pos 0)) → 3 ≤ k → Forward w p 2 h → n ≡ nat_abs (get_or w h (pos 0)) → Forward w p 3 b → Skips w b n q → Forward w q 3 r → SkipsAtom w p r
unfolding atom_words
of-op w p k h n b q r g i fh en fb s fr = record { low = omega (arith, fb.low, s.low, fr.low); high = fr.high; past = go }
  where
    go : (β : Kind → ℕ → Range) (a : Atom) (x : List ℤ) → drop p w ≡ atom_words β a x → drop r w ≡ x
    go β (Atom.var l m) x e = absurd (omega (arith, kind-small l, g ∙ ap nat_abs (word-is w p _ _ e)))
    go β (Atom.op o t c) x e =
        let z = atom_range (Atom.op o t c) β in
        let y = term_words β t (constant_of t ∷ z.lo ∷ z.hi ∷ x) in
        let at2 = ahead w p 2 h (pos (op_number o) ∷ pos c ∷ []) (pos (term_count t) ∷ y) e refl (omega arith) fh in
        let at3 = ahead w p 3 b (pos (op_number o) ∷ pos c ∷ pos (term_count t) ∷ []) y e refl (omega arith) fb in
        let atq = s.past β t (constant_of t ∷ z.lo ∷ z.hi ∷ x) (en ∙ ap nat_abs (word-is w h _ _ at2)) at3 in
        ahead w q 3 r (constant_of t ∷ z.lo ∷ z.hi ∷ []) x atq refl (omega arith) fr

pub further : (w : List ℤ) (p q e : ℕ) → p < length w → p ≤ q → Forward w q 1 e → p < e
further w p q e h l f = go (dec_lt q (length w))
  where
    go : Dec (q < length w) → p < e
    go (yes i) = omega (arith, f.more i (omega arith))
    go (no i) = omega (arith, f.low)
