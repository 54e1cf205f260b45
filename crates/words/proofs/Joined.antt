-- Two sums made one. Assumes nothing.
use mathlib.Core.Path.{◌≡◌, refl, sym, ap, ap₂, ◌∙◌}
use mathlib.Core.List.{List, [], ◌∷◌, ◌++◌, append_assoc}
use Prim.Native.Nat.{ℕ, zero, suc, ◌+◌, ◌-◌, ◌≤◌, Ordering}
use native.Mathlib.Omega.{arith}
use native.Mathlib.Numerals.{add-one}
use lib.IntN.{ℤ, pos, ◌+ℤ◌, ◌*ℤ◌}
use lib.ListN.{length, drop, take, get_or}
use Rattle.folding.specs.Sum.{Atom, Sum, term_count}
use Rattle.words.specs.Words.{word_order, atom_words, term_words, sum_words, constant_of, order_number}
use Rattle.folding.specs.Fold.{cons_term}
use Rattle.words.proofs.Reading.{word-is}
use Rattle.words.proofs.AtomOrder.{atoms-order}
use Rattle.words.specs.Saturated.{saturate}
use Rattle.words.specs.Merged.{head_order, blended}
use Rattle.words.proofs.Merged.{blend-const, blend-lt, blend-gt, blend-eq, cons-zero, cons-more}
use Rattle.words.specs.Promises.{Forward, SkipsAtom, Puts, Orders, Merges}
use Rattle.words.proofs.Skipping.{ahead}
use Rattle.words.proofs.Written.{both, cut}
use Rattle.words.proofs.TermByTerm.{atom-rest, between, atom-words}
use Rattle.expression.specs.Expression.{Kind, Range}

pub order-most : (o : Ordering) → order_number o ≤ 2
unfolding order_number
order-most Ordering.lt = omega arith
order-most Ordering.eq = omega arith
order-most Ordering.gt = omega arith

pub is_lt : (o : Ordering) → 0 ≡ order_number o → o ≡ Ordering.lt
unfolding order_number
is_lt Ordering.lt e = refl
is_lt Ordering.eq e = absurd (omega arith)
is_lt Ordering.gt e = absurd (omega arith)

pub is_eq : (o : Ordering) → 1 ≡ order_number o → o ≡ Ordering.eq
unfolding order_number
is_eq Ordering.lt e = absurd (omega arith)
is_eq Ordering.eq e = refl
is_eq Ordering.gt e = absurd (omega arith)

pub is_gt : (o : Ordering) → 2 ≡ order_number o → o ≡ Ordering.gt
unfolding order_number
is_gt Ordering.lt e = absurd (omega arith)
is_gt Ordering.eq e = absurd (omega arith)
is_gt Ordering.gt e = refl

-- what is left of three cases
pub one_of : (d : ℕ) → d ≤ 2 → (d ≡ 0 → ⊥) → (d ≡ 2 → ⊥) → d ≡ 1
one_of d h a b = omega arith

pub one-more-left : (n m : ℕ) → (n ≡ 0 → ⊥) → (m ≡ 0 → n ≡ 0) → 1 ≤ m
one-more-left n zero a b = absurd (a (b refl))
one-more-left n (suc m) a b = omega arith

module _ (w : List ℤ) (p n : ℕ) (v : List ℤ) (i m : ℕ) where
  pub none_left : n ≡ 0 → m ≡ 0 → Orders w p n v i m 1
  unfolding term_count head_order order_number
  none_left ha hb = record { most = omega arith; first = λ e. absurd (omega arith); second = λ e. absurd (omega arith); alike = λ e f. hb; alike' = λ e f. ha; is = go }
    where
      go : (β : Kind → ℕ → Range) (t u : Sum) (x y : List ℤ) → n ≡ term_count t → m ≡ term_count u → drop p w ≡ term_words β t x → drop i v ≡ term_words β u y → 1 ≡ order_number (head_order t u)
      go β (Sum.const k) (Sum.const l) x y f g h j = refl
      go β (Sum.const k) (Sum.term e b u) x y f g h j = absurd (omega arith)
      go β (Sum.term c a t) u x y f g h j = absurd (omega arith)

  pub second-left : n ≡ 0 → (m ≡ 0 → ⊥) → Orders w p n v i m 2
  unfolding term_count head_order order_number
  second-left ha hb = record { most = omega arith; first = λ e. absurd (omega arith); second = λ e. omega arith; alike = λ e f. absurd (omega arith); alike' = λ e f. ha; is = go }
    where
      go : (β : Kind → ℕ → Range) (t u : Sum) (x y : List ℤ) → n ≡ term_count t → m ≡ term_count u → drop p w ≡ term_words β t x → drop i v ≡ term_words β u y → 2 ≡ order_number (head_order t u)
      go β (Sum.const k) (Sum.const l) x y f g h j = absurd (hb g)
      go β (Sum.const k) (Sum.term e b u) x y f g h j = refl
      go β (Sum.term c a t) u x y f g h j = absurd (omega arith)

  pub first-left : (n ≡ 0 → ⊥) → m ≡ 0 → Orders w p n v i m 0
  unfolding term_count head_order order_number
  first-left ha hb = record { most = omega arith; first = λ e. omega arith; second = λ e. absurd (omega arith); alike = λ e f. hb; alike' = λ e f. absurd (omega arith); is = go }
    where
      go : (β : Kind → ℕ → Range) (t u : Sum) (x y : List ℤ) → n ≡ term_count t → m ≡ term_count u → drop p w ≡ term_words β t x → drop i v ≡ term_words β u y → 0 ≡ order_number (head_order t u)
      go β (Sum.const k) u x y f g h j = absurd (ha f)
      go β (Sum.term c a t) (Sum.const l) x y f g h j = refl
      go β (Sum.term c a t) (Sum.term e b u) x y f g h j = absurd (omega arith)

  pub both_left : (q j r : ℕ) → (n ≡ 0 → ⊥) → (m ≡ 0 → ⊥) → SkipsAtom w p q → SkipsAtom v i j → r ≡ order_number (word_order (take (q - p) (drop p w)) (take (j - i) (drop i v))) → Orders w p n v i m r
  unfolding term_count head_order term_words
  both_left q j r ha hb s z e = record { most = omega (arith, order-most (word_order (take (q - p) (drop p w)) (take (j - i) (drop i v)))); first = λ e. omega arith; second = λ e. omega arith; alike = λ e f. absurd (ha f); alike' = λ e f. absurd (hb f); is = go }
    where
      go : (β : Kind → ℕ → Range) (t u : Sum) (x y : List ℤ) → n ≡ term_count t → m ≡ term_count u → drop p w ≡ term_words β t x → drop i v ≡ term_words β u y → r ≡ order_number (head_order t u)
      go β (Sum.const k) u x y f g h l = absurd (ha f)
      go β (Sum.term c a t) (Sum.const l) x y f g h k = absurd (hb g)
      go β (Sum.term c a t) (Sum.term d b u) x y f g h k =
          e ∙ ap order_number (ap₂ word_order (atom-words β w p q a (c ∷ term_words β t x) s h) (atom-words β v i j b (d ∷ term_words β u y) z k) ∙ atoms-order β a b)

-- ws first, and then what is made
pub extend : (o o1 : List ℤ) (at e : ℕ) (ws S z : List ℤ) → Puts o o1 at e ws → z ≡ take (length o1) (take e o1 ++ S) → z ≡ take (length o) (take at o ++ (ws ++ S))
extend o o1 at e ws S z h g =
    g ∙ ap (λ (n : ℕ). take n (take e o1 ++ S)) h.same ∙ ap (λ (u : List ℤ). take (length o) (u ++ S)) h.is
    ∙ cut (length o) (take at o ++ ws) S ∙ ap (λ (u : List ℤ). take (length o) u) (append_assoc (take at o) ws S)

-- the words of a term: its atom's, and the coefficient
pub term-words : (β : Kind → ℕ → Range) (w : List ℤ) (p q b : ℕ) (a : Atom) (c : ℤ) (x : List ℤ) → SkipsAtom w p q → Forward w q 1 b → drop p w ≡ atom_words β a (c ∷ x) → take (b - p) (drop p w) ≡ atom_words β a [] ++ (c ∷ [])
term-words β w p q b a c x s f e =
    between w p b (atom_words β a [] ++ (c ∷ [])) x (omega (arith, s.low, f.low)) f.high
    (e ∙ atom-rest β a (c ∷ x) ∙ sym (append_assoc (atom_words β a []) (c ∷ []) x))
    (ahead w q 1 b (c ∷ []) x (s.past β a (c ∷ x) e) refl (omega arith) f)

-- a term's words, and those of the sum after it
pub term-first : (β : Kind → ℕ → Range) (c : ℤ) (a : Atom) (t : Sum) → sum_words β (Sum.term c a t) [] ≡ (atom_words β a [] ++ (c ∷ [])) ++ sum_words β t []
unfolding sum_words term_words constant_of
term-first β c a t = atom-rest β a (c ∷ sum_words β t []) ∙ sym (append_assoc (atom_words β a []) (c ∷ []) (sum_words β t []))

abbrev IsMerged : (key : ℤ) (w : List ℤ) (p n : ℕ) (v : List ℤ) (i m : ℕ) (o o' : List ℤ) (at k r : ℕ) → Type 0
IsMerged key w p n v i m o o' at k r =
    (β : Kind → ℕ → Range) (t u : Sum) (x y : List ℤ) → n ≡ term_count t → m ≡ term_count u → drop p w ≡ sum_words β t x → drop i v ≡ sum_words β u y
    → (take r o' ≡ take (length o) (take at o ++ sum_words β (blended key t u) [])) × (k ≡ term_count (blended key t u))

-- a term is written, and then S
one-term : (β : Kind → ℕ → Range) (o o1 : List ℤ) (at e : ℕ) (ws z : List ℤ) (c : ℤ) (a : Atom) (S T : Sum) (k : ℕ) → Puts o o1 at e ws → ws ≡ atom_words β a [] ++ (c ∷ [])
    → (z ≡ take (length o1) (take e o1 ++ sum_words β S [])) × (k ≡ term_count S) → T ≡ Sum.term c a S
    → (z ≡ take (length o) (take at o ++ sum_words β T [])) × (k + 1 ≡ term_count T)
unfolding term_count
one-term β o o1 at e ws z c a S T k h g l j = (
  extend o o1 at e ws (sum_words β S []) z h l.0 ∙ ap (λ (u : List ℤ). take (length o) (take at o ++ (u ++ sum_words β S []))) g
      ∙ ap (λ (u : List ℤ). take (length o) (take at o ++ u)) (sym (term-first β c a S)) ∙ ap (λ (u : Sum). take (length o) (take at o ++ sum_words β u [])) (sym j),
  ap (λ (u : ℕ). u + 1) l.1 ∙ add-one (term_count S) ∙ ap term_count (sym j),
)

module _ (key : ℤ) (w : List ℤ) (p n : ℕ) (v : List ℤ) (i m : ℕ) (d : ℕ) (q b j f : ℕ) (O : Orders w p n v i m d) (s : SkipsAtom w p q) (sf : Forward w q 1 b) (z : SkipsAtom v i j) (zf : Forward v j 1 f) where
  pub take-first : (o o1 o2 o' : List ℤ) (at e1 e2 k r : ℕ) → d ≡ 0 → Puts o o1 at e1 (take (q - p) (drop p w)) → Puts o1 o2 e1 e2 (saturate (key *ℤ get_or w q (pos 0)) ∷ []) → Merges (blended key) w b (n - 1) v i m o2 o' e2 k r → Merges (blended key) w p n v i m o o' at (k + 1) r
  unfolding sum_words term_words term_count constant_of
  take-first o o1 o2 o' at e1 e2 k r g h1 h2 M =
      record { few = omega (arith, M.few, O.first g); high = omega (arith, M.high, h1.same, h2.same); same = M.same ∙ h2.same ∙ h1.same; made = go }
    where
      go : IsMerged key w p n v i m o o' at (k + 1) r
      go β (Sum.const k) u x y en em ew ev = absurd (omega (arith, O.first g))
      go β (Sum.term c a t) u x y en em ew ev =
          let rest = term_words β t (constant_of t ∷ x) in
          let aw = s.past β a (c ∷ rest) ew in
          let vv : saturate (key *ℤ get_or w q (pos 0)) ≡ saturate (key *ℤ c) = ap (λ (z : ℤ). saturate (key *ℤ z)) (word-is w q c rest aw) in
          one-term β o o2 at e2 _ _ (saturate (key *ℤ c)) a (blended key t u) _ k (both o o1 o2 at e1 e2 _ _ h1 h2)
          (ap₂ (λ (l : List ℤ) (z : ℤ). l ++ (z ∷ [])) (atom-words β w p q a (c ∷ rest) s ew) vv)
          (M.made β t u x y (omega arith) em (ahead w q 1 b (c ∷ []) rest aw refl (omega arith) sf) ev)
          (blend-lt key c a t u (is_lt _ (sym g ∙ O.is β (Sum.term c a t) u (constant_of t ∷ x) (constant_of u ∷ y) en em ew ev)))

  pub take_second : (o o1 o' : List ℤ) (at e k r : ℕ) → d ≡ 2 → Puts o o1 at e (take (f - i) (drop i v)) → Merges (blended key) w p n v f (m - 1) o1 o' e k r → Merges (blended key) w p n v i m o o' at (k + 1) r
  unfolding sum_words term_words term_count constant_of
  take_second o o1 o' at e k r g h M =
      record { few = omega (arith, M.few, O.second g); high = omega (arith, M.high, h.same); same = M.same ∙ h.same; made = go }
    where
      go : IsMerged key w p n v i m o o' at (k + 1) r
      go β t (Sum.const l) x y en em ew ev = absurd (omega (arith, O.second g))
      go β t (Sum.term c a u) x y en em ew ev =
          let rest = term_words β u (constant_of u ∷ y) in
          one-term β o o1 at e _ _ c a (blended key t u) _ k h (term-words β v i j f a c rest z zf ev)
          (M.made β t u x y en (omega arith) ew (ahead v j 1 f (c ∷ []) rest (z.past β a (c ∷ rest) ev) refl (omega arith) zf))
          (blend-gt key t c a u (is_gt _ (sym g ∙ O.is β t (Sum.term c a u) (constant_of t ∷ x) (constant_of u ∷ y) en em ew ev)))

  pub take_none : (o o' : List ℤ) (at r : ℕ) → d ≡ 1 → n ≡ 0 → Puts o o' at r (saturate ((key *ℤ get_or w p (pos 0)) +ℤ get_or v i (pos 0)) ∷ []) → Merges (blended key) w p n v i m o o' at 0 r
  unfolding sum_words term_words term_count constant_of
  take_none o o' at r g nz h = record { few = omega arith; high = h.high; same = h.same; made = go }
    where
      go : IsMerged key w p n v i m o o' at 0 r
      go β (Sum.term c a t) u x y en em ew ev = absurd (omega arith)
      go β (Sum.const k) (Sum.term c a u) x y en em ew ev = absurd (omega (arith, O.alike g nz))
      go β (Sum.const k) (Sum.const l) x y en em ew ev =
          let e : blended key (Sum.const k) (Sum.const l) ≡ Sum.const (saturate ((key *ℤ get_or w p (pos 0)) +ℤ get_or v i (pos 0))) = blend-const key k l ∙ ap₂ (λ (a b : ℤ). Sum.const (saturate ((key *ℤ a) +ℤ b))) (sym (word-is w p k x ew)) (sym (word-is v i l y ev)) in
          (h.is ∙ ap (λ (u : Sum). take (length o) (take at o ++ sum_words β u [])) (sym e), ap term_count (sym e))

  -- both have the next atom
  pub take-zero : (o o' : List ℤ) (at k r : ℕ) → d ≡ 1 → (n ≡ 0 → ⊥) → saturate ((key *ℤ get_or w q (pos 0)) +ℤ get_or v j (pos 0)) ≡ pos 0 → Merges (blended key) w b (n - 1) v f (m - 1) o o' at k r → Merges (blended key) w p n v i m o o' at k r
  unfolding sum_words term_words term_count constant_of
  take-zero o o' at k r g nz h M = record { few = omega (arith, M.few); high = M.high; same = M.same; made = go }
    where
      go : IsMerged key w p n v i m o o' at k r
      go β (Sum.const k) u x y en em ew ev = absurd (nz en)
      go β (Sum.term c a t) (Sum.const l) x y en em ew ev = absurd (nz (O.alike' g em))
      go β (Sum.term c a t) (Sum.term e a' u) x y en em ew ev =
          let rw1 = term_words β t (constant_of t ∷ x) in
          let rv1 = term_words β u (constant_of u ∷ y) in
          let aw = s.past β a (c ∷ rw1) ew in
          let av = z.past β a' (e ∷ rv1) ev in
          let l = M.made β t u x y (omega arith) (omega arith) (ahead w q 1 b (c ∷ []) rw1 aw refl (omega arith) sf) (ahead v j 1 f (e ∷ []) rv1 av refl (omega arith) zf) in
          let E = blend-eq key c a t e a' u (is_eq _ (sym g ∙ O.is β (Sum.term c a t) (Sum.term e a' u) (constant_of t ∷ x) (constant_of u ∷ y) en em ew ev))
          ∙ cons-zero (saturate ((key *ℤ c) +ℤ e)) a' (blended key t u) (ap₂ (λ (a b : ℤ). saturate ((key *ℤ a) +ℤ b)) (sym (word-is w q c rw1 aw)) (sym (word-is v j e rv1 av)) ∙ h) in
          (l.0 ∙ ap (λ (u : Sum). take (length o) (take at o ++ sum_words β u [])) (sym E), l.1 ∙ ap term_count (sym E))

  pub take-both : (o o1 o2 o' : List ℤ) (at e1 e2 k r : ℕ) (val : ℤ) → d ≡ 1 → (n ≡ 0 → ⊥) → val ≡ saturate ((key *ℤ get_or w q (pos 0)) +ℤ get_or v j (pos 0)) → (val ≡ pos 0 → ⊥)
      → Puts o o1 at e1 (take (j - i) (drop i v)) → Puts o1 o2 e1 e2 (val ∷ []) → Merges (blended key) w b (n - 1) v f (m - 1) o2 o' e2 k r → Merges (blended key) w p n v i m o o' at (k + 1) r
  unfolding sum_words term_words term_count constant_of
  take-both o o1 o2 o' at e1 e2 k r val g nz hv h h1 h2 M =
      record { few = omega (arith, M.few, one-more-left n m nz (O.alike' g)); high = omega (arith, M.high, h1.same, h2.same); same = M.same ∙ h2.same ∙ h1.same; made = go }
    where
      go : IsMerged key w p n v i m o o' at (k + 1) r
      go β (Sum.const k) u x y en em ew ev = absurd (nz en)
      go β (Sum.term c a t) (Sum.const l) x y en em ew ev = absurd (nz (O.alike' g em))
      go β (Sum.term c a t) (Sum.term e a' u) x y en em ew ev =
          let rw1 = term_words β t (constant_of t ∷ x) in
          let rv1 = term_words β u (constant_of u ∷ y) in
          let aw = s.past β a (c ∷ rw1) ew in
          let av = z.past β a' (e ∷ rv1) ev in
          let vv : saturate ((key *ℤ c) +ℤ e) ≡ val = ap₂ (λ (a b : ℤ). saturate ((key *ℤ a) +ℤ b)) (sym (word-is w q c rw1 aw)) (sym (word-is v j e rv1 av)) ∙ sym hv in
          let l = M.made β t u x y (omega arith) (omega arith) (ahead w q 1 b (c ∷ []) rw1 aw refl (omega arith) sf) (ahead v j 1 f (e ∷ []) rv1 av refl (omega arith) zf) in
          let E = blend-eq key c a t e a' u (is_eq _ (sym g ∙ O.is β (Sum.term c a t) (Sum.term e a' u) (constant_of t ∷ x) (constant_of u ∷ y) en em ew ev))
          ∙ ap (λ (x : ℤ). cons_term x a' (blended key t u)) vv ∙ cons-more val a' (blended key t u) h in
          one-term β o o2 at e2 _ _ val a' (blended key t u) _ k (both o o1 o2 at e1 e2 _ (val ∷ []) h1 h2) (ap (λ (l : List ℤ). l ++ (val ∷ [])) (atom-words β v i j a' (e ∷ rv1) z ev)) l E
