-- Ranges of sums, and the limits. Assumes nothing.
use mathlib.Core.Path.{◌≡◌, refl, sym, ap, ap₂, ◌∙◌}
use mathlib.Core.Bool.{Bool, true, false, cond, ◌&&◌, and_assoc, and_self}
use mathlib.Core.List.{List, [], ◌∷◌, ◌++◌, append_assoc}
use Prim.Native.Nat.{ℕ, ◌+◌, ◌-◌, ◌≤◌}
use native.Mathlib.Omega.{arith}
use lib.IntN.{ℤ, pos, negsuc, ◌+ℤ◌, ◌*ℤ◌, +ℤ_assoc}
use lib.ListN.{length, drop, get_or, length-drop, length-append}
use lib.Seq.{get_or-drop, get_or-append_seam, get_or-append-add}
use lib.Signed.{lt_z}
use borrow.Author.Tests.{le-ltb}
use Rattle.folding.specs.Sum.{Atom, Sum, term_count, kind_number, op_number, atom_range, sum_range}
use Rattle.folding.specs.Working.{small_from}
use Rattle.folding.proofs.Divisors.{one-l}
use Rattle.words.proofs.Tests.{clash}
use Rattle.words.specs.Words.{atom_words, term_words, sum_words, constant_of}
use Rattle.words.proofs.Reading.{word-is}
use Rattle.words.specs.Saturated.{saturate, over_limit}
use Rattle.words.specs.Promises.{Forward, SkipsAtom, AddsEnds, AddsTerm, Reckons}
use Rattle.words.proofs.Skipping.{ahead}
use Rattle.words.proofs.TermByTerm.{terms-rest}
use Rattle.expression.specs.Expression.{Kind, Range, add_range, mul_range, is_small, small_range}

pub sat-ok : (z : ℤ) → is_small (saturate z) ≡ is_small z
unfolding saturate
sat-ok z = go (is_small z) refl
  where
    go : (b : Bool) → is_small z ≡ b → is_small (cond b z over_limit) ≡ b
    go true e = e
    go false e = refl

pub sat-kept : (z : ℤ) → is_small z ≡ true → saturate z ≡ z
unfolding saturate
sat-kept z e = ap (λ (b : Bool). cond b z over_limit) e

pub refused : (c x y lo hi l h : ℤ) → (is_small c && ((is_small x && is_small y) && (is_small (lo +ℤ x) && is_small (hi +ℤ y)))) ≡ false → AddsEnds c x y lo hi false l h
refused c x y lo hi l h e = record { is = sym e; low = λ f. clash f; high = λ f. clash f }

-- both ends of a term are multiplied, and the multiples are kept or pass the limit
turn : (c x y lo hi : ℤ) (ok : Bool) (l h : ℤ) → AddsEnds c (saturate x) (saturate y) lo hi ok l h
    → (ok ≡ (is_small c && ((is_small x && is_small y) && (is_small (lo +ℤ x) && is_small (hi +ℤ y))))) × ((ok ≡ true → l ≡ lo +ℤ x) × (ok ≡ true → h ≡ hi +ℤ y))
turn c x y lo hi ok l h T = (eqn, ((λ e. T.low e ∙ ap (λ (z : ℤ). lo +ℤ z) (sat-kept x (parts e).0), λ e. T.high e ∙ ap (λ (z : ℤ). hi +ℤ z) (sat-kept y (parts e).1))))
  where
    by : (a b : Bool) → is_small x ≡ a → is_small y ≡ b → (is_small (saturate x) && is_small (saturate y)) && (is_small (lo +ℤ saturate x) && is_small (hi +ℤ saturate y)) ≡ (is_small x && is_small y) && (is_small (lo +ℤ x) && is_small (hi +ℤ y))
    by true true e f = rw (sat-kept x e, sat-kept y f) refl
    by true false e f = rw (sat-ok x, sat-ok y, e, f) refl
    by false b e f = rw (sat-ok x, e) refl

    eqn : ok ≡ (is_small c && ((is_small x && is_small y) && (is_small (lo +ℤ x) && is_small (hi +ℤ y))))
    eqn = T.is ∙ ap (λ (b : Bool). is_small c && b) (by (is_small x) (is_small y) refl refl)

    pick : (a b d e : Bool) → (a && ((b && d) && e)) ≡ true → (b ≡ true) × (d ≡ true)
    pick true true true e h = (refl, refl)
    pick true true false e h = clash h
    pick true false d e h = clash h
    pick false b d e h = clash h

    parts : ok ≡ true → (is_small x ≡ true) × (is_small y ≡ true)
    parts e = pick (is_small c) (is_small x) (is_small y) (is_small (lo +ℤ x) && is_small (hi +ℤ y)) (sym eqn ∙ e)

pub up-term : (c a b lo hi : ℤ) (ok : Bool) (l h : ℤ) → lt_z c (pos 0) ≡ false → AddsEnds c (saturate (c *ℤ a)) (saturate (c *ℤ b)) lo hi ok l h → AddsTerm c a b lo hi ok l h
unfolding mul_range add_range
up-term (pos n) a b lo hi ok l h e T = let r = turn (pos n) (pos n *ℤ a) (pos n *ℤ b) lo hi ok l h T in record { is = r.0; low = r.1.0; high = r.1.1 }
up-term (negsuc n) a b lo hi ok l h e T = clash (sym e)

pub down-term : (c a b lo hi : ℤ) (ok : Bool) (l h : ℤ) → lt_z c (pos 0) ≡ true → AddsEnds c (saturate (c *ℤ b)) (saturate (c *ℤ a)) lo hi ok l h → AddsTerm c a b lo hi ok l h
unfolding mul_range add_range
down-term (pos n) a b lo hi ok l h e T = clash (sym (le-ltb n 0 (omega arith)) ∙ e)
down-term (negsuc n) a b lo hi ok l h e T = let r = turn (negsuc n) (negsuc n *ℤ b) (negsuc n *ℤ a) lo hi ok l h T in record { is = r.0; low = r.1.0; high = r.1.1 }

-- an atom's last two words
atom_front : (Kind → ℕ → Range) → Atom → List ℤ
atom_front β (Atom.var k n) = pos (kind_number k) ∷ pos n ∷ []
atom_front β (Atom.op o t c) = pos (op_number o) ∷ pos c ∷ pos (term_count t) ∷ term_words β t (constant_of t ∷ [])

ends_words : (β : Kind → ℕ → Range) (a : Atom) (x : List ℤ) → atom_words β a x ≡ atom_front β a ++ ((atom_range a β).lo ∷ (atom_range a β).hi ∷ x)
unfolding atom_words atom_front atom_range
ends_words β (Atom.var k n) x = refl
ends_words β (Atom.op o t c) x =
    let z = atom_range (Atom.op o t c) β in
    ap (λ (l : List ℤ). pos (op_number o) ∷ pos c ∷ pos (term_count t) ∷ l)
    (terms-rest β t (constant_of t ∷ z.lo ∷ z.hi ∷ x) ∙ sym (append_assoc (term_words β t []) (constant_of t ∷ []) (z.lo ∷ z.hi ∷ x))
    ∙ ap (λ (l : List ℤ). l ++ (z.lo ∷ z.hi ∷ x)) (sym (terms-rest β t (constant_of t ∷ []))))

last-two : (w : List ℤ) (p q : ℕ) (f : List ℤ) (u v : ℤ) (x : List ℤ) → p ≤ q → q ≤ length w → drop p w ≡ f ++ (u ∷ v ∷ x) → drop q w ≡ x
    → (get_or w (q - 2) (pos 0) ≡ u) × (get_or w (q - 1) (pos 0) ≡ v)
last-two w p q f u v x h k e g =
    let n2 : q - 2 ≡ p + length f = omega (arith, length-drop p w, length-drop q w, ap length e, ap length g, length-append f (u ∷ v ∷ x)) in
    let n1 : q - 1 ≡ p + (length f + 1) = omega (arith, length-drop p w, length-drop q w, ap length e, ap length g, length-append f (u ∷ v ∷ x)) in (
      ap (λ (n : ℕ). get_or w n (pos 0)) n2 ∙ sym (get_or-drop p w (length f) (pos 0)) ∙ ap (λ (l : List ℤ). get_or l (length f) (pos 0)) e ∙ get_or-append_seam f u (v ∷ x) (pos 0),
      ap (λ (n : ℕ). get_or w n (pos 0)) n1 ∙ sym (get_or-drop p w (length f + 1) (pos 0)) ∙ ap (λ (l : List ℤ). get_or l (length f + 1) (pos 0)) e ∙ get_or-append-add f (u ∷ v ∷ x) 1 (pos 0),
    )

pub atom-range : (β : Kind → ℕ → Range) (w : List ℤ) (p q : ℕ) (a : Atom) (x : List ℤ) → SkipsAtom w p q → drop p w ≡ atom_words β a x
    → (get_or w (q - 2) (pos 0) ≡ (atom_range a β).lo) × (get_or w (q - 1) (pos 0) ≡ (atom_range a β).hi)
atom-range β w p q a x s e = last-two w p q (atom_front β a) (atom_range a β).lo (atom_range a β).hi x s.low s.high (e ∙ ends_words β a x) (s.past β a x e)

same-range : (β : Kind → ℕ → Range) (t : Sum) (lo hi : ℤ) (P : Range) → small_from β (record { lo = lo +ℤ P.lo; hi = hi +ℤ P.hi }) t ≡ small_from β (add_range (record { lo = lo; hi = hi }) P) t
unfolding add_range
same-range β t lo hi P = refl

sum-lo : (P Q : Range) → P.lo +ℤ Q.lo ≡ (add_range P Q).lo
unfolding add_range
sum-lo P Q = refl

sum-hi : (P Q : Range) → P.hi +ℤ Q.hi ≡ (add_range P Q).hi
unfolding add_range
sum-hi P Q = refl

module _ (w : List ℤ) (p n : ℕ) (lo hi : ℤ) where
  pub of-last : (ok : Bool) (l h : ℤ) → n ≡ 0 → AddsTerm (pos 1) (get_or w p (pos 0)) (get_or w p (pos 0)) lo hi ok l h → Reckons w p n lo hi ok l h
  unfolding term_count sum_words term_words constant_of small_from add_range mul_range sum_range
  of-last ok l h z S = record { is = go; ends = en }
    where
      go : (β : Kind → ℕ → Range) (t : Sum) (x : List ℤ) → n ≡ term_count t → drop p w ≡ sum_words β t x → ok ≡ small_from β (record { lo = lo; hi = hi }) t
      go β (Sum.const k) x f e =
          S.is ∙ rw (word-is w p k x e, one-l k) (ap (λ (b : Bool). b && (is_small (lo +ℤ k) && is_small (hi +ℤ k))) (and_self (is_small k)))
      go β (Sum.term c a t) x f e = absurd (omega arith)

      en : (β : Kind → ℕ → Range) (t : Sum) (x : List ℤ) → n ≡ term_count t → drop p w ≡ sum_words β t x → ok ≡ true → (l ≡ lo +ℤ (sum_range t β).lo) × (h ≡ hi +ℤ (sum_range t β).hi)
      en β (Sum.const k) x f e y = let g = one-l (get_or w p (pos 0)) ∙ word-is w p k x e in (S.low y ∙ ap (λ (z : ℤ). lo +ℤ z) g, S.high y ∙ ap (λ (z : ℤ). hi +ℤ z) g)
      en β (Sum.term c a t) x f e y = absurd (omega arith)

  module _ (q b : ℕ) (nz : n ≡ 0 → ⊥) (s : SkipsAtom w p q) (sf : Forward w q 1 b) where
    pub of-refused : (l h l' h' : ℤ) → AddsTerm (get_or w q (pos 0)) (get_or w (q - 2) (pos 0)) (get_or w (q - 1) (pos 0)) lo hi false l h → Reckons w p n lo hi false l' h'
    unfolding term_count sum_words term_words constant_of small_from
    of-refused l h l' h' S = record { is = go; ends = λ β t x f e y. clash y }
      where
        go : (β : Kind → ℕ → Range) (t : Sum) (x : List ℤ) → n ≡ term_count t → drop p w ≡ sum_words β t x → false ≡ small_from β (record { lo = lo; hi = hi }) t
        go β (Sum.const k) x f e = absurd (nz f)
        go β (Sum.term c a t) x f e =
            let r = atom-range β w p q a (c ∷ term_words β t (constant_of t ∷ x)) s e in
            let k = word-is w q c (term_words β t (constant_of t ∷ x)) (s.past β a (c ∷ term_words β t (constant_of t ∷ x)) e) in
            let y = rw (k, r.0, r.1) at S.is in
            let P = mul_range c (atom_range a β) in
            ap (λ (z : Bool). z && small_from β (add_range (record { lo = lo; hi = hi }) P) t) (y ∙ sym (and_assoc (is_small c) (small_range P) (small_range (add_range (record { lo = lo; hi = hi }) P))))

    pub of-term : (l h : ℤ) (ok : Bool) (l' h' : ℤ) → AddsTerm (get_or w q (pos 0)) (get_or w (q - 2) (pos 0)) (get_or w (q - 1) (pos 0)) lo hi true l h → Reckons w b (n - 1) l h ok l' h' → Reckons w p n lo hi ok l' h'
    unfolding term_count sum_words term_words constant_of small_from sum_range
    of-term l h ok l' h' S M = record { is = go; ends = en }
      where
        go : (β : Kind → ℕ → Range) (t : Sum) (x : List ℤ) → n ≡ term_count t → drop p w ≡ sum_words β t x → ok ≡ small_from β (record { lo = lo; hi = hi }) t
        go β (Sum.const k) x f e = absurd (nz f)
        go β (Sum.term c a t) x f e =
            let y0 = term_words β t (constant_of t ∷ x) in
            let pq = s.past β a (c ∷ y0) e in
            let r = atom-range β w p q a (c ∷ y0) s e in
            let k = word-is w q c y0 pq in
            let y = rw (k, r.0, r.1) at S.is in
            let P = mul_range c (atom_range a β) in
            let lo1 : l ≡ lo +ℤ P.lo = rw (k, r.0, r.1) at (S.low refl) in
            let hi1 : h ≡ hi +ℤ P.hi = rw (k, r.0, r.1) at (S.high refl) in
            let m = M.is β t x (omega arith) (ahead w q 1 b (c ∷ []) y0 pq refl (omega arith) sf) in
            let A = add_range (record { lo = lo; hi = hi }) P in
            m ∙ ap₂ (λ (u v : ℤ). small_from β (record { lo = u; hi = v }) t) lo1 hi1 ∙ same-range β t lo hi P
            ∙ ap (λ (z : Bool). z && small_from β A t) (y ∙ sym (and_assoc (is_small c) (small_range P) (small_range A)))

        en : (β : Kind → ℕ → Range) (t : Sum) (x : List ℤ) → n ≡ term_count t → drop p w ≡ sum_words β t x → ok ≡ true → (l' ≡ lo +ℤ (sum_range t β).lo) × (h' ≡ hi +ℤ (sum_range t β).hi)
        en β (Sum.const k) x f e y = absurd (nz f)
        en β (Sum.term c a t) x f e y =
            let y0 = term_words β t (constant_of t ∷ x) in
            let pq = s.past β a (c ∷ y0) e in
            let r = atom-range β w p q a (c ∷ y0) s e in
            let k = word-is w q c y0 pq in
            let P = mul_range c (atom_range a β) in
            let lo1 : l ≡ lo +ℤ P.lo = rw (k, r.0, r.1) at (S.low refl) in
            let hi1 : h ≡ hi +ℤ P.hi = rw (k, r.0, r.1) at (S.high refl) in
            let m = M.ends β t x (omega arith) (ahead w q 1 b (c ∷ []) y0 pq refl (omega arith) sf) y in (
              m.0 ∙ ap (λ (z : ℤ). z +ℤ (sum_range t β).lo) lo1 ∙ +ℤ_assoc lo P.lo (sum_range t β).lo ∙ ap (λ (z : ℤ). lo +ℤ z) (sum-lo P (sum_range t β)),
              m.1 ∙ ap (λ (z : ℤ). z +ℤ (sum_range t β).hi) hi1 ∙ +ℤ_assoc hi P.hi (sum_range t β).hi ∙ ap (λ (z : ℤ). hi +ℤ z) (sum-hi P (sum_range t β)),
            )
