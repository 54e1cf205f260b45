-- Rule 4: a floordiv of exactly one floordiv. Assumes nothing.
use mathlib.Core.Path.{◌≡◌, refl, sym, ap, ◌∙◌, subst}
use mathlib.Core.Bool.{Bool, true, false, cond, ◌&&◌}
use mathlib.Core.List.{List, [], ◌∷◌}
use Prim.Native.Nat.{ℕ, ◌*◌, ◌<◌, ◌≤◌}
use native.Mathlib.Omega.{arith}
use native.Mathlib.Nat.{mul-pos}
use native.Mathlib.Decide.{dec_lt}
use borrow.Author.Tests.{lt-ltb, le-ltb, le-leb, lt-leb, leb-true, leb-false, ltb-true, ltb-false}
use lib.Dec.{T, leb, ltb}
use lib.IntN.{ℤ, pos, negsuc, nat_abs, ◌*ℤ◌}
use lib.ListN.{drop, get_or}
use lib.Signed.{◌<ℤ◌, lt_z}
use Rattle.expression.specs.Expression.{Kind, Op, floordiv, modulo, Range, eqℤ}
use Rattle.expression.specs.Node.{max_divisor}
use Rattle.expression.proofs.Within.{eqℤ-eq}
use Rattle.folding.specs.Sum.{Atom, Sum, term_count, kind_number, op_number, atom_range}
use Rattle.folding.specs.Fold.{Step, again, stays, rule4}
use Rattle.folding.specs.Folded.{FoldedS}
use Rattle.words.specs.Words.{atom_words, term_words, sum_words, constant_of}
use Rattle.words.proofs.Reading.{word-is, kind-small}
use Rattle.words.specs.Saturated.{saturate}
use Rattle.words.proofs.Saturated.{sat-in, sat-out}
use Rattle.words.specs.Promises.{Forward, SkipsAtom}
use Rattle.words.proofs.Skipping.{ahead}
use Rattle.words.proofs.Tests.{clash}
use Rattle.words.proofs.Trial.{try-yes}
use Rattle.rules.specs.Rules.{kept_divisor, nested_divisor, Nests}

-- an atom's first word
kind_of : Atom → ℕ
kind_of (Atom.var l m) = kind_number l
kind_of (Atom.op o x a) = op_number o

-- ---- a divisor kept

pub divisor-safe : (z : ℤ) → (kept_divisor z ≡ pos 0 → ⊥) → (pos 0 <ℤ kept_divisor z) × (nat_abs (kept_divisor z) ≤ max_divisor)
unfolding kept_divisor
divisor-safe (negsuc m) h = absurd (h refl)
divisor-safe (pos m) h = go (ltb 0 m) (leb m max_divisor) refl refl h
  where
    go : (a b : Bool) → ltb 0 m ≡ a → leb m max_divisor ≡ b → (cond (a && b) (pos m) (pos 0) ≡ pos 0 → ⊥) → (pos 0 <ℤ cond (a && b) (pos m) (pos 0)) × (nat_abs (cond (a && b) (pos m) (pos 0)) ≤ max_divisor)
    go true true i j k = (record { lt = subst T (sym i) tt }, leb-true m max_divisor j)
    go true false i j k = absurd (k refl)
    go false b i j k = absurd (k refl)

pub divisor-low : (z : ℤ) → lt_z z (pos 1) ≡ true → pos 0 ≡ kept_divisor z
unfolding kept_divisor
divisor-low (pos m) e = let h = ltb-true m 1 e in rw (le-ltb 0 m (omega arith)) refl
divisor-low (negsuc m) e = refl

pub divisor-high : (z : ℤ) → lt_z (pos max_divisor) z ≡ true → pos 0 ≡ kept_divisor z
unfolding kept_divisor
divisor-high (pos m) e = let h = ltb-true max_divisor m e in rw (lt-ltb 0 m (omega arith), lt-leb m max_divisor h) refl
divisor-high (negsuc m) e = clash e

pub divisor-kept : (z : ℤ) → lt_z z (pos 1) ≡ false → lt_z (pos max_divisor) z ≡ false → z ≡ kept_divisor z
unfolding kept_divisor
divisor-kept (pos m) e f = let h = ltb-false m 1 e in let k = ltb-false max_divisor m f in rw (lt-ltb 0 m (omega arith), le-leb m max_divisor k) refl
divisor-kept (negsuc m) e f = clash (sym e)

-- a * c, where it is a divisor, by the product that is kept within the limit
product-kept : (a c : ℕ) → 0 < a → 0 < c → kept_divisor (saturate (pos a *ℤ pos c)) ≡ pos (cond (leb (a * c) max_divisor) (a * c) 0)
unfolding kept_divisor
product-kept a c h k = go (leb (a * c) max_divisor) refl
  where
    m : ℕ
    m = a * c

    large : Dec (4611686018427387904 < m) → max_divisor < m → lt_z (pos max_divisor) (saturate (pos m)) ≡ true
    large (yes j) i = rw (sat-out (pos m) j) (lt-ltb max_divisor 4611686018427387905 (omega arith))
    large (no j) i = rw (sat-in (pos m) (omega arith)) (lt-ltb max_divisor m i)

    go : (b : Bool) → leb m max_divisor ≡ b → kept_divisor (saturate (pos m)) ≡ pos (cond b m 0)
    go true e = let i = leb-true m max_divisor e in rw (sat-in (pos m) (omega arith), lt-ltb 0 m (mul-pos h k), e) refl
    go false e = sym (divisor-high (saturate (pos m)) (large (dec_lt 4611686018427387904 m) (leb-false m max_divisor e)))

-- ---- the words of one floordiv

at-kind : (w : List ℤ) (p : ℕ) (β : Kind → ℕ → Range) (e : ℤ) (z : Atom) (t : Sum) (y : List ℤ) → drop p w ≡ sum_words β (Sum.term e z t) y → nat_abs (get_or w p (pos 0)) ≡ kind_of z
unfolding sum_words term_words constant_of atom_words kind_of
at-kind w p β e (Atom.var l m) t y h = ap nat_abs (word-is w p _ _ h)
at-kind w p β e (Atom.op o x a) t y h = ap nat_abs (word-is w p _ _ h)

module _ (w : List ℤ) (p : ℕ) (β : Kind → ℕ → Range) (e : ℤ) (x : Sum) (a : ℕ) (k : ℤ) (y : List ℤ) (standing : drop p w ≡ sum_words β (Sum.term e (Atom.op floordiv x a) (Sum.const k)) y) where
  pub at-floordiv : nat_abs (get_or w p (pos 0)) ≡ 3
  unfolding kind_of op_number
  at-floordiv = at-kind w p β e (Atom.op floordiv x a) (Sum.const k) y standing

  pub at-coefficient : (q : ℕ) → SkipsAtom w p q → get_or w q (pos 0) ≡ e
  unfolding sum_words term_words constant_of
  at-coefficient q s = word-is w q e (k ∷ y) (s.past β (Atom.op floordiv x a) (e ∷ k ∷ y) standing)

  pub at_constant : (q b : ℕ) → SkipsAtom w p q → Forward w q 1 b → get_or w b (pos 0) ≡ k
  unfolding sum_words term_words constant_of
  at_constant q b s f = word-is w b k y (ahead w q 1 b (e ∷ []) (k ∷ y) (s.past β (Atom.op floordiv x a) (e ∷ k ∷ y) standing) refl (omega arith) f)

  at_divisor : (d : ℕ) → Forward w p 1 d → get_or w d (pos 0) ≡ pos a
  unfolding sum_words term_words constant_of atom_words
  at_divisor d g =
      let z = atom_range (Atom.op floordiv x a) β in
      let rest = pos (term_count x) ∷ term_words β x (constant_of x ∷ z.lo ∷ z.hi ∷ e ∷ k ∷ y) in
      word-is w d (pos a) rest (ahead w p 1 d (pos (op_number floordiv) ∷ []) (pos a ∷ rest) standing refl (omega arith) g)

module _ (op : ℕ) (w : List ℤ) (p n c : ℕ) where
  -- one floordiv, once and without a constant, does not stand here
  pub nest-not : ((β : Kind → ℕ → Range) (e : ℤ) (x : Sum) (a : ℕ) (k : ℤ) (y : List ℤ) → op ≡ 3 → n ≡ 1 → drop p w ≡ sum_words β (Sum.term e (Atom.op floordiv x a) (Sum.const k)) y → e ≡ pos 1 → k ≡ pos 0 → ⊥)
      → Nests op w p n c (pos 0)
  unfolding nested_divisor term_count op_number
  nest-not h = record { safe = λ i. absurd (i refl); is = go }
    where
      go : (β : Kind → ℕ → Range) (o : Op) (t : Sum) (y : List ℤ) → op ≡ op_number o → n ≡ term_count t → drop p w ≡ sum_words β t y → FoldedS β t → pos 0 ≡ pos (nested_divisor o c t)
      go β modulo t y i j st F = refl
      go β floordiv (Sum.const k) y i j st F = refl
      go β floordiv (Sum.term e (Atom.var l m) t) y i j st F = refl
      go β floordiv (Sum.term e (Atom.op modulo x a) t) y i j st F = refl
      go β floordiv (Sum.term e (Atom.op floordiv x a) (Sum.term e2 z t)) y i j st F = refl
      go β floordiv (Sum.term e (Atom.op floordiv x a) (Sum.const k)) y i j st F = pick (eqℤ e (pos 1)) (eqℤ k (pos 0)) (λ v. v) (λ v. v)
        where
          pick : (u v : Bool) → (T u → T (eqℤ e (pos 1))) → (T v → T (eqℤ k (pos 0))) → pos 0 ≡ pos (cond u (cond v (cond (leb (a * c) max_divisor) (a * c) 0) 0) 0)
          pick true true e1 e2 = absurd (h β e x a k y i j st (eqℤ-eq e (pos 1) (e1 tt)) (eqℤ-eq k (pos 0) (e2 tt)))
          pick true false e1 e2 = refl
          pick false v e1 e2 = refl

  -- the rule's tests hold in the words
  pub nest-is : (q b d : ℕ) (r : ℤ) → 0 < c → SkipsAtom w p q → Forward w q 1 b → Forward w p 1 d
      → op ≡ 3 → n ≡ 1 → nat_abs (get_or w p (pos 0)) ≡ 3 → get_or w q (pos 0) ≡ pos 1 → get_or w b (pos 0) ≡ pos 0 → r ≡ kept_divisor (saturate (get_or w d (pos 0) *ℤ pos c)) → Nests op w p n c r
  unfolding nested_divisor term_count kind_of op_number FoldedS
  nest-is q b d r pc s f g h3 h1 hk hq hb er = record {
    safe = λ i. subst (λ (z : ℤ). (pos 0 <ℤ z) × (nat_abs z ≤ max_divisor)) (sym er) (divisor-safe (saturate (get_or w d (pos 0) *ℤ pos c)) (λ j. i (er ∙ j)));
    is = go;
  }
    where
      go : (β : Kind → ℕ → Range) (o : Op) (t : Sum) (y : List ℤ) → op ≡ op_number o → n ≡ term_count t → drop p w ≡ sum_words β t y → FoldedS β t → r ≡ pos (nested_divisor o c t)
      go β modulo t y i j st F = absurd (omega arith)
      go β floordiv (Sum.const k) y i j st F = absurd (omega arith)
      go β floordiv (Sum.term e (Atom.var l m) t) y i j st F = absurd (omega (arith, at-kind w p β e (Atom.var l m) t y st, kind-small l))
      go β floordiv (Sum.term e (Atom.op modulo x a) t) y i j st F = absurd (omega (arith, at-kind w p β e (Atom.op modulo x a) t y st))
      go β floordiv (Sum.term e (Atom.op floordiv x a) (Sum.term e2 z t)) y i j st F = absurd (omega arith)
      go β floordiv (Sum.term e (Atom.op floordiv x a) (Sum.const k)) y i j st F =
          rw (sym (try-yes e (pos 1) (sym (at-coefficient w p β e x a k y st q s) ∙ hq)), sym (try-yes k (pos 0) (sym (at_constant w p β e x a k y st q b s f) ∙ hb)))
          (er ∙ ap (λ (z : ℤ). kept_divisor (saturate (z *ℤ pos c))) (at_divisor w p β e x a k y st d g) ∙ product-kept a c F.1.0 pc)

-- ---- what the divisor says of the rule

pub nested-none : (β : Kind → ℕ → Range) (o : Op) (t : Sum) (c : ℕ) → 0 < c → FoldedS β t → nested_divisor o c t ≡ 0 → rule4 o t c ≡ stays o t c
unfolding nested_divisor rule4 FoldedS
nested-none β modulo t c h F e = refl
nested-none β floordiv (Sum.const k) c h F e = refl
nested-none β floordiv (Sum.term v (Atom.var l m) t) c h F e = refl
nested-none β floordiv (Sum.term v (Atom.op modulo x a) t) c h F e = refl
nested-none β floordiv (Sum.term v (Atom.op floordiv x a) (Sum.term u z t)) c h F e = refl
nested-none β floordiv (Sum.term v (Atom.op floordiv x a) (Sum.const k)) c h F e = go (eqℤ v (pos 1)) (eqℤ k (pos 0)) (leb (a * c) max_divisor) e
  where
    S : Step
    S = stays floordiv (Sum.term v (Atom.op floordiv x a) (Sum.const k)) c

    go : (i j l : Bool) → cond i (cond j (cond l (a * c) 0) 0) 0 ≡ 0 → cond i (cond j (cond l (again (pos 1) x (a * c) (Sum.const (pos 0))) S) S) S ≡ S
    go true true true z = let m = mul-pos F.1.0 h in absurd (omega arith)
    go true true false z = refl
    go true false l z = refl
    go false j l z = refl

-- one floordiv, and what the rule makes of it
pub record OneFloordiv (o : Op) (t : Sum) (c : ℕ) : Type 0 where
  pub e : ℤ
  pub x : Sum
  pub a : ℕ
  pub k : ℤ
  pub whole : t ≡ Sum.term e (Atom.op floordiv x a) (Sum.const k)
  pub applied : rule4 o t c ≡ again (pos 1) x (nested_divisor o c t) (Sum.const (pos 0))

pub nested-some : (o : Op) (t : Sum) (c : ℕ) → (nested_divisor o c t ≡ 0 → ⊥) → OneFloordiv o t c
unfolding nested_divisor rule4
nested-some modulo t c n = absurd (n refl)
nested-some floordiv (Sum.const k) c n = absurd (n refl)
nested-some floordiv (Sum.term v (Atom.var l m) t) c n = absurd (n refl)
nested-some floordiv (Sum.term v (Atom.op modulo x a) t) c n = absurd (n refl)
nested-some floordiv (Sum.term v (Atom.op floordiv x a) (Sum.term u z t)) c n = absurd (n refl)
nested-some floordiv (Sum.term v (Atom.op floordiv x a) (Sum.const k)) c n =
    record { e = v; x = x; a = a; k = k; whole = refl; applied = go (eqℤ v (pos 1)) (eqℤ k (pos 0)) (leb (a * c) max_divisor) n }
  where
    S : Step
    S = stays floordiv (Sum.term v (Atom.op floordiv x a) (Sum.const k)) c

    go : (i j l : Bool) → (cond i (cond j (cond l (a * c) 0) 0) 0 ≡ 0 → ⊥)
        → cond i (cond j (cond l (again (pos 1) x (a * c) (Sum.const (pos 0))) S) S) S ≡ again (pos 1) x (cond i (cond j (cond l (a * c) 0) 0) 0) (Sum.const (pos 0))
    go true true true z = refl
    go true true false z = absurd (z refl)
    go true false l z = absurd (z refl)
    go false j l z = absurd (z refl)
