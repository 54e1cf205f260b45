-- The rule that fits, case by case: what holds of the outcome of each rule where it fits holds of the outcome. Assumes nothing.
use mathlib.Core.Path.{◌≡◌, refl, ap, ap₂}
use mathlib.Core.Bool.{Bool, true, false, cond}
use mathlib.Core.List.{List, [], ◌∷◌}
use Prim.Native.Nat.{ℕ, ◌*◌, ◌<◌, ◌≤◌}
use borrow.Author.Tests.{eqb-true, leb-true}
use lib.Dec.{T, eqb, leb}
use lib.IntN.{pos}
use Rattle.expression.specs.Expression.{Kind, Op, floordiv, modulo, Range, eqℤ}
use Rattle.expression.specs.Node.{max_divisor}
use Rattle.expression.proofs.Within.{eqℤ-eq}
use Rattle.folding.specs.Sum.{Atom, Sum}
use Rattle.folding.specs.Fold.{part_r, Step, again, rule1, rule2, rule3, rule4, stays, one_quotient, quotient_of, keeps_all, divisors_tried, rules34, rules2, apply_rule}
use Rattle.folding.proofs.Divisors.{Dvd, Tried, all-tried, above-one}

-- x floordiv a
abbrev pub divided : Sum → ℕ → Sum
divided x a = Sum.term (pos 1) (Atom.op floordiv x a) (Sum.const (pos 0))

-- P of the outcome of each rule where it fits, and of the floordiv or mod itself where none does
pub record Cases (β : Kind → ℕ → Range) (o : Op) (t : Sum) (c : ℕ) (P : Step → Type 0) : Type 0 where
  pub first : c ≡ 1 → P (rule1 o t)
  pub second : (g : ℕ) → (0 < c → (1 < g) × Dvd g c) → T (one_quotient β g (part_r g t)) → P (rule2 o t c g (quotient_of β g (part_r g t)))
  pub third : keeps_all c t ≡ false → P (rule3 o t c)
  pub fourth : (x : Sum) (a : ℕ) → o ≡ floordiv → t ≡ divided x a → a * c ≤ max_divisor → P (again (pos 1) x (a * c) (Sum.const (pos 0)))
  pub none : apply_rule β o t c ≡ stays o t c → P (stays o t c)

module _ (β : Kind → ℕ → Range) (c : ℕ) (P : Step → Type 0) where
  rule4-case : (o : Op) (t : Sum) → Cases β o t c P → apply_rule β o t c ≡ rule4 o t c → P (rule4 o t c)
  unfolding rule4
  rule4-case modulo t k q = k.none q
  rule4-case floordiv (Sum.const z) k q = k.none q
  rule4-case floordiv (Sum.term e (Atom.var i n) t) k q = k.none q
  rule4-case floordiv (Sum.term e (Atom.op modulo x a) t) k q = k.none q
  rule4-case floordiv (Sum.term e (Atom.op floordiv x a) (Sum.term f b t)) k q = k.none q
  rule4-case floordiv (Sum.term e (Atom.op floordiv x a) (Sum.const z)) k q =
      go (eqℤ e (pos 1)) (eqℤ z (pos 0)) (leb (a * c) max_divisor) (λ w. eqℤ-eq e (pos 1) w) (λ w. eqℤ-eq z (pos 0) w) (λ w. leb-true (a * c) max_divisor w) q
    where
      kept : Step
      kept = stays floordiv (Sum.term e (Atom.op floordiv x a) (Sum.const z)) c

      -- what rule 4 leaves, by its three tests
      left : Bool → Bool → Bool → Step
      left b1 b2 b3 = cond b1 (cond b2 (cond b3 (again (pos 1) x (a * c) (Sum.const (pos 0))) kept) kept) kept

      go : (b1 b2 b3 : Bool) → (T b1 → e ≡ pos 1) → (T b2 → z ≡ pos 0) → (b3 ≡ true → a * c ≤ max_divisor)
          → apply_rule β floordiv (Sum.term e (Atom.op floordiv x a) (Sum.const z)) c ≡ left b1 b2 b3 → P (left b1 b2 b3)
      go true true true f g h r = k.fourth x a refl (ap₂ (λ y w. Sum.term y (Atom.op floordiv x a) (Sum.const w)) (f tt) (g tt)) (h refl)
      go true true false f g h r = k.none r
      go true false b3 f g h r = k.none r
      go false b2 b3 f g h r = k.none r

  module _ (o : Op) (t : Sum) (k : Cases β o t c P) where
    rules34-case : apply_rule β o t c ≡ rules34 o t c → P (rules34 o t c)
    unfolding rules34
    rules34-case q = go (keeps_all c t) refl q
      where
        go : (b : Bool) → keeps_all c t ≡ b → apply_rule β o t c ≡ cond b (rule4 o t c) (rule3 o t c) → P (cond b (rule4 o t c) (rule3 o t c))
        go true e r = rule4-case o t k r
        go false e r = k.third e

    rules2-case : (gs : List ℕ) → (0 < c → Tried c gs) → apply_rule β o t c ≡ rules2 β o t c gs → P (rules2 β o t c gs)
    unfolding rules2 Tried
    rules2-case [] v q = rules34-case q
    rules2-case (g ∷ gs) v q = go (one_quotient β g (part_r g t)) (λ w. w) (λ r. rules2-case gs (λ h. (v h).2) r) q
      where
        fits : Step
        fits = rule2 o t c g (quotient_of β g (part_r g t))

        go : (b : Bool) → (T b → T (one_quotient β g (part_r g t))) → (apply_rule β o t c ≡ rules2 β o t c gs → P (rules2 β o t c gs))
            → apply_rule β o t c ≡ cond b fits (rules2 β o t c gs) → P (cond b fits (rules2 β o t c gs))
        go true f ih r = k.second g (λ h. ((v h).0, (v h).1)) (f tt)
        go false f ih r = ih r

    pub by_cases : P (apply_rule β o t c)
    unfolding apply_rule
    by_cases = go (eqb c 1) refl
      where
        gs : List ℕ
        gs = divisors_tried c t

        go : (b : Bool) → eqb c 1 ≡ b → P (cond b (rule1 o t) (rules2 β o t c gs))
        go true e = k.first (eqb-true c 1 e)
        go false e = rules2-case gs (λ h. all-tried c t (above-one c h e)) (ap (λ b. cond b (rule1 o t) (rules2 β o t c gs)) e)
