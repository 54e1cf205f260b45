-- What a new floordiv or mod leaves outside: its coefficients are small, and the words of both find room. Assumes nothing.
use mathlib.Core.Path.{◌≡◌, refl, sym, ap, subst}
use mathlib.Core.Logic.{◌≢◌}
use mathlib.Core.Bool.{Bool, true, false, cond, ◌&&◌}
use mathlib.Core.List.{List, [], ◌∷◌}
use Prim.Native.Nat.{ℕ, zero, suc, ◌+◌, ◌*◌, ◌/◌, ◌^◌, ◌<◌, ◌≤◌}
use native.Mathlib.Omega.{arith}
use native.Mathlib.Nat as NatL
use lib.Dec.{T, eqb, leb, leb→le}
use lib.IntN.{ℤ, pos, negsuc, neg_ℤ, nat_abs, ◌*ℤ◌}
use Rattle.integer.specs.Exact.{limit}
use Rattle.integer.specs.Floor.{floor_div}
use borrow.Author.Tests.{leb-true}
use Rattle.radix.proofs.Tests.{and_left, and_right}
use Rattle.expression.specs.Expression.{Kind, Op, floordiv, modulo, Range, span, eqℤ, is_small, small_range, add_range, mul_range}
use Rattle.expression.specs.Node.{max_divisor}
use Rattle.folding.specs.Sum.{Atom, Sum, atom_range, sum_size}
use Rattle.folding.specs.Fold.{Step, is, again, add_constant, divides, part_p, part_r, one_quotient, quotient_of, divisors_tried, keeps_all, stays, rule1, rule2, rule3, rule4, rules34, rules2, apply_rule}
use Rattle.folding.specs.Folded.{flag}
use Rattle.folding.specs.Working.{small_from, small_sum}
use Rattle.folding.proofs.Divisors.{Tried, all-tried}
use Rattle.folding.proofs.Ending.{keeps-rest, flag-le, flag_true, size-part_p, size-part_r, size-constant}
use Rattle.folding.proofs.Size.{size-parts}
use Rattle.words.proofs.Saturated.{sat-in}
use Rattle.words.specs.Merged.{Kept}
use Rattle.rules.specs.Outcome.{rules_room}

-- every coefficient is within the limit
unfoldable pub SmallTerms : Sum → Type 0
SmallTerms (Sum.const k) = Unit {0}
SmallTerms (Sum.term c a t) = (nat_abs c ≤ limit) × SmallTerms t

from-small : (β : Kind → ℕ → Range) (r : Range) (t : Sum) → small_from β r t ≡ true → SmallTerms t
unfolding small_from SmallTerms
from-small β r (Sum.const k) e = tt
from-small β r (Sum.term c a t) e =
    let p = mul_range c (atom_range a β) in
    let q = add_range r p in
    let front = and_left ((is_small c && small_range p) && small_range q) (small_from β q t) e in (
      leb-true (nat_abs c) limit (and_left (is_small c) (small_range p) (and_left (is_small c && small_range p) (small_range q) front)),
      from-small β q t (and_right ((is_small c && small_range p) && small_range q) (small_from β q t) e),
    )

pub small-terms : (β : Kind → ℕ → Range) (t : Sum) → small_sum β t ≡ true → SmallTerms t
unfolding small_sum
small-terms β t e = from-small β (span (pos 0) (pos 0)) t e

pub terms-kept : (t : Sum) → SmallTerms t → Kept t
unfolding SmallTerms Kept
terms-kept (Sum.const k) h = tt
terms-kept (Sum.term c a t) h = (sat-in c h.0, terms-kept t h.1)

-- ---- the parts of a sum with small coefficients have small coefficients

div-small : (c : ℤ) (g : ℕ) → nat_abs c ≤ limit → nat_abs (floor_div c g) ≤ limit
div-small (pos n) g h = NatL.le_trans (NatL.div-le_self n g) h
div-small (negsuc n) g h = let k = NatL.div-le_self n g in omega arith

part_p-small : (g : ℕ) (t : Sum) → SmallTerms t → SmallTerms (part_p g t)
unfolding part_p SmallTerms
part_p-small g (Sum.const k) h = tt
part_p-small g (Sum.term c a t) h = go (divides g c) (part_p-small g t h.1)
  where
    go : (b : Bool) → SmallTerms (part_p g t) → SmallTerms (cond b (Sum.term (floor_div c g) a (part_p g t)) (part_p g t))
    go true ih = (div-small c g h.0, ih)
    go false ih = ih

part_r-small : (g : ℕ) (t : Sum) → SmallTerms t → SmallTerms (part_r g t)
unfolding part_r SmallTerms
part_r-small g (Sum.const k) h = tt
part_r-small g (Sum.term c a t) h = go (divides g c) (part_r-small g t h.1)
  where
    go : (b : Bool) → SmallTerms (part_r g t) → SmallTerms (cond b (part_r g t) (Sum.term c a (part_r g t)))
    go true ih = ih
    go false ih = (h.0, ih)

constant-small : (z : ℤ) (t : Sum) → SmallTerms t → SmallTerms (add_constant z t)
unfolding add_constant SmallTerms
constant-small z (Sum.const k) h = tt
constant-small z (Sum.term c a t) h = (h.0, constant-small z t h.1)

-- ---- the rest a of a new floordiv or mod k * (u op e) + a, where c is at most 2^j

pub record Leaves (t : Sum) (c j : ℕ) (k : ℤ) (u : Sum) (e : ℕ) (a : Sum) : Type 0 where
  pub factor : k ≢ pos 0
  pub small : SmallTerms a
  pub smaller : sum_size u + sum_size a ≤ sum_size t
  pub exponent : ℕ
  pub below : e ≤ 2 ^ exponent
  pub room : 7 * sum_size a + 1 + rules_room u e exponent ≤ rules_room t c j

unfoldable pub LeavesIn : Sum → ℕ → ℕ → Step → Type 0
LeavesIn t c j (is u) = Unit {0}
LeavesIn t c j (again k u e a) = Leaves t c j k u e a

one_not_zero : pos 1 ≢ pos 0
one_not_zero e = let z : ◌≡◌ {A = ℕ} 1 0 = ap nat_abs e in absurd (omega arith)

above-not-zero : (g : ℕ) → 1 < g → pos g ≢ pos 0
above-not-zero g h e = let z : g ≡ 0 = ap nat_abs e in absurd (omega arith)

-- a quotient by more than 1 needs one binary digit less
halved : (c g i : ℕ) → 1 < g → c ≤ 2 ^ suc i → c / g ≤ 2 ^ i
halved c g i h k =
    let less : 2 * (c / g) ≤ g * (c / g) = NatL.mul-le-mul_right (c / g) h in
    omega (arith, NatL.mul-div-le c g, NatL.two-pow-succ i)

module _ (t : Sum) (c : ℕ) (large : 1 < c) (h : SmallTerms t) where
  rule2-leaves : (o : Op) (g : ℕ) (q : ℤ) (j : ℕ) → 1 < g → c ≤ 2 ^ j → LeavesIn t c j (rule2 o t c g q)
  unfolding LeavesIn rule2 sum_size SmallTerms
  rule2-leaves o g q zero k i = absurd (omega arith)
  rule2-leaves floordiv g q (suc j) k i =
      record {
        factor = one_not_zero;
        small = tt;
        smaller = omega (arith, size-constant q (part_p g t), size-part_p g t);
        exponent = j;
        below = halved c g j k i;
        room = omega (arith, size-constant q (part_p g t), size-part_p g t, flag-le (keeps_all (c / g) (add_constant q (part_p g t))));
      }
  rule2-leaves modulo g q (suc j) k i =
      let z = neg_ℤ (q *ℤ pos g) in
      record {
        factor = above-not-zero g k;
        small = constant-small z (part_r g t) (part_r-small g t h);
        smaller = omega (arith, size-constant q (part_p g t), size-constant z (part_r g t), size-parts g t);
        exponent = j;
        below = halved c g j k i;
        room = omega (arith, size-constant q (part_p g t), size-constant z (part_r g t), size-parts g t, flag-le (keeps_all (c / g) (add_constant q (part_p g t))));
      }

  rule3-leaves : (o : Op) (j : ℕ) → c ≤ 2 ^ j → keeps_all c t ≡ false → LeavesIn t c j (rule3 o t c)
  unfolding LeavesIn rule3 sum_size SmallTerms flag
  rule3-leaves floordiv j i e =
      record {
        factor = one_not_zero;
        small = part_p-small c t h;
        smaller = omega (arith, size-parts c t);
        exponent = j;
        below = i;
        room = omega (arith, size-parts c t, flag_true (keeps_all c (part_r c t)) (keeps-rest c t (omega arith)), ap flag e);
      }
  rule3-leaves modulo j i e =
      record {
        factor = one_not_zero;
        small = tt;
        smaller = omega (arith, size-part_r c t);
        exponent = j;
        below = i;
        room = omega (arith, size-part_r c t, flag_true (keeps_all c (part_r c t)) (keeps-rest c t (omega arith)), ap flag e);
      }

-- rule 4: one atom less
module _ (e k : ℤ) (x : Sum) (a c j : ℕ) where
  nested : Sum
  nested = Sum.term e (Atom.op floordiv x a) (Sum.const k)

  rule4-nested : LeavesIn nested c j (rule4 floordiv nested c)
  unfolding nested rule4 LeavesIn stays sum_size SmallTerms
  rule4-nested = go (eqℤ e (pos 1)) (eqℤ k (pos 0)) (leb (a * c) max_divisor) (λ w. leb→le (a * c) max_divisor w)
    where
      go : (b1 b2 b3 : Bool) → (T b3 → a * c ≤ max_divisor)
          → LeavesIn nested c j (cond b1 (cond b2 (cond b3 (again (pos 1) x (a * c) (Sum.const (pos 0))) (stays floordiv nested c)) (stays floordiv nested c)) (stays floordiv nested c))
      go true true true f =
          record {
            factor = one_not_zero;
            small = tt;
            smaller = omega arith;
            exponent = 40;
            below = f tt;
            room = omega (arith, flag-le (keeps_all (a * c) x));
          }
      go true true false f = tt
      go true false b3 f = tt
      go false b2 b3 f = tt

rule4-leaves : (o : Op) (t : Sum) (c j : ℕ) → LeavesIn t c j (rule4 o t c)
unfolding rule4 LeavesIn stays nested
rule4-leaves modulo t c j = tt
rule4-leaves floordiv (Sum.const k) c j = tt
rule4-leaves floordiv (Sum.term e (Atom.var k n) t) c j = tt
rule4-leaves floordiv (Sum.term e (Atom.op modulo x a) t) c j = tt
rule4-leaves floordiv (Sum.term e (Atom.op floordiv x a) (Sum.term f b t)) c j = tt
rule4-leaves floordiv (Sum.term e (Atom.op floordiv x a) (Sum.const k)) c j = rule4-nested e k x a c j

module _ (β : Kind → ℕ → Range) (o : Op) (t : Sum) (c j : ℕ) (large : 1 < c) (fits : c ≤ 2 ^ j) (h : SmallTerms t) where
  rules34-leaves : LeavesIn t c j (rules34 o t c)
  unfolding rules34
  rules34-leaves = go (keeps_all c t) refl
    where
      go : (b : Bool) → keeps_all c t ≡ b → LeavesIn t c j (cond b (rule4 o t c) (rule3 o t c))
      go true e = rule4-leaves o t c j
      go false e = rule3-leaves t c large h o j fits e

  rules2-leaves : (gs : List ℕ) → Tried c gs → LeavesIn t c j (rules2 β o t c gs)
  unfolding rules2 Tried
  rules2-leaves [] v = rules34-leaves
  rules2-leaves (g ∷ gs) v = go (one_quotient β g (part_r g t)) (rules2-leaves gs v.2)
    where
      go : (b : Bool) → LeavesIn t c j (rules2 β o t c gs) → LeavesIn t c j (cond b (rule2 o t c g (quotient_of β g (part_r g t))) (rules2 β o t c gs))
      go true ih = rule2-leaves t c large h o g (quotient_of β g (part_r g t)) j v.0 fits
      go false ih = ih

-- the rest of any rule
rule-leaves : (β : Kind → ℕ → Range) (o : Op) (t : Sum) (c j : ℕ) → 0 < c → c ≤ 2 ^ j → SmallTerms t → LeavesIn t c j (apply_rule β o t c)
unfolding apply_rule divisors_tried Tried LeavesIn rule1
rule-leaves β o t c j p fits h = go (eqb c 1) refl
  where
    one : (x : Op) → LeavesIn t c j (rule1 x t)
    one floordiv = tt
    one modulo = tt

    above : eqb c 1 ≡ false → 1 < c
    above e = let n : c ≢ 1 = λ r. subst (λ (b : Bool). T b) e (subst (λ (x : ℕ). T (eqb x 1)) (sym r) (lib.Dec.eqb_refl 1)) in omega arith

    go : (b : Bool) → eqb c 1 ≡ b → LeavesIn t c j (cond b (rule1 o t) (rules2 β o t c (divisors_tried c t)))
    go true e = one o
    go false e = rules2-leaves β o t c j (above e) fits h (divisors_tried c t) (all-tried c t (above e))

pub leaves : (β : Kind → ℕ → Range) (o : Op) (t : Sum) (c j : ℕ) (k : ℤ) (u : Sum) (e : ℕ) (a : Sum) → 0 < c → c ≤ 2 ^ j → SmallTerms t
    → apply_rule β o t c ≡ again k u e a → Leaves t c j k u e a
unfolding LeavesIn
leaves β o t c j k u e a p fits h q = subst (λ (s : Step). LeavesIn t c j s) q (rule-leaves β o t c j p fits h)
