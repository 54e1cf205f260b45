-- Each rule leaves folded sums and makes the weight fall: so the rules end, and folding gives a folded sum. Assumes nothing.
use mathlib.Core.Path.{◌≡◌, refl, sym, ap, ◌∙◌, subst}
use mathlib.Core.Bool.{Bool, true, false, cond}
use Prim.Native.Nat.{ℕ, zero, suc, ◌+◌, ◌*◌, ◌/◌, ◌<◌, ◌≤◌}
use native.Mathlib.Omega.{arith}
use native.Mathlib.Nat as NatL
use lib.Dec.{T, eqb_refl}
use lib.IntN.{ℤ, pos, negsuc, neg_ℤ, ◌*ℤ◌}
use Rattle.integer.specs.Floor.{floor_div, floor_mod}
use Rattle.expression.specs.Expression.{Kind, Op, floordiv, modulo, Expr, Range, eqℤ}
use Rattle.expression.specs.Node.{max_divisor}
use Rattle.expression.proofs.Ring.{rem_lt, rem_is}
use Rattle.folding.specs.Sum.{Sum, atom_size, sum_size}
use Rattle.folding.specs.Fold.{add_constant, scale_sum, divides, part_p, part_r, Step, is, again, rule1, rule2, rule3, stays, quotient_of, keeps_all, apply_rule, apply_rules, fuel_for, fold_sum}
use Rattle.folding.specs.Folded.{Above, FoldedS, flag, weight}
use Rattle.folding.proofs.Divisors.{PosE, Dvd, quotient-above}
use Rattle.folding.proofs.Cases.{divided, by_cases}
use Rattle.folding.proofs.Atoms.{outcome}
use Rattle.folding.proofs.Merging.{positive-not-zero, constant-folded, add-folded, scale-folded, part_r-folded, part_p-folded}

-- ---- sizes

pub size-parts : (g : ℕ) (t : Sum) → sum_size (part_p g t) + sum_size (part_r g t) ≡ sum_size t
unfolding part_p part_r sum_size
size-parts g (Sum.const k) = omega arith
size-parts g (Sum.term c a t) = go (divides g c) (size-parts g t)
  where
    go : (b : Bool) → sum_size (part_p g t) + sum_size (part_r g t) ≡ sum_size t
        → sum_size (cond b (Sum.term (floor_div c g) a (part_p g t)) (part_p g t)) + sum_size (cond b (part_r g t) (Sum.term c a (part_r g t)))
        ≡ atom_size a + sum_size t
    go true ih = omega arith
    go false ih = omega arith

pub size-part_p : (g : ℕ) (t : Sum) → sum_size (part_p g t) ≤ sum_size t
size-part_p g t = omega (arith, size-parts g t)

pub size-part_r : (g : ℕ) (t : Sum) → sum_size (part_r g t) ≤ sum_size t
size-part_r g t = omega (arith, size-parts g t)

pub size-constant : (z : ℤ) (t : Sum) → sum_size (add_constant z t) ≡ sum_size t
unfolding add_constant sum_size
size-constant z (Sum.const k) = refl
size-constant z (Sum.term c a t) = ap (λ (n : ℕ). atom_size a + n) (size-constant z t)

-- ---- after rule 3 nothing leaves

pub flag-le : (b : Bool) → flag b ≤ 1
unfolding flag
flag-le true = omega arith
flag-le false = omega arith

pub weight-enough : (t : Sum) (c : ℕ) → weight t c < fuel_for t c
unfolding weight fuel_for
weight-enough t c = omega (arith, flag-le (keeps_all c t))

equal-test : (a b : ℤ) → a ≡ b → T (eqℤ a b)
unfolding eqℤ
equal-test (pos a) b e = subst (λ z. T (eqℤ (pos a) z)) e (eqb_refl a)
equal-test (negsuc a) b e = subst (λ z. T (eqℤ (negsuc a) z)) e (eqb_refl a)

pub floor-of-mod : (k : ℤ) (c : ℕ) → 0 < c → floor_div (floor_mod k c) c ≡ pos 0
floor-of-mod k c h = ap (λ z. floor_div z c) (rem_is k c) ∙ ap pos (NatL.div-eq_of_lt (rem_lt k c h))

pub keeps-rest : (c : ℕ) (t : Sum) → 0 < c → T (keeps_all c (part_r c t))
unfolding part_r keeps_all
keeps-rest c (Sum.const k) h = equal-test _ _ (floor-of-mod k c h)
keeps-rest c (Sum.term e a t) h = go (divides c e) refl (keeps-rest c t h)
  where
    go : (b : Bool) → divides c e ≡ b → T (keeps_all c (part_r c t)) → T (keeps_all c (cond b (part_r c t) (Sum.term e a (part_r c t))))
    go true q ih = ih
    go false q ih = subst (λ b. T (cond b false (keeps_all c (part_r c t)))) (sym q) ih

pub flag_true : (b : Bool) → T b → flag b ≡ 0
unfolding flag
flag_true true h = refl
flag_true false h = absurd h

-- ---- one rule

module _ (β : Kind → ℕ → Range) where
  -- the outcome of a rule on t and c: a folded sum, or one around a new floordiv or mod of less weight
  unfoldable pub Good : Sum → ℕ → Step → Type 0
  Good t c (is u) = FoldedS β u
  Good t c (again k u e a) = (0 < e) × FoldedS β u × FoldedS β a × (weight u e < weight t c)

  stays-good : (o : Op) (t : Sum) (c : ℕ) → 0 < c → FoldedS β t → apply_rule β o t c ≡ stays o t c → Good t c (stays o t c)
  unfolding Good stays FoldedS Above
  stays-good o t c h p q = (positive-not-zero 0, (h, p, q), tt, tt)

  rule1-good : (o : Op) (t : Sum) (c : ℕ) → FoldedS β t → Good t c (rule1 o t)
  unfolding Good rule1 FoldedS
  rule1-good floordiv t c p = p
  rule1-good modulo t c p = tt

  rule2-less : (t : Sum) (c g : ℕ) (q : ℤ) → 0 < c → 1 < g → weight (add_constant q (part_p g t)) (c / g) < weight t c
  unfolding weight
  rule2-less t c g q h k =
      omega (arith, size-constant q (part_p g t), size-part_p g t, NatL.div-lt_self {n = c} {k = g} h k, flag-le (keeps_all (c / g) (add_constant q (part_p g t))))

  rule2-good : (o : Op) (t : Sum) (c g : ℕ) (q : ℤ) → 0 < c → 1 < g → Dvd g c → FoldedS β t → Good t c (rule2 o t c g q)
  unfolding Good rule2 FoldedS
  rule2-good floordiv t c g q h k v p = (
    quotient-above c g v h (omega arith),
    constant-folded β q (part_p g t) (part_p-folded β g t (omega arith) p),
    tt,
    rule2-less t c g q h k,
  )
  rule2-good modulo t c g q h k v p = (
    quotient-above c g v h (omega arith),
    constant-folded β q (part_p g t) (part_p-folded β g t (omega arith) p),
    constant-folded β (neg_ℤ (q *ℤ pos g)) (part_r g t) (part_r-folded β g t p),
    rule2-less t c g q h k,
  )

  rule3-less : (t : Sum) (c : ℕ) → 0 < c → keeps_all c t ≡ false → weight (part_r c t) c < weight t c
  unfolding weight flag
  rule3-less t c h q = omega (arith, size-part_r c t, flag_true (keeps_all c (part_r c t)) (keeps-rest c t h), ap flag q)

  rule3-good : (o : Op) (t : Sum) (c : ℕ) → 0 < c → FoldedS β t → keeps_all c t ≡ false → Good t c (rule3 o t c)
  unfolding Good rule3 FoldedS
  rule3-good floordiv t c h p q = (h, part_r-folded β c t p, part_p-folded β c t h p, rule3-less t c h q)
  rule3-good modulo t c h p q = (h, part_r-folded β c t p, tt, rule3-less t c h q)

  rule4-less : (x : Sum) (a c : ℕ) → a * c ≤ max_divisor → weight x (a * c) < weight (divided x a) c
  unfolding weight sum_size
  rule4-less x a c h = omega (arith, flag-le (keeps_all (a * c) x))

  rule4-good : (x : Sum) (a c : ℕ) → 0 < c → FoldedS β (divided x a) → a * c ≤ max_divisor → Good (divided x a) c (again (pos 1) x (a * c) (Sum.const (pos 0)))
  unfolding Good FoldedS
  rule4-good x a c h p l = (NatL.mul-pos p.1.0 h, p.1.1, tt, rule4-less x a c l)

  pub step-good : (o : Op) (t : Sum) (c : ℕ) → 0 < c → FoldedS β t → Good t c (apply_rule β o t c)
  step-good o t c h p =
      by_cases β c (Good t c) o t
      (record {
        first = λ e. rule1-good o t c p;
        second = λ g v w. rule2-good o t c g (quotient_of β g (part_r g t)) h (v h).0 (v h).1 p;
        third = λ e. rule3-good o t c h p e;
        fourth = λ x a e q l. subst (λ u. Good u c (again (pos 1) x (a * c) (Sum.const (pos 0)))) (sym q) (rule4-good x a c h (subst (λ u. FoldedS β u) q p) l);
        none = λ e. stays-good o t c h p e;
      })

  -- ---- all the rules, and a whole tree

  pub run-folded : (n : ℕ) (o : Op) (t : Sum) (c : ℕ) → 0 < c → FoldedS β t → weight t c < n → FoldedS β (apply_rules n β o t c)
  unfolding apply_rules Good
  run-folded zero o t c h p w = absurd (NatL.not-suc-le-zero w)
  run-folded (suc n) o t c h p w = go (apply_rule β o t c) (step-good o t c h p) (λ u e x y z. run-folded n o u e x y z)
    where
      go : (x : Step) → Good t c x → ((u : Sum) (e : ℕ) → 0 < e → FoldedS β u → weight u e < n → FoldedS β (apply_rules n β o u e))
          → FoldedS β (outcome (λ u e. apply_rules n β o u e) x)
      go (is u) g ih = g
      go (again k u e a) g ih =
          let v = apply_rules n β o u e in
          add-folded β (scale_sum k v) a (scale-folded β k v (ih u e g.0 g.1 (omega (arith, g.3)))) g.2

  pub fold-folded : (e : Expr) → PosE e → FoldedS β (fold_sum β e)
  unfolding fold_sum FoldedS Above PosE
  fold-folded (Expr.var k n) h = (positive-not-zero 0, tt, tt, tt)
  fold-folded (Expr.const z) h = tt
  fold-folded (Expr.add a b) h = add-folded β (fold_sum β a) (fold_sum β b) (fold-folded a h.0) (fold-folded b h.1)
  fold-folded (Expr.mul z a) h = scale-folded β z (fold_sum β a) (fold-folded a h)
  fold-folded (Expr.op o a c) h = run-folded (fuel_for (fold_sum β a) c) o (fold_sum β a) c h.0 (fold-folded a h.1) (weight-enough (fold_sum β a) c)
