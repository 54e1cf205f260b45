-- More rules than are enough change nothing, and a folded sum has no more atoms than the tree has nodes. Assumes nothing.
use mathlib.Core.Path.{◌≡◌, refl, sym, ap, subst}
use Prim.Native.Nat.{ℕ, zero, suc, ◌+◌, ◌<◌, ◌≤◌, Ordering}
use native.Mathlib.Omega.{arith}
use native.Mathlib.Nat as NatL
use lib.IntN.{ℤ, pos, negsuc, neg_ℤ, ◌+ℤ◌, ◌*ℤ◌}
use Rattle.expression.specs.Expression.{Kind, Op, floordiv, modulo, Expr, node_count, Range}
use Rattle.folding.specs.Sum.{Atom, Sum, atom_order, atom_size, sum_size}
use Rattle.folding.specs.Fold.{cons_term, place_term, insert_term, add_sums, scale_sum, part_p, part_r, Step, is, again, rule1, rule2, rule3, stays, quotient_of, apply_rule, apply_rules, fuel_for, fold_sum}
use Rattle.folding.proofs.Cases.{by_cases}
use Rattle.folding.proofs.Atoms.{outcome}
use Rattle.folding.proofs.Ending.{Good, step-good, size-constant}
pub use Rattle.folding.proofs.Ending.{size-parts}
use Rattle.folding.specs.Folded.{FoldedS, weight}

module _ (β : Kind → ℕ → Range) where
  pub run-same : (n m : ℕ) (o : Op) (t : Sum) (c : ℕ) → 0 < c → FoldedS β t → weight t c < n → weight t c < m
      → apply_rules n β o t c ≡ apply_rules m β o t c
  unfolding apply_rules Good
  run-same zero m o t c h p v w = absurd (NatL.not-suc-le-zero v)
  run-same (suc n) zero o t c h p v w = absurd (NatL.not-suc-le-zero w)
  run-same (suc n) (suc m) o t c h p v w = go (apply_rule β o t c) (step-good β o t c h p) (λ u e x y z z'. run-same n m o u e x y z z')
    where
      go : (x : Step) → Good β t c x
          → ((u : Sum) (e : ℕ) → 0 < e → FoldedS β u → weight u e < n → weight u e < m → apply_rules n β o u e ≡ apply_rules m β o u e)
          → outcome (λ u e. apply_rules n β o u e) x ≡ outcome (λ u e. apply_rules m β o u e) x
      go (is u) g ih = refl
      go (again k u e a) g ih = ap (λ z. add_sums (scale_sum k z) a) (ih u e g.0 g.1 (omega (arith, g.3)) (omega (arith, g.3)))

-- ---- sizes
size-cons : (c : ℤ) (a : Atom) (t : Sum) → sum_size (cons_term c a t) ≤ atom_size a + sum_size t
unfolding cons_term sum_size
size-cons (pos zero) a t = omega arith
size-cons (pos (suc n)) a t = omega arith
size-cons (negsuc n) a t = omega arith

size-insert : (c : ℤ) (a : Atom) (t : Sum) → sum_size (insert_term c a t) ≤ atom_size a + sum_size t
unfolding insert_term place_term sum_size
size-insert c a (Sum.const k) = size-cons c a (Sum.const k)
size-insert c a (Sum.term e b t) = go (atom_order a b) (size-insert c a t)
  where
    go : (o : Ordering) → sum_size (insert_term c a t) ≤ atom_size a + sum_size t
        → sum_size (place_term o c a e b t (insert_term c a t)) ≤ atom_size a + (atom_size b + sum_size t)
    go Ordering.lt ih = size-cons c a (Sum.term e b t)
    go Ordering.eq ih = omega (arith, size-cons (c +ℤ e) b t)
    go Ordering.gt ih = omega arith

pub size-add : (t u : Sum) → sum_size (add_sums t u) ≤ sum_size t + sum_size u
unfolding add_sums sum_size
size-add (Sum.const k) u = omega (arith, size-constant k u)
size-add (Sum.term c a t) u = omega (arith, size-insert c a (add_sums t u), size-add t u)

pub size_scale : (z : ℤ) (t : Sum) → sum_size (scale_sum z t) ≤ sum_size t
unfolding scale_sum sum_size
size_scale z (Sum.const k) = omega arith
size_scale z (Sum.term c a t) = omega (arith, size-cons (z *ℤ c) a (scale_sum z t), size_scale z t)

-- what a rule leaves of a sum of n atoms: at most one more, or at most n in all
unfoldable Fits : ℕ → Step → Type 0
Fits n (is u) = sum_size u ≤ suc n
Fits n (again k u e a) = sum_size u + sum_size a ≤ n

stays-fits : (o : Op) (t : Sum) (c : ℕ) → Fits (sum_size t) (stays o t c)
unfolding Fits stays sum_size
stays-fits o t c = omega arith

rule1-fits : (o : Op) (t : Sum) → Fits (sum_size t) (rule1 o t)
unfolding Fits rule1 sum_size
rule1-fits floordiv t = omega arith
rule1-fits modulo t = omega arith

rule2-fits : (o : Op) (t : Sum) (c g : ℕ) (q : ℤ) → Fits (sum_size t) (rule2 o t c g q)
unfolding Fits rule2 sum_size
rule2-fits floordiv t c g q = omega (arith, size-constant q (part_p g t), size-parts g t)
rule2-fits modulo t c g q = omega (arith, size-constant q (part_p g t), size-constant (neg_ℤ (q *ℤ pos g)) (part_r g t), size-parts g t)

rule3-fits : (o : Op) (t : Sum) (c : ℕ) → Fits (sum_size t) (rule3 o t c)
unfolding Fits rule3 sum_size
rule3-fits floordiv t c = omega (arith, size-parts c t)
rule3-fits modulo t c = omega (arith, size-parts c t)

step_fits : (β : Kind → ℕ → Range) (o : Op) (t : Sum) (c : ℕ) → Fits (sum_size t) (apply_rule β o t c)
unfolding Fits sum_size
step_fits β o t c =
    by_cases β c (Fits (sum_size t)) o t
    (record {
      first = λ e. rule1-fits o t;
      second = λ g v w. rule2-fits o t c g (quotient_of β g (part_r g t));
      third = λ e. rule3-fits o t c;
      fourth = λ x a e q l. subst (λ u. sum_size x + 0 ≤ sum_size u) (sym q) (omega arith);
      none = λ e. stays-fits o t c;
    })

pub size-run : (n : ℕ) (β : Kind → ℕ → Range) (o : Op) (t : Sum) (c : ℕ) → sum_size (apply_rules n β o t c) ≤ suc (sum_size t)
unfolding apply_rules Fits sum_size
size-run zero β o t c = omega arith
size-run (suc n) β o t c = go (apply_rule β o t c) (step_fits β o t c) (λ u e. size-run n β o u e)
  where
    go : (x : Step) → Fits (sum_size t) x → ((u : Sum) (e : ℕ) → sum_size (apply_rules n β o u e) ≤ suc (sum_size u))
        → sum_size (outcome (λ u e. apply_rules n β o u e) x) ≤ suc (sum_size t)
    go (is u) g ih = g
    go (again k u e a) g ih =
        let v = apply_rules n β o u e in
        omega (arith, ih u e, g, size-add (scale_sum k v) a, size_scale k v)

pub size-fold : (β : Kind → ℕ → Range) (e : Expr) → sum_size (fold_sum β e) ≤ node_count e
unfolding fold_sum node_count sum_size
size-fold β (Expr.var k n) = omega arith
size-fold β (Expr.const z) = omega arith
size-fold β (Expr.add a b) = omega (arith, size-add (fold_sum β a) (fold_sum β b), size-fold β a, size-fold β b)
size-fold β (Expr.mul z a) = omega (arith, size_scale z (fold_sum β a), size-fold β a)
size-fold β (Expr.op o a c) = omega (arith, size-run (fuel_for (fold_sum β a) c) β o (fold_sum β a) c, size-fold β a)
