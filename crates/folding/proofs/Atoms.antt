-- What holds at every variable of a tree and at every start of the rules holds at every atom of its folded sum. Assumes nothing.
use mathlib.Core.Path.{subst}
use mathlib.Core.Bool.{Bool, true, false, cond}
use Prim.Native.Nat.{ℕ, zero, suc, ◌≤◌, Ordering}
use native.Mathlib.Nat as NatL
use lib.IntN.{ℤ, pos, negsuc, neg_ℤ, ◌+ℤ◌, ◌*ℤ◌}
use Rattle.integer.specs.Floor.{floor_div}
use Rattle.expression.specs.Expression.{Kind, Op, floordiv, modulo, Expr, Range}
use Rattle.expression.specs.Node.{max_divisor}
use Rattle.expression.proofs.Within.{Proper}
use Rattle.folding.proofs.Cases.{by_cases}
use Rattle.folding.specs.Sum.{Atom, Sum, atom_order}
use Rattle.folding.specs.Fold.{cons_term, place_term, insert_term, add_constant, add_sums, scale_sum, divides, part_p, part_r, Step, is, again, rule1, rule2, rule3, stays, quotient_of, apply_rule, apply_rules, fuel_for, fold_sum}

-- the sum that a rule leaves, where f finds the new floordiv or mod
abbrev pub outcome : (Sum → ℕ → Sum) → Step → Sum
outcome f x = elim x [ is u ↦ u | again k u e a ↦ add_sums (scale_sum k (f u e)) a ]

-- what holds at the new floordiv or mod, where a rule leaves one
unfoldable pub Next : (Sum → ℕ → Type 0) → Step → Type 0
Next f (is u) = Unit {0}
Next f (again k u e a) = f u e

module _ (AtVar : Kind → ℕ → Type 0) (AtOp : Op → Sum → ℕ → Type 0) where
  -- AtVar at every variable, AtOp at every floordiv and mod
  unfoldable mutual
    pub EveryA : Atom → Type 0
    EveryA (Atom.var k n) = AtVar k n
    EveryA (Atom.op o t c) = AtOp o t c × EveryS t

    pub EveryS : Sum → Type 0
    EveryS (Sum.const k) = Unit {0}
    EveryS (Sum.term c a t) = EveryA a × EveryS t

  -- ---- merging

  every-cons : (c : ℤ) (a : Atom) (t : Sum) → EveryA a → EveryS t → EveryS (cons_term c a t)
  unfolding cons_term EveryS
  every-cons (pos zero) a t h k = k
  every-cons (pos (suc n)) a t h k = (h, k)
  every-cons (negsuc n) a t h k = (h, k)

  every-insert : (c : ℤ) (a : Atom) (t : Sum) → EveryA a → EveryS t → EveryS (insert_term c a t)
  unfolding insert_term place_term EveryS
  every-insert c a (Sum.const k) h p = every-cons c a (Sum.const k) h tt
  every-insert c a (Sum.term e b t) h p = go (atom_order a b) (every-insert c a t h p.1)
    where
      go : (o : Ordering) → EveryS (insert_term c a t) → EveryS (place_term o c a e b t (insert_term c a t))
      go Ordering.lt ih = every-cons c a (Sum.term e b t) h p
      go Ordering.eq ih = every-cons (c +ℤ e) b t p.0 p.1
      go Ordering.gt ih = (p.0, ih)

  every-constant : (z : ℤ) (t : Sum) → EveryS t → EveryS (add_constant z t)
  unfolding add_constant EveryS
  every-constant z (Sum.const k) h = tt
  every-constant z (Sum.term c a t) h = (h.0, every-constant z t h.1)

  pub every-add : (t u : Sum) → EveryS t → EveryS u → EveryS (add_sums t u)
  unfolding add_sums EveryS
  every-add (Sum.const k) u h p = every-constant k u p
  every-add (Sum.term c a t) u h p = every-insert c a (add_sums t u) h.0 (every-add t u h.1 p)

  pub every-scale : (z : ℤ) (t : Sum) → EveryS t → EveryS (scale_sum z t)
  unfolding scale_sum EveryS
  every-scale z (Sum.const k) h = tt
  every-scale z (Sum.term c a t) h = every-cons (z *ℤ c) a (scale_sum z t) h.0 (every-scale z t h.1)

  -- ---- the parts at g

  every-cond : (b : Bool) (t u : Sum) → EveryS t → EveryS u → EveryS (cond b t u)
  every-cond true t u h k = h
  every-cond false t u h k = k

  pub every-part_p : (g : ℕ) (t : Sum) → EveryS t → EveryS (part_p g t)
  unfolding part_p EveryS
  every-part_p g (Sum.const k) h = tt
  every-part_p g (Sum.term c a t) h =
      let ih = every-part_p g t h.1 in
      every-cond (divides g c) (Sum.term (floor_div c g) a (part_p g t)) (part_p g t) (h.0, ih) ih

  pub every-part_r : (g : ℕ) (t : Sum) → EveryS t → EveryS (part_r g t)
  unfolding part_r EveryS
  every-part_r g (Sum.const k) h = tt
  every-part_r g (Sum.term c a t) h =
      let ih = every-part_r g t h.1 in
      every-cond (divides g c) (part_r g t) (Sum.term c a (part_r g t)) ih (h.0, ih)

  -- ---- one rule: the atoms of its outcome, and the new divisor, at most 2^40 where c is

  unfoldable pub EveryStep : ℕ → Step → Type 0
  EveryStep c (is u) = EveryS u
  EveryStep c (again k u e a) = EveryS u × EveryS a × (c ≤ max_divisor → e ≤ max_divisor)

  every-stays : (o : Op) (t : Sum) (c : ℕ) → EveryA (Atom.op o t c) → EveryStep c (stays o t c)
  unfolding EveryStep stays EveryS
  every-stays o t c h = (h, tt)

  every-rule1 : (o : Op) (t : Sum) (c : ℕ) → EveryS t → EveryStep c (rule1 o t)
  unfolding EveryStep rule1 EveryS
  every-rule1 floordiv t c p = p
  every-rule1 modulo t c p = tt

  every-rule2 : (o : Op) (t : Sum) (c g : ℕ) (q : ℤ) → EveryS t → EveryStep c (rule2 o t c g q)
  unfolding EveryStep rule2 EveryS
  every-rule2 floordiv t c g q h = (every-constant q (part_p g t) (every-part_p g t h), tt, λ w. NatL.le_trans (NatL.div-le_self c g) w)
  every-rule2 modulo t c g q h = (
    every-constant q (part_p g t) (every-part_p g t h),
    every-constant (neg_ℤ (q *ℤ pos g)) (part_r g t) (every-part_r g t h),
    λ w. NatL.le_trans (NatL.div-le_self c g) w,
  )

  every-rule3 : (o : Op) (t : Sum) (c : ℕ) → EveryS t → EveryStep c (rule3 o t c)
  unfolding EveryStep rule3 EveryS
  every-rule3 floordiv t c h = (every-part_r c t h, every-part_p c t h, λ w. w)
  every-rule3 modulo t c h = (every-part_r c t h, tt, λ w. w)

  pub every-step : (β : Kind → ℕ → Range) (o : Op) (t : Sum) (c : ℕ) → EveryA (Atom.op o t c) → EveryStep c (apply_rule β o t c)
  unfolding EveryStep EveryS
  every-step β o t c h =
      by_cases β c (λ (x : Step). EveryStep c x) o t
      (record {
        first = λ e. every-rule1 o t c h.1;
        second = λ g v w. every-rule2 o t c g (quotient_of β g (part_r g t)) h.1;
        third = λ e. every-rule3 o t c h.1;
        fourth = λ x a p q l. ((subst (λ u. EveryS u) q h.1).0.1, tt, λ w. l);
        none = λ e. every-stays o t c h;
      })

  -- ---- all the rules, and a whole tree

  module _ (β : Kind → ℕ → Range) where
    -- AtOp at every start of the rules
    unfoldable pub Starts : ℕ → Op → Sum → ℕ → Type 0
    Starts zero o t c = AtOp o t c
    Starts (suc n) o t c = AtOp o t c × Next (λ u e. Starts n o u e) (apply_rule β o t c)

    pub every-run : (n : ℕ) (o : Op) (t : Sum) (c : ℕ) → Starts n o t c → EveryS t → EveryS (apply_rules n β o t c)
    unfolding apply_rules Starts Next EveryStep EveryS
    every-run zero o t c s h = ((s, h), tt)
    every-run (suc n) o t c s h = go (apply_rule β o t c) (every-step β o t c (s.0, h)) s.1 (λ u e x y. every-run n o u e x y)
      where
        go : (x : Step) → EveryStep c x → Next (λ u e. Starts n o u e) x
            → ((u : Sum) (e : ℕ) → Starts n o u e → EveryS u → EveryS (apply_rules n β o u e))
            → EveryS (outcome (λ u e. apply_rules n β o u e) x)
        go (is u) w s ih = w
        go (again k u e a) w s ih =
            let v = apply_rules n β o u e in
            every-add (scale_sum k v) a (every-scale k v (ih u e s w.0)) w.1

    unfoldable pub EveryE : Expr → Type 0
    EveryE (Expr.var k n) = AtVar k n
    EveryE (Expr.const z) = Unit {0}
    EveryE (Expr.add a b) = EveryE a × EveryE b
    EveryE (Expr.mul z a) = EveryE a
    EveryE (Expr.op o a c) = Starts (fuel_for (fold_sum β a) c) o (fold_sum β a) c × EveryE a

    pub every-fold : (e : Expr) → EveryE e → EveryS (fold_sum β e)
    unfolding fold_sum EveryE EveryS
    every-fold (Expr.var k n) h = (h, tt)
    every-fold (Expr.const z) h = tt
    every-fold (Expr.add a b) h = every-add (fold_sum β a) (fold_sum β b) (every-fold a h.0) (every-fold b h.1)
    every-fold (Expr.mul z a) h = every-scale z (fold_sum β a) (every-fold a h)
    every-fold (Expr.op o a c) h = every-run (fuel_for (fold_sum β a) c) o (fold_sum β a) c h.0 (every-fold a h.1)

-- ---- variables alone

abbrev pub Anything : Op → Sum → ℕ → Type 0
Anything o t c = Unit {0}

module _ (AtVar : Kind → ℕ → Type 0) (β : Kind → ℕ → Range) where
  pub any-starts : (n : ℕ) (o : Op) (t : Sum) (c : ℕ) → Starts AtVar Anything β n o t c
  unfolding Starts Next
  any-starts zero o t c = tt
  any-starts (suc n) o t c = (tt, go (apply_rule β o t c) (λ u e. any-starts n o u e))
    where
      go : (x : Step) → ((u : Sum) (e : ℕ) → Starts AtVar Anything β n o u e) → Next (λ u e. Starts AtVar Anything β n o u e) x
      go (is u) ih = tt
      go (again k u e a) ih = ih u e

  module _ (m r : ℕ) (f : (k : Kind) (n : ℕ) → Proper m r (Expr.var k n) → AtVar k n) where
    proper-every : (e : Expr) → Proper m r e → EveryE AtVar Anything β e
    unfolding Proper EveryE
    proper-every (Expr.var k n) h = f k n h
    proper-every (Expr.const z) h = tt
    proper-every (Expr.add a b) h = (proper-every a h.0, proper-every b h.1)
    proper-every (Expr.mul z a) h = proper-every a h
    proper-every (Expr.op o a c) h = (any-starts (fuel_for (fold_sum β a) c) o (fold_sum β a) c, proper-every a h.1)

    -- what holds at the variables below the counts holds at every variable of a proper tree's folded sum
    pub variables-fold : (e : Expr) → Proper m r e → EveryS AtVar Anything (fold_sum β e)
    variables-fold e h = every-fold AtVar Anything β e (proper-every e h)
