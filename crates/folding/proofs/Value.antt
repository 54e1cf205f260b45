-- Folding keeps values: at every point inside the bounds the folded sum has the tree's value. Assumes nothing.
use mathlib.Core.Path.{◌≡◌, refl, sym, ap, ap₂, ◌∙◌, subst}
use Prim.Native.Nat.{ℕ, zero, suc, ◌*◌, ◌/◌, ◌<◌}
use native.Mathlib.Omega.{arith}
use native.Mathlib.Nat as NatL
use lib.Dec.{T}
use lib.IntN.{ℤ, pos, negsuc, neg_ℤ, ◌+ℤ◌, ◌*ℤ◌, +ℤ_comm, +ℤ_idr}
use Rattle.integer.specs.Floor.{floor_div, floor_mod}
use Rattle.expression.specs.Expression.{Kind, Op, floordiv, modulo, Expr, Range, op_of, eval, range_of}
use Rattle.expression.proofs.Ring.{split, rem, rem_lt, rem_is}
use Rattle.expression.proofs.Order.{Le-refl}
use Rattle.expression.proofs.Within.{LeIn, sum-in, product-in, op-in, eqℤ-eq, same-quot, Proper, Inside, in-range}
use Rattle.folding.specs.Sum.{Atom, Sum, atom_value, sum_value, atom_range, sum_range}
use Rattle.folding.specs.Fold.{add_constant, scale_sum, part_p, part_r, Step, is, again, rule1, rule2, rule3, stays, one_quotient, quotient_of, apply_rule, apply_rules, fuel_for, fold_sum}
use Rattle.folding.specs.Folded.{FoldedA, FoldedS}
use Rattle.folding.proofs.SumValue.{add-value, scale-value, constant-value, parts-value}
use Rattle.folding.proofs.Cases.{divided, by_cases}
use Rattle.folding.proofs.Rules.{rule2-floor, rule2-mod, rule3-floor, rule3-mod, rule4-floor}
use Rattle.folding.proofs.Divisors.{Dvd, by-above, quotient_is, proper-positive}
use Rattle.folding.proofs.Atoms.{outcome, EveryA, EveryS, EveryStep, every-step, every-part_r, Anything, variables-fold}
use Rattle.folding.proofs.Merging.{part_r-folded}
use Rattle.folding.proofs.Ending.{Good, step-good, fold-folded}
pub use Rattle.folding.proofs.AtomOrder.{compare-eq, order_same}
unfoldable pub use Rattle.folding.proofs.Divisors.{PosE}
pub use Rattle.folding.proofs.Divisors.{one-l}

-- ---- one rule keeps the value

-- the value of a rule's outcome
step_value : (Kind → ℕ → ℤ) → Op → Step → ℤ
step_value ρ o (is u) = sum_value u ρ
step_value ρ o (again k u e a) = k *ℤ op_of o (sum_value u ρ) e +ℤ sum_value a ρ

one-plus : (x : ℤ) → pos 1 *ℤ x +ℤ pos 0 ≡ x
one-plus x = +ℤ_idr (pos 1 *ℤ x) ∙ one-l x

module _ (ρ : Kind → ℕ → ℤ) where
  unfoldable Keeps : Op → Sum → ℕ → Step → Type 0
  Keeps o t c p = step_value ρ o p ≡ op_of o (sum_value t ρ) c

  stays-keeps : (o : Op) (t : Sum) (c : ℕ) → Keeps o t c (stays o t c)
  unfolding Keeps stays step_value sum_value
  stays-keeps o t c = one-plus (op_of o (sum_value t ρ) c)

  one-floor : (z : ℤ) → floor_div z 1 ≡ z
  one-floor (pos a) = ap pos (NatL.div-one a)
  one-floor (negsuc a) = ap negsuc (NatL.div-one a)

  one-mod : (z : ℤ) → pos 0 ≡ floor_mod z 1
  one-mod z = ap pos (omega (arith, rem_lt z 1 (omega arith))) ∙ sym (rem_is z 1)

  rule1-keeps : (o : Op) (t : Sum) → Keeps o t 1 (rule1 o t)
  unfolding Keeps rule1 step_value op_of sum_value
  rule1-keeps floordiv t = sym (one-floor (sum_value t ρ))
  rule1-keeps modulo t = one-mod (sum_value t ρ)

  new_is : (t : Sum) (g : ℕ) (q : ℤ) → sum_value (add_constant q (part_p g t)) ρ ≡ sum_value (part_p g t) ρ +ℤ q
  new_is t g q = constant-value ρ q (part_p g t) ∙ +ℤ_comm q (sum_value (part_p g t) ρ)

  module _ (t : Sum) (c g : ℕ) (q : ℤ) (hc : 0 < c) (hg : 0 < g) (v : Dvd g c) (e : floor_div (sum_value (part_r g t) ρ) g ≡ q) where
    abbrev R : ℤ
    R = sum_value (part_r g t) ρ

    rest-is : R ≡ pos g *ℤ q +ℤ pos (rem R g)
    rest-is = split R g hg ∙ ap (λ z. pos g *ℤ z +ℤ pos (rem R g)) e

    rule2-keeps : (o : Op) → Keeps o t c (rule2 o t c g q)
    unfolding Keeps rule2 step_value op_of sum_value
    rule2-keeps floordiv =
        one-plus (floor_div (sum_value (add_constant q (part_p g t)) ρ) (c / g))
        ∙ ap₂ (λ z n. floor_div z n) (new_is t g q) (quotient_is c g v hg)
        ∙ sym (ap₂ (λ z n. floor_div z n) (sym (parts-value ρ g t hg)) v.is
        ∙ rule2-floor g v.by (sum_value (part_p g t) ρ) q R (rem R g) (by-above c g v hc) (rem_lt R g hg) rest-is)
    rule2-keeps modulo =
        ap₂ (λ x y. pos g *ℤ x +ℤ y) (ap₂ (λ z n. floor_mod z n) (new_is t g q) (quotient_is c g v hg)) (constant-value ρ (neg_ℤ (q *ℤ pos g)) (part_r g t))
        ∙ sym (ap₂ (λ z n. floor_mod z n) (sym (parts-value ρ g t hg)) v.is
        ∙ rule2-mod g v.by (sum_value (part_p g t) ρ) q R (rem R g) (by-above c g v hc) (rem_lt R g hg) rest-is)

  rule3-keeps : (o : Op) (t : Sum) (c : ℕ) → 0 < c → Keeps o t c (rule3 o t c)
  unfolding Keeps rule3 step_value op_of sum_value
  rule3-keeps floordiv t c h =
      let P = sum_value (part_p c t) ρ in
      let R = sum_value (part_r c t) ρ in
      ap (λ x. x +ℤ P) (one-l (floor_div R c)) ∙ +ℤ_comm (floor_div R c) P ∙ sym (ap (λ z. floor_div z c) (sym (parts-value ρ c t h)) ∙ rule3-floor c P R h)
  rule3-keeps modulo t c h =
      let P = sum_value (part_p c t) ρ in
      let R = sum_value (part_r c t) ρ in
      one-plus (floor_mod R c) ∙ sym (ap (λ z. floor_mod z c) (sym (parts-value ρ c t h)) ∙ rule3-mod c P R h)

  rule4-keeps : (x : Sum) (a c : ℕ) → 0 < a → 0 < c → Keeps floordiv (divided x a) c (again (pos 1) x (a * c) (Sum.const (pos 0)))
  unfolding Keeps step_value op_of sum_value
  rule4-keeps x a c ha hc =
      let X = sum_value x ρ in
      one-plus (floor_div X (a * c)) ∙ sym (ap (λ z. floor_div z c) (one-plus (floor_div X a)) ∙ rule4-floor a c X ha hc)

module _ (ρ : Kind → ℕ → ℤ) (β : Kind → ℕ → Range) where
  -- ---- at a point inside the bounds of the variables that occur

  abbrev InBounds : Kind → ℕ → Type 0
  InBounds k n = LeIn (ρ k n) (β k n)

  abbrev pub InsideA : Atom → Type 0
  InsideA = EveryA InBounds Anything

  abbrev pub InsideS : Sum → Type 0
  InsideS = EveryS InBounds Anything

  mutual
    unfolding atom_value atom_range FoldedA EveryA

    atom-in-range : (a : Atom) → FoldedA β a → InsideA a → LeIn (atom_value a ρ) (atom_range a β)
    atom-in-range (Atom.var k n) p i = i
    atom-in-range (Atom.op o t c) p i = op-in o c p.0 (sum-in-range t p.1 i.1)

    pub sum-in-range : (t : Sum) → FoldedS β t → InsideS t → LeIn (sum_value t ρ) (sum_range t β)
    sum-in-range (Sum.const k) p i = record { low = Le-refl k; high = Le-refl k }
    sum-in-range (Sum.term c a t) p i = sum-in (product-in c (atom-in-range a p.1 i.0)) (sum-in-range t p.3 i.1)

  one-quotient : (t : Sum) (g : ℕ) → 0 < g → FoldedS β t → InsideS t → T (one_quotient β g (part_r g t))
      → floor_div (sum_value (part_r g t) ρ) g ≡ quotient_of β g (part_r g t)
  unfolding one_quotient quotient_of
  one-quotient t g h p i w =
      same-quot g (sum_value (part_r g t) ρ) (sum_range (part_r g t) β) h
      (sum-in-range (part_r g t) (part_r-folded β g t p) (every-part_r InBounds Anything g t i)) (eqℤ-eq _ _ w)

  step_keeps : (o : Op) (t : Sum) (c : ℕ) → 0 < c → FoldedS β t → InsideS t → Keeps ρ o t c (apply_rule β o t c)
  unfolding FoldedS
  step_keeps o t c h p i =
      by_cases β c (Keeps ρ o t c) o t
      (record {
        first = λ e. subst (λ x. Keeps ρ o t x (rule1 o t)) (sym e) (rule1-keeps ρ o t);
        second = λ g v w.
            let above : 0 < g = omega (arith, (v h).0) in
            rule2-keeps ρ t c g (quotient_of β g (part_r g t)) h above (v h).1 (one-quotient t g above p i w) o;
        third = λ e. rule3-keeps ρ o t c h;
        fourth = λ x a e q l.
            let new = again (pos 1) x (a * c) (Sum.const (pos 0)) in
            subst (λ u. Keeps ρ o u c new) (sym q)
            (subst (λ f. Keeps ρ f (divided x a) c new) (sym e)
            (rule4-keeps ρ x a c (subst (λ u. FoldedS β u) q p).1.0 h));
        none = λ e. stays-keeps ρ o t c;
      })

  -- ---- all the rules, and a whole tree

  run_value : (n : ℕ) (o : Op) (t : Sum) (c : ℕ) → 0 < c → FoldedS β t → InsideS t → sum_value (apply_rules n β o t c) ρ ≡ op_of o (sum_value t ρ) c
  unfolding apply_rules stays Keeps step_value Good EveryStep EveryA
  run_value zero o t c h p i = stays-keeps ρ o t c
  run_value (suc n) o t c h p i =
      go (apply_rule β o t c) (step_keeps o t c h p i) (step-good β o t c h p) (every-step InBounds Anything β o t c (tt, i))
      (λ u e x y z. run_value n o u e x y z)
    where
      go : (x : Step) → Keeps ρ o t c x → Good β t c x → EveryStep InBounds Anything c x
          → ((u : Sum) (e : ℕ) → 0 < e → FoldedS β u → InsideS u → sum_value (apply_rules n β o u e) ρ ≡ op_of o (sum_value u ρ) e)
          → sum_value (outcome (λ u e. apply_rules n β o u e) x) ρ ≡ op_of o (sum_value t ρ) c
      go (is u) w g j ih = w
      go (again k u e a) w g j ih =
          let v = apply_rules n β o u e in
          add-value ρ (scale_sum k v) a ∙ ap (λ z. z +ℤ sum_value a ρ) (scale-value ρ k v ∙ ap (λ z. k *ℤ z) (ih u e g.0 g.1 j.0)) ∙ w

  module _ (m r : ℕ) (inside : Inside m r β ρ) where
    variable-in : (k : Kind) (n : ℕ) → Proper m r (Expr.var k n) → InBounds k n
    unfolding eval range_of
    variable-in k n h = in-range m r β ρ inside (Expr.var k n) h

    pub fold-inside : (e : Expr) → Proper m r e → InsideS (fold_sum β e)
    fold-inside e h = variables-fold InBounds β m r variable-in e h

    -- the folded sum has the tree's value
    pub fold-value : (e : Expr) → Proper m r e → sum_value (fold_sum β e) ρ ≡ eval ρ e
    unfolding fold_sum eval sum_value Proper
    fold-value (Expr.var k n) h = one-plus (ρ k n)
    fold-value (Expr.const z) h = refl
    fold-value (Expr.add a b) h = add-value ρ (fold_sum β a) (fold_sum β b) ∙ ap₂ (λ u v. u +ℤ v) (fold-value a h.0) (fold-value b h.1)
    fold-value (Expr.mul z a) h = scale-value ρ z (fold_sum β a) ∙ ap (λ u. z *ℤ u) (fold-value a h)
    fold-value (Expr.op o a c) h =
        run_value (fuel_for (fold_sum β a) c) o (fold_sum β a) c h.0 (fold-folded β a (proper-positive m r a h.1)) (fold-inside a h.1)
        ∙ ap (λ u. op_of o u c) (fold-value a h.1)

    -- and lies in the folded sum's range
    pub fold-in-range : (e : Expr) → Proper m r e → LeIn (eval ρ e) (sum_range (fold_sum β e) β)
    fold-in-range e h =
        subst (λ z. LeIn z (sum_range (fold_sum β e) β)) (fold-value e h)
        (sum-in-range (fold_sum β e) (fold-folded β e (proper-positive m r e h)) (fold-inside e h))
