-- Divisors: those of a tree above 0, and the numbers that rule 2 tries, each above 1 and dividing c. Assumes nothing.
use mathlib.Core.Path.{◌≡◌, sym, ap, ap₂, ◌∙◌, subst}
use mathlib.Core.Logic.{◌≢◌}
use mathlib.Core.Bool.{Bool, true, false, cond}
use mathlib.Core.List.{List, [], ◌∷◌}
use Prim.Native.Nat.{ℕ, zero, suc, ◌+◌, ◌*◌, ◌/◌, ◌%◌, ◌<◌, ◌≤◌}
use native.Mathlib.Omega.{arith}
use native.Mathlib.Nat as NatL
use lib.Dec.{T, eqb, eqb_refl, leb, ltb, ltb→lt}
use lib.IntN.{ℤ, pos, nat_abs, ◌+ℤ◌, ◌*ℤ◌, +ℤ_idr, *ℤ_comm, *ℤ-one, one}
use Rattle.integer.specs.Floor.{floor_div, floor_mod}
use Rattle.integer.specs.Gcd.{gcd_by, gcd_of}
use Rattle.expression.specs.Expression.{Expr}
use Rattle.expression.proofs.Ring.{split, rem_is}
use Rattle.expression.proofs.Within.{eqℤ-eq, Proper}
use Rattle.folding.specs.Sum.{Sum}
use Rattle.folding.specs.Fold.{divides, insert_down, common_divisors, divisors_tried}

-- every divisor of a tree is above 0
unfoldable pub PosE : Expr → Type 0
PosE (Expr.var k n) = Unit {0}
PosE (Expr.const z) = Unit {0}
PosE (Expr.add a b) = PosE a × PosE b
PosE (Expr.mul z a) = PosE a
PosE (Expr.op o a c) = (0 < c) × PosE a

pub proper-positive : (m r : ℕ) (e : Expr) → Proper m r e → PosE e
unfolding Proper PosE
proper-positive m r (Expr.var k n) h = tt
proper-positive m r (Expr.const z) h = tt
proper-positive m r (Expr.add a b) h = (proper-positive m r a h.0, proper-positive m r b h.1)
proper-positive m r (Expr.mul z a) h = proper-positive m r a h
proper-positive m r (Expr.op o a c) h = (h.0, proper-positive m r a h.1)

-- ---- one number divides another

pub record Dvd (g n : ℕ) : Type 0 where
  pub by : ℕ
  pub is : n ≡ g * by

divides-self : (n : ℕ) → Dvd n n
divides-self n = record { by = 1; is = omega arith }

divides-zero : (g : ℕ) → Dvd g 0
divides-zero g = record { by = 0; is = sym (NatL.mul-zero g) }

divides-back : (g a b : ℕ) → Dvd g (b % a) → Dvd g a → Dvd g b
divides-back g a b h k =
    record {
      by = k.by * (b / a) + h.by;
      is =
          sym (NatL.div-add-mod b a)
          ∙ ap₂ (λ x y. x * (b / a) + y) k.is h.is
          ∙ ap (λ x. x + g * h.by) (NatL.mul_assoc g k.by (b / a))
          ∙ sym (NatL.mul-add g (k.by * (b / a)) h.by);
    }

gcd-by-divides : (n a b : ℕ) → a ≤ n → Dvd (gcd_by n b a) a × Dvd (gcd_by n b a) b
gcd-by-divides zero zero b h = (divides-zero b, divides-self b)
gcd-by-divides zero (suc a) b h = absurd (NatL.not-suc-le-zero h)
gcd-by-divides (suc n) zero b h = (divides-zero b, divides-self b)
gcd-by-divides (suc n) (suc a) b h =
    let ih = gcd-by-divides n (b % suc a) (suc a) (omega (arith, NatL.mod-lt b {m = suc a} (omega arith))) in
    (ih.1, divides-back (gcd_by n (suc a) (b % suc a)) (suc a) b ih.0 ih.1)

gcd-divides : (c e : ℕ) → Dvd (gcd_of c e) c
unfolding gcd_of
gcd-divides c e = (gcd-by-divides e e c (NatL.le_refl e)).1

-- both factors of a number above 0 are above 0
factor-above : (c g k : ℕ) → 0 < c → c ≡ g * k → 0 < k
factor-above c g zero h e = absurd (bad h (e ∙ NatL.mul-zero g))
  where
    bad : 0 < c → c ≡ 0 → ⊥
    bad x y = omega arith
factor-above c g (suc k) h e = omega arith

pub by-above : (c g : ℕ) (v : Dvd g c) → 0 < c → 0 < v.by
by-above c g v h = factor-above c g v.by h v.is

pub quotient_is : (c g : ℕ) (v : Dvd g c) → 0 < g → c / g ≡ v.by
quotient_is c g v h = ap (λ (n : ℕ). n / g) v.is ∙ NatL.mul-div_right v.by h

pub quotient-above : (c g : ℕ) → Dvd g c → 0 < c → 0 < g → 0 < c / g
quotient-above c g v h k = subst (λ n. 0 < n) (sym (quotient_is c g v k)) (by-above c g v h)

-- ---- the numbers tried

pub above-one : (c : ℕ) → 0 < c → eqb c 1 ≡ false → 1 < c
above-one c h e =
    let n : c ≢ 1 = λ r. subst (λ b. T b) e (subst (λ x. T (eqb x 1)) (sym r) (eqb_refl 1)) in
    omega arith

unfoldable pub Tried : ℕ → List ℕ → Type 0
Tried c [] = Unit {0}
Tried c (g ∷ gs) = (1 < g) × Dvd g c × Tried c gs

insert-tried : (c g : ℕ) (gs : List ℕ) → 1 < g → Dvd g c → Tried c gs → Tried c (insert_down g gs)
unfolding insert_down Tried
insert-tried c g [] h v k = (h, v, tt)
insert-tried c g (x ∷ gs) h v k = go (leb x g) (insert-tried c g gs h v k.2)
  where
    go : (b : Bool) → Tried c (insert_down g gs) → Tried c (cond b (g ∷ x ∷ gs) (x ∷ insert_down g gs))
    go true ih = (h, v, k)
    go false ih = (k.0, k.1, ih)

pub common-tried : (c : ℕ) (t : Sum) → Tried c (common_divisors c t)
unfolding common_divisors Tried
common-tried c (Sum.const k) = tt
common-tried c (Sum.term e a t) = go (ltb 1 g) (λ w. ltb→lt 1 g w) (common-tried c t)
  where
    g : ℕ
    g = gcd_of c (nat_abs e)

    go : (b : Bool) → (T b → 1 < g) → Tried c (common_divisors c t) → Tried c (cond b (insert_down g (common_divisors c t)) (common_divisors c t))
    go true f ih = insert-tried c g (common_divisors c t) (f tt) (gcd-divides c (nat_abs e)) ih
    go false f ih = ih

pub all-tried : (c : ℕ) (t : Sum) → 1 < c → Tried c (divisors_tried c t)
unfolding divisors_tried Tried
all-tried c t h = (h, divides-self c, common-tried c t)

-- ---- integers

pub one-l : (x : ℤ) → pos 1 *ℤ x ≡ x
unfolding one
one-l x = *ℤ_comm (pos 1) x ∙ *ℤ-one x

pub halves : (z : ℤ) (g : ℕ) → 0 < g → pos g *ℤ floor_div z g +ℤ floor_mod z g ≡ z
halves z g h = ap (λ x. pos g *ℤ floor_div z g +ℤ x) (rem_is z g) ∙ sym (split z g h)

pub divides-is : (z : ℤ) (g : ℕ) → 0 < g → T (divides g z) → z ≡ pos g *ℤ floor_div z g
unfolding divides
divides-is z g h e =
    sym (sym (+ℤ_idr (pos g *ℤ floor_div z g))
    ∙ ap (λ x. pos g *ℤ floor_div z g +ℤ x) (sym (eqℤ-eq (floor_mod z g) (pos 0) e))
    ∙ halves z g h)
