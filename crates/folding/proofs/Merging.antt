-- Sums that are sorted and folded stay so when they are merged, scaled and taken apart. Assumes nothing.
use mathlib.Core.Path.{◌≡◌, refl, ap, ◌∙◌}
use mathlib.Core.Logic.{◌≢◌}
use mathlib.Core.Bool.{Bool, true, false, cond}
use Prim.Native.Nat.{ℕ, zero, suc, ◌<◌, Ordering}
use native.Mathlib.Omega.{arith}
use lib.Dec.{T}
use lib.IntN.{ℤ, pos, negsuc, nat_abs, ◌+ℤ◌, ◌*ℤ◌, *ℤ-zero}
use Rattle.integer.specs.Floor.{floor_div}
use Rattle.expression.specs.Expression.{Kind, Range}
use Rattle.folding.specs.Sum.{Atom, Sum, atom_order}
use Rattle.folding.specs.Fold.{cons_term, place_term, insert_term, add_constant, add_sums, scale_sum, divides, part_p, part_r}
use Rattle.folding.specs.Folded.{Above, FoldedA, FoldedS}
use Rattle.folding.proofs.AtomOrder.{order_trans, order-greater}
use Rattle.folding.proofs.Divisors.{divides-is}

-- ---- every atom stands above another

pub above-trans : (a b : Atom) (t : Sum) → atom_order a b ≡ Ordering.lt → Above b t → Above a t
unfolding Above
above-trans a b (Sum.const k) h p = tt
above-trans a b (Sum.term e x t) h p = (order_trans a b x h p.0, above-trans a b t h p.1)

above-cons : (a : Atom) (c : ℤ) (b : Atom) (t : Sum) → atom_order a b ≡ Ordering.lt → Above a t → Above a (cons_term c b t)
unfolding cons_term Above
above-cons a (pos zero) b t h p = p
above-cons a (pos (suc n)) b t h p = (h, p)
above-cons a (negsuc n) b t h p = (h, p)

pub above-insert : (x : Atom) (c : ℤ) (a : Atom) (t : Sum) → atom_order x a ≡ Ordering.lt → Above x t → Above x (insert_term c a t)
unfolding insert_term place_term Above
above-insert x c a (Sum.const k) h p = above-cons x c a (Sum.const k) h tt
above-insert x c a (Sum.term e b t) h p = go (atom_order a b) (above-insert x c a t h p.1)
  where
    go : (o : Ordering) → Above x (insert_term c a t) → Above x (place_term o c a e b t (insert_term c a t))
    go Ordering.lt ih = above-cons x c a (Sum.term e b t) h p
    go Ordering.eq ih = above-cons x (c +ℤ e) b t p.0 p.1
    go Ordering.gt ih = (p.0, ih)

pub above-plusℤ : (a : Atom) (z : ℤ) (t : Sum) → Above a t → Above a (add_constant z t)
unfolding add_constant Above
above-plusℤ a z (Sum.const k) h = tt
above-plusℤ a z (Sum.term c b t) h = (h.0, above-plusℤ a z t h.1)

above-scale : (a : Atom) (z : ℤ) (t : Sum) → Above a t → Above a (scale_sum z t)
unfolding scale_sum Above
above-scale a z (Sum.const k) h = tt
above-scale a z (Sum.term c b t) h = above-cons a (z *ℤ c) b (scale_sum z t) h.0 (above-scale a z t h.1)

above-cond : (a : Atom) (b : Bool) (t u : Sum) → Above a t → Above a u → Above a (cond b t u)
above-cond a true t u h k = h
above-cond a false t u h k = k

above-part_p : (a : Atom) (g : ℕ) (t : Sum) → Above a t → Above a (part_p g t)
unfolding part_p Above
above-part_p a g (Sum.const k) h = tt
above-part_p a g (Sum.term c b t) h =
    let ih = above-part_p a g t h.1 in
    above-cond a (divides g c) (Sum.term (floor_div c g) b (part_p g t)) (part_p g t) (h.0, ih) ih

above-part_r : (a : Atom) (g : ℕ) (t : Sum) → Above a t → Above a (part_r g t)
unfolding part_r Above
above-part_r a g (Sum.const k) h = tt
above-part_r a g (Sum.term c b t) h =
    let ih = above-part_r a g t h.1 in
    above-cond a (divides g c) (part_r g t) (Sum.term c b (part_r g t)) ih (h.0, ih)

-- ---- sorted, no zero, no rule fits

pub positive-not-zero : (n : ℕ) → pos (suc n) ≢ pos 0
positive-not-zero n e = let z : suc n ≡ 0 = ap nat_abs e in omega arith

negative-not-zero : (n : ℕ) → negsuc n ≢ pos 0
negative-not-zero n e = let z : suc n ≡ 0 = ap nat_abs e in omega arith

module _ (β : Kind → ℕ → Range) where
  cons-folded : (c : ℤ) (a : Atom) (t : Sum) → FoldedA β a → Above a t → FoldedS β t → FoldedS β (cons_term c a t)
  unfolding cons_term FoldedS
  cons-folded (pos zero) a t h k p = p
  cons-folded (pos (suc n)) a t h k p = (positive-not-zero n, h, k, p)
  cons-folded (negsuc n) a t h k p = (negative-not-zero n, h, k, p)

  insert-folded : (c : ℤ) (a : Atom) (t : Sum) → FoldedA β a → FoldedS β t → FoldedS β (insert_term c a t)
  unfolding insert_term place_term FoldedS Above
  insert-folded c a (Sum.const k) h p = cons-folded c a (Sum.const k) h tt tt
  insert-folded c a (Sum.term e b t) h p = go (atom_order a b) refl (insert-folded c a t h p.3)
    where
      go : (o : Ordering) → atom_order a b ≡ o → FoldedS β (insert_term c a t) → FoldedS β (place_term o c a e b t (insert_term c a t))
      go Ordering.lt q ih = cons-folded c a (Sum.term e b t) h (q, above-trans a b t q p.2) p
      go Ordering.eq q ih = cons-folded (c +ℤ e) b t p.1 p.2 p.3
      go Ordering.gt q ih = (p.0, p.1, above-insert b c a t (order-greater a b q) p.2, ih)

  pub constant-folded : (z : ℤ) (t : Sum) → FoldedS β t → FoldedS β (add_constant z t)
  unfolding add_constant FoldedS
  constant-folded z (Sum.const k) h = tt
  constant-folded z (Sum.term c a t) h = (h.0, h.1, above-plusℤ a z t h.2, constant-folded z t h.3)

  pub add-folded : (t u : Sum) → FoldedS β t → FoldedS β u → FoldedS β (add_sums t u)
  unfolding add_sums FoldedS
  add-folded (Sum.const k) u h p = constant-folded k u p
  add-folded (Sum.term c a t) u h p = insert-folded c a (add_sums t u) h.1 (add-folded t u h.3 p)

  pub scale-folded : (z : ℤ) (t : Sum) → FoldedS β t → FoldedS β (scale_sum z t)
  unfolding scale_sum FoldedS
  scale-folded z (Sum.const k) h = tt
  scale-folded z (Sum.term c a t) h = cons-folded (z *ℤ c) a (scale_sum z t) h.1 (above-scale a z t h.2) (scale-folded z t h.3)

  pub part_r-folded : (g : ℕ) (t : Sum) → FoldedS β t → FoldedS β (part_r g t)
  unfolding part_r FoldedS
  part_r-folded g (Sum.const k) h = tt
  part_r-folded g (Sum.term c a t) h = go (divides g c) (part_r-folded g t h.3)
    where
      go : (b : Bool) → FoldedS β (part_r g t) → FoldedS β (cond b (part_r g t) (Sum.term c a (part_r g t)))
      go true ih = ih
      go false ih = (h.0, h.1, above-part_r a g t h.2, ih)

  floor-not-zero : (c : ℤ) (g : ℕ) → 0 < g → c ≢ pos 0 → T (divides g c) → floor_div c g ≢ pos 0
  floor-not-zero c g h n v e = n (divides-is c g h v ∙ ap (λ z. pos g *ℤ z) e ∙ *ℤ-zero (pos g))

  pub part_p-folded : (g : ℕ) (t : Sum) → 0 < g → FoldedS β t → FoldedS β (part_p g t)
  unfolding part_p FoldedS
  part_p-folded g (Sum.const k) hg h = tt
  part_p-folded g (Sum.term c a t) hg h = go (divides g c) (λ w. w) (part_p-folded g t hg h.3)
    where
      go : (b : Bool) → (T b → T (divides g c)) → FoldedS β (part_p g t) → FoldedS β (cond b (Sum.term (floor_div c g) a (part_p g t)) (part_p g t))
      go true f ih = (floor-not-zero c g hg h.0 (f tt), h.1, above-part_p a g t h.2, ih)
      go false f ih = ih
