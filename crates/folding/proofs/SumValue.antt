-- The value of sums merged, scaled and taken apart, and of a sum as a tree. Assumes nothing.
use mathlib.Core.Path.{◌≡◌, refl, sym, ap, ap₂, ◌∙◌}
use mathlib.Core.Bool.{Bool, true, false, cond}
use Prim.Native.Nat.{ℕ, zero, suc, ◌<◌, Ordering}
use lib.Dec.{T}
use lib.IntN.{ℤ, pos, negsuc, ◌+ℤ◌, ◌*ℤ◌, +ℤ_assoc, +ℤ_idl, +ℤ_idr, zero-*ℤ}
use Rattle.integer.specs.Floor.{floor_div}
use Rattle.integer.proofs.Laws.{*ℤ-distribl, *ℤ-assoc}
use Rattle.expression.specs.Expression.{Kind, Expr, op_of, eqℤ, eval}
use Rattle.expression.proofs.Ring.{*ℤ-distribr, +ℤ-left, ringℤ}
use Rattle.expression.proofs.Within.{eqℤ-eq}
use Rattle.folding.specs.Sum.{Atom, Sum, atom_order, atom_value, sum_value}
use Rattle.folding.specs.Fold.{cons_term, place_term, insert_term, add_constant, add_sums, scale_sum, divides, part_p, part_r, term_tree, constant_tree, atom_tree, sum_tree, join_terms}
use Rattle.folding.proofs.AtomOrder.{order_same}
use Rattle.folding.proofs.Divisors.{one-l, halves, divides-is}

module _ (ρ : Kind → ℕ → ℤ) where
  cons-value : (c : ℤ) (a : Atom) (t : Sum) → sum_value (cons_term c a t) ρ ≡ c *ℤ atom_value a ρ +ℤ sum_value t ρ
  unfolding cons_term sum_value
  cons-value (pos zero) a t = sym (ap (λ z. z +ℤ sum_value t ρ) (zero-*ℤ (atom_value a ρ)) ∙ +ℤ_idl (sum_value t ρ))
  cons-value (pos (suc n)) a t = refl
  cons-value (negsuc n) a t = refl

  insert-value : (c : ℤ) (a : Atom) (t : Sum) → sum_value (insert_term c a t) ρ ≡ c *ℤ atom_value a ρ +ℤ sum_value t ρ
  unfolding insert_term place_term sum_value
  insert-value c a (Sum.const k) = cons-value c a (Sum.const k)
  insert-value c a (Sum.term e b t) = go (atom_order a b) refl (insert-value c a t)
    where
      go : (o : Ordering) → atom_order a b ≡ o → sum_value (insert_term c a t) ρ ≡ c *ℤ atom_value a ρ +ℤ sum_value t ρ
          → sum_value (place_term o c a e b t (insert_term c a t)) ρ ≡ c *ℤ atom_value a ρ +ℤ (e *ℤ atom_value b ρ +ℤ sum_value t ρ)
      go Ordering.lt q ih = cons-value c a (Sum.term e b t)
      go Ordering.eq q ih =
          cons-value (c +ℤ e) b t
          ∙ ap (λ z. z +ℤ sum_value t ρ) (*ℤ-distribr c e (atom_value b ρ))
          ∙ +ℤ_assoc (c *ℤ atom_value b ρ) (e *ℤ atom_value b ρ) (sum_value t ρ)
          ∙ ap (λ x. c *ℤ atom_value x ρ +ℤ (e *ℤ atom_value b ρ +ℤ sum_value t ρ)) (sym (order_same a b q))
      go Ordering.gt q ih = ap (λ z. e *ℤ atom_value b ρ +ℤ z) ih ∙ +ℤ-left (e *ℤ atom_value b ρ) (c *ℤ atom_value a ρ) (sum_value t ρ)

  pub constant-value : (z : ℤ) (t : Sum) → sum_value (add_constant z t) ρ ≡ z +ℤ sum_value t ρ
  unfolding add_constant sum_value
  constant-value z (Sum.const k) = refl
  constant-value z (Sum.term c a t) = ap (λ x. c *ℤ atom_value a ρ +ℤ x) (constant-value z t) ∙ +ℤ-left (c *ℤ atom_value a ρ) z (sum_value t ρ)

  pub add-value : (t u : Sum) → sum_value (add_sums t u) ρ ≡ sum_value t ρ +ℤ sum_value u ρ
  unfolding add_sums sum_value
  add-value (Sum.const k) u = constant-value k u
  add-value (Sum.term c a t) u =
      insert-value c a (add_sums t u)
      ∙ ap (λ x. c *ℤ atom_value a ρ +ℤ x) (add-value t u)
      ∙ sym (+ℤ_assoc (c *ℤ atom_value a ρ) (sum_value t ρ) (sum_value u ρ))

  pub scale-value : (z : ℤ) (t : Sum) → sum_value (scale_sum z t) ρ ≡ z *ℤ sum_value t ρ
  unfolding scale_sum sum_value
  scale-value z (Sum.const k) = refl
  scale-value z (Sum.term c a t) =
      cons-value (z *ℤ c) a (scale_sum z t)
      ∙ ap (λ x. (z *ℤ c) *ℤ atom_value a ρ +ℤ x) (scale-value z t)
      ∙ ap (λ x. x +ℤ z *ℤ sum_value t ρ) (*ℤ-assoc z c (atom_value a ρ))
      ∙ sym (*ℤ-distribl z (c *ℤ atom_value a ρ) (sum_value t ρ))

  -- ---- the parts at g

  regroup : (g f a p r : ℤ) → g *ℤ (f *ℤ a +ℤ p) +ℤ r ≡ (g *ℤ f) *ℤ a +ℤ (g *ℤ p +ℤ r)
  regroup g f a p r = simp ringℤ

  pub parts-value : (g : ℕ) (t : Sum) → 0 < g → pos g *ℤ sum_value (part_p g t) ρ +ℤ sum_value (part_r g t) ρ ≡ sum_value t ρ
  unfolding part_p part_r sum_value
  parts-value g (Sum.const k) h = halves k g h
  parts-value g (Sum.term c a t) h = go (divides g c) (λ x. x) (parts-value g t h)
    where
      go : (b : Bool) → (T b → T (divides g c)) → pos g *ℤ sum_value (part_p g t) ρ +ℤ sum_value (part_r g t) ρ ≡ sum_value t ρ
          → pos g *ℤ sum_value (cond b (Sum.term (floor_div c g) a (part_p g t)) (part_p g t)) ρ +ℤ sum_value (cond b (part_r g t) (Sum.term c a (part_r g t))) ρ
          ≡ c *ℤ atom_value a ρ +ℤ sum_value t ρ
      go true f ih =
          regroup (pos g) (floor_div c g) (atom_value a ρ) (sum_value (part_p g t) ρ) (sum_value (part_r g t) ρ)
          ∙ ap₂ (λ x y. x *ℤ atom_value a ρ +ℤ y) (sym (divides-is c g h (f tt))) ih
      go false f ih = +ℤ-left (pos g *ℤ sum_value (part_p g t) ρ) (c *ℤ atom_value a ρ) (sum_value (part_r g t) ρ) ∙ ap (λ x. c *ℤ atom_value a ρ +ℤ x) ih

  -- ---- a sum as a tree

  term-tree-value : (c : ℤ) (x : Expr) → eval ρ (term_tree c x) ≡ c *ℤ eval ρ x
  unfolding term_tree eval
  term-tree-value c x = go (eqℤ c (pos 1)) (λ w. eqℤ-eq c (pos 1) w)
    where
      go : (b : Bool) → (T b → c ≡ pos 1) → eval ρ (cond b x (Expr.mul c x)) ≡ c *ℤ eval ρ x
      go true f = sym (ap (λ z. z *ℤ eval ρ x) (f tt) ∙ one-l (eval ρ x))
      go false f = refl

  constant-tree-value : (k : ℤ) (x : Expr) → eval ρ (constant_tree k x) ≡ eval ρ x +ℤ k
  unfolding constant_tree eval
  constant-tree-value k x = go (eqℤ k (pos 0)) (λ w. eqℤ-eq k (pos 0) w)
    where
      go : (b : Bool) → (T b → k ≡ pos 0) → eval ρ (cond b x (Expr.add x (Expr.const k))) ≡ eval ρ x +ℤ k
      go true f = sym (ap (λ z. eval ρ x +ℤ z) (f tt) ∙ +ℤ_idr (eval ρ x))
      go false f = refl

  mutual
    unfolding atom_tree eval atom_value

    atom-tree-value : (a : Atom) → eval ρ (atom_tree a) ≡ atom_value a ρ
    atom-tree-value (Atom.var k n) = refl
    atom-tree-value (Atom.op o t c) = ap (λ z. op_of o z c) (sum-tree-value t)

    pub sum-tree-value : (t : Sum) → eval ρ (sum_tree t) ≡ sum_value t ρ
    sum-tree-value (Sum.const k) = refl
    sum-tree-value (Sum.term c a t) =
        join-value t (term_tree c (atom_tree a))
        ∙ ap (λ z. z +ℤ sum_value t ρ) (term-tree-value c (atom_tree a) ∙ ap (λ z. c *ℤ z) (atom-tree-value a))

    join-value : (t : Sum) (x : Expr) → eval ρ (join_terms t x) ≡ eval ρ x +ℤ sum_value t ρ
    join-value (Sum.const k) x = constant-tree-value k x
    join-value (Sum.term c a t) x =
        join-value t (Expr.add x (term_tree c (atom_tree a)))
        ∙ ap (λ z. eval ρ x +ℤ z +ℤ sum_value t ρ) (term-tree-value c (atom_tree a) ∙ ap (λ z. c *ℤ z) (atom-tree-value a))
        ∙ +ℤ_assoc (eval ρ x) (c *ℤ atom_value a ρ) (sum_value t ρ)
