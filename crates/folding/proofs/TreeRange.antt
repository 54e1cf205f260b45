-- The range of a sum as a tree is the sum's; and a term within the limits has its atom within them. Assumes nothing.
use mathlib.Core.Path.{◌≡◌, refl, sym, ap, ◌∙◌, subst}
use mathlib.Core.Logic.{◌≢◌}
use mathlib.Core.Bool.{Bool, true, false, cond}
use Prim.Native.Nat.{ℕ, zero, suc, ◌*◌, ◌<◌, ◌≤◌}
use native.Mathlib.Omega.{arith}
use native.Mathlib.Nat as NatL
use borrow.Author.Tests.{leb-true, le-leb}
use lib.Dec.{T}
use lib.IntN.{ℤ, pos, negsuc, neg_ℤ, nat_abs, ◌*ℤ◌, +ℤ_idl, +ℤ_idr, +ℤ_assoc}
use Rattle.integer.specs.Exact.{limit}
use Rattle.radix.proofs.Tests.{and-true, and_left, and_right}
use Rattle.expression.specs.Expression.{Kind, Expr, Range, span, eqℤ, add_range, mul_range, op_range, is_small, small_range, range_of}
use Rattle.expression.proofs.Within.{eqℤ-eq}
use Rattle.folding.specs.Sum.{Atom, Sum, atom_range, sum_range}
use Rattle.folding.specs.Fold.{term_tree, constant_tree, atom_tree, sum_tree, join_terms}
use Rattle.folding.proofs.Divisors.{one-l}

-- ---- sums and products of ranges

range-path : {r q : Range} → r.lo ≡ q.lo → r.hi ≡ q.hi → r ≡ q
range-path e f = λ i. record { lo = e i; hi = f i }

abbrev pub zero_range : Range
zero_range = span (pos 0) (pos 0)

pub add-zero-left : (r : Range) → add_range zero_range r ≡ r
unfolding add_range
add-zero-left r = range-path (+ℤ_idl r.lo) (+ℤ_idl r.hi)

pub add-zero-right : (r : Range) → add_range r zero_range ≡ r
unfolding add_range
add-zero-right r = range-path (+ℤ_idr r.lo) (+ℤ_idr r.hi)

add-range-assoc : (r q v : Range) → add_range (add_range r q) v ≡ add_range r (add_range q v)
unfolding add_range
add-range-assoc r q v = range-path (+ℤ_assoc r.lo q.lo v.lo) (+ℤ_assoc r.hi q.hi v.hi)

pub mul-one : (r : Range) → mul_range (pos 1) r ≡ r
unfolding mul_range
mul-one r = range-path (one-l r.lo) (one-l r.hi)

-- ---- a product within the limits has its factor within them

abs-negative : (n : ℕ) → nat_abs (neg_ℤ (pos n)) ≡ n
abs-negative zero = refl
abs-negative (suc n) = refl

abs-mul : (c x : ℤ) → nat_abs (c *ℤ x) ≡ nat_abs c * nat_abs x
abs-mul (pos a) (pos b) = refl
abs-mul (pos a) (negsuc b) = abs-negative (a * suc b)
abs-mul (negsuc a) (pos b) = abs-negative (suc a * b)
abs-mul (negsuc a) (negsuc b) = refl

abs-above : (c : ℤ) → c ≢ pos 0 → 0 < nat_abs c
abs-above (pos zero) h = absurd (h refl)
abs-above (pos (suc n)) h = omega arith
abs-above (negsuc n) h = omega arith

le-factor : (n m most : ℕ) → 0 < n → n * m ≤ most → m ≤ most
le-factor n m most h k = NatL.le_trans (NatL.le-mul_of_pos_right m h) (subst (λ x. x ≤ most) (NatL.mul_comm n m) k)

small-factor : (c x : ℤ) → c ≢ pos 0 → is_small (c *ℤ x) ≡ true → is_small x ≡ true
small-factor c x h k =
    le-leb (nat_abs x) limit
    (le-factor (nat_abs c) (nat_abs x) limit (abs-above c h) (subst (λ n. n ≤ limit) (abs-mul c x) (leb-true (nat_abs (c *ℤ x)) limit k)))

pub small-range-factor : (c : ℤ) (r : Range) → c ≢ pos 0 → small_range (mul_range c r) ≡ true → small_range r ≡ true
unfolding mul_range
small-range-factor (pos n) r h k =
    let x = is_small (pos n *ℤ r.lo) in
    let y = is_small (pos n *ℤ r.hi) in
    and-true (small-factor (pos n) r.lo h (and_left x y k)) (small-factor (pos n) r.hi h (and_right x y k))
small-range-factor (negsuc n) r h k =
    let x = is_small (negsuc n *ℤ r.hi) in
    let y = is_small (negsuc n *ℤ r.lo) in
    and-true (small-factor (negsuc n) r.lo h (and_right x y k)) (small-factor (negsuc n) r.hi h (and_left x y k))

-- ---- a sum as a tree

module _ (β : Kind → ℕ → Range) where
  pub term-tree-range : (c : ℤ) (x : Expr) → range_of β (term_tree c x) ≡ mul_range c (range_of β x)
  unfolding term_tree range_of
  term-tree-range c x = go (eqℤ c (pos 1)) (λ w. eqℤ-eq c (pos 1) w)
    where
      go : (b : Bool) → (T b → c ≡ pos 1) → range_of β (cond b x (Expr.mul c x)) ≡ mul_range c (range_of β x)
      go true f = sym (ap (λ z. mul_range z (range_of β x)) (f tt) ∙ mul-one (range_of β x))
      go false f = refl

  constant-tree-range : (k : ℤ) (x : Expr) → range_of β (constant_tree k x) ≡ add_range (range_of β x) (span k k)
  unfolding constant_tree range_of
  constant-tree-range k x = go (eqℤ k (pos 0)) (λ w. eqℤ-eq k (pos 0) w)
    where
      go : (b : Bool) → (T b → k ≡ pos 0) → range_of β (cond b x (Expr.add x (Expr.const k))) ≡ add_range (range_of β x) (span k k)
      go true f = sym (ap (λ z. add_range (range_of β x) (span z z)) (f tt) ∙ add-zero-right (range_of β x))
      go false f = refl

  mutual
    unfolding atom_tree range_of atom_range

    pub atom-tree-range : (a : Atom) → range_of β (atom_tree a) ≡ atom_range a β
    atom-tree-range (Atom.var k n) = refl
    atom-tree-range (Atom.op o t c) = ap (λ r. op_range o r c) (sum-tree-range t)

    pub sum-tree-range : (t : Sum) → range_of β (sum_tree t) ≡ sum_range t β
    sum-tree-range (Sum.const k) = refl
    sum-tree-range (Sum.term c a t) =
        join-range t (term_tree c (atom_tree a))
        ∙ ap (λ r. add_range r (sum_range t β)) (term-tree-range c (atom_tree a) ∙ ap (λ r. mul_range c r) (atom-tree-range a))

    join-range : (t : Sum) (x : Expr) → range_of β (join_terms t x) ≡ add_range (range_of β x) (sum_range t β)
    join-range (Sum.const k) x = constant-tree-range k x
    join-range (Sum.term c a t) x =
        join-range t (Expr.add x (term_tree c (atom_tree a)))
        ∙ ap (λ r. add_range (add_range (range_of β x) r) (sum_range t β)) (term-tree-range c (atom_tree a) ∙ ap (λ r. mul_range c r) (atom-tree-range a))
        ∙ add-range-assoc (range_of β x) (mul_range c (atom_range a β)) (sum_range t β)
