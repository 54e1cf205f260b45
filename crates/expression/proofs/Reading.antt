-- What is read from a kind and a value: each node that can be read keeps its rules. Assumes nothing.
use mathlib.Core.Path.{◌≡◌, refl}
use mathlib.Core.Bool.{Bool, true, false, cond}
use Prim.Native.Nat.{ℕ, zero, suc, ◌-◌, ◌*◌, ◌<◌, ◌≤◌}
use native.Mathlib.Omega.{arith}
use lib.Dec.{ltb, eqb, lt→ltb}
use lib.IntN.{ℤ, pos, negsuc, nat_abs}
use mathlib.Core.List.{List}
use borrow.Author.Tests.{ltb-true, ltb-false, leb-true, lt-ltb}
use Rattle.integer.specs.Exact.{limit}
use Rattle.expression.specs.Expression.{is_small}
use Rattle.expression.specs.Node.{max_variables, max_divisor, is_divisor, or_bad, place_node, variable_node, one_node, node_of, Divisor, Sound}
use Rattle.expression.specs.Ready.{SmallTo, LeafSmall}
use Rattle.expression.specs.declared.Node.{Node}
use Rattle.expression.specs.declared.Node.TheVariants as N
use Rattle.expression.specs.declared.Leaf.TheVariants.{Dim, Range, Constant}
use Rattle.expression.specs.declared.One.TheVariants.{Product, Floordiv, Mod}

-- what P has to hold of
pub record Readable (P : Node → Type 0) (dims ranges : ℕ) : Type 0 where
  pub bad : P N.Bad
  pub sum : P N.Sum
  pub dim : (n : ℕ) → n < dims → n < max_variables → P (N.Leaf (Dim n))
  pub range : (n : ℕ) → n < ranges → n < max_variables → P (N.Leaf (Range n))
  pub constant : (z : ℤ) → nat_abs z ≤ limit → P (N.Leaf (Constant z))
  pub product : (z : ℤ) → nat_abs z ≤ limit → P (N.One (Product z))
  pub floordiv : (z : ℤ) → Divisor z → P (N.One (Floordiv z))
  pub modulo : (z : ℤ) → Divisor z → P (N.One (Mod z))

divisor-of : (z : ℤ) → is_divisor z ≡ true → Divisor z
divisor-of (pos zero) e = let z : ◌≡◌ {A = ℕ} 0 1 = cc in absurd (omega arith)
divisor-of (pos (suc c)) e =
    (record { lt = lt→ltb 0 (suc c) (omega arith) }, leb-true (suc c) max_divisor (rw (lt-ltb 0 (suc c) (omega arith)) at e))
divisor-of (negsuc c) e = let z : ◌≡◌ {A = ℕ} 0 1 = cc in absurd (omega arith)

module _ (P : Node → Type 0) (dims ranges : ℕ) (h : Readable P dims ranges) where
  either : (b : Bool) (x y : Node) → (b ≡ true → P x) → (b ≡ false → P y) → P (cond b x y)
  either true x y p q = p refl
  either false x y p q = q refl

  or-bad : (b : Bool) (x : Node) → (b ≡ true → P x) → P (or_bad b x)
  or-bad true x p = p refl
  or-bad false x p = h.bad

  place-has : (p : ℕ) → P (place_node dims ranges p)
  place-has p =
      either (ltb p max_variables) _ _
      (λ t. or-bad (ltb p dims) _ (λ u. h.dim p (ltb-true p dims u) (ltb-true p max_variables t)))
      (λ t.
      either (ltb p (2 * max_variables)) _ _
      (λ v.
      or-bad (ltb (p - max_variables) ranges) _
      (λ u.
      let a = ltb-false p max_variables t in
      let b = ltb-true p (2 * max_variables) v in
      h.range (p - max_variables) (ltb-true (p - max_variables) ranges u) (omega arith)))
      (λ v. h.bad))

  variable-has : (z : ℤ) → P (variable_node dims ranges z)
  variable-has (pos p) = place-has p
  variable-has (negsuc p) = h.bad

  one_has : (kind : ℕ) (z : ℤ) → P (one_node kind z)
  one_has kind z =
      either (eqb kind 3) _ _ (λ t. or-bad (is_small z) _ (λ u. h.product z (leb-true (nat_abs z) limit u)))
      (λ t.
      either (eqb kind 4) _ _ (λ t. or-bad (is_divisor z) _ (λ u. h.floordiv z (divisor-of z u)))
      (λ t. either (eqb kind 5) _ _ (λ t. or-bad (is_divisor z) _ (λ u. h.modulo z (divisor-of z u))) (λ t. h.bad)))

  pub node-has : (kind : ℕ) (z : ℤ) → P (node_of dims ranges kind z)
  unfolding node_of
  node-has kind z =
      either (eqb kind 0) _ _ (λ t. variable-has z)
      (λ t.
      either (eqb kind 1) _ _ (λ t. or-bad (is_small z) _ (λ u. h.constant z (leb-true (nat_abs z) limit u)))
      (λ t. either (eqb kind 2) _ _ (λ t. h.sum) (λ t. one_has kind z)))

-- a node that is read is sound, for counts that hold those of its variables
pub node-sound : (a b dims ranges kind : ℕ) (z : ℤ)
    → ((n : ℕ) → n < dims → n < max_variables → n < a)
    → ((n : ℕ) → n < ranges → n < max_variables → n < b)
    → Sound a b (node_of dims ranges kind z)
node-sound a b dims ranges kind z f g =
    node-has (Sound a b) dims ranges
    (record {
      bad = tt;
      sum = tt;
      dim = f;
      range = g;
      constant = λ z u. u;
      product = λ z u. u;
      floordiv = λ z u. u;
      modulo = λ z u. u;
    })
    kind z

-- the leaf that is read is within the limit
pub node-small : (l : List ℤ) (dims ranges kind : ℕ) (z : ℤ) → SmallTo dims ranges l → LeafSmall l (node_of dims ranges kind z)
node-small l dims ranges kind z s =
    node-has (LeafSmall l) dims ranges
    (record {
      bad = tt;
      sum = tt;
      dim = λ n u v. s.dimension n u;
      range = λ n u v. s.range n u;
      constant = λ z u. u;
      product = λ z u. tt;
      floordiv = λ z u. tt;
      modulo = λ z u. tt;
    })
    kind z
