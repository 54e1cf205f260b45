-- At a point inside the bounds the value of every node lies in its reckoned range. Assumes nothing.
use mathlib.Core.Path.{◌≡◌, refl, sym, ap, ◌∙◌, subst}
use mathlib.Core.Bool.{Bool, true, false, cond, ◌&&◌}
use mathlib.Core.List.{List, [], ◌∷◌}
use Prim.Native.Nat.{ℕ, zero, suc, ◌+◌, ◌-◌, ◌<◌, ◌≤◌}
use native.Mathlib.Omega.{arith}
use borrow.Author.Tests.{leb-true, le-leb}
use lib.Dec.{T, eqb→eq}
use lib.IntN.{ℤ, pos, negsuc, nat_abs, ◌+ℤ◌, ◌*ℤ◌}
use lib.ListN.{length, get_or}
use Rattle.integer.specs.Exact.{limit}
use Rattle.integer.specs.Floor.{floor_div, floor_mod}
use Rattle.integer.proofs.Linear.{abs-parts, abs-le}
use Rattle.integer.proofs.Trunc.{abs-above-0}
use Rattle.radix.proofs.Tests.{and-true, and_left, and_right}
use Rattle.expression.specs.Expression.{Kind, d, s, rt, Op, floordiv, modulo, Expr, Range, eval, op_of, eqℤ, add_range, mul_range, op_range, range_of, is_small, small_range, small_ranges, every_node}
use Rattle.expression.specs.Node.{nodes_at, SoundLeaf, SoundOne, Sound}
use Rattle.expression.specs.Machine.{stack, walk}
use Rattle.expression.specs.Decode.{leaf_expr, one_expr, expr_alg, tree, decode}
use Rattle.expression.specs.Value.{point_of, value_alg}
use Rattle.expression.specs.declared.Node.{Node}
use Rattle.expression.specs.declared.Node.TheVariants as N
use Rattle.expression.specs.declared.Leaf.{Leaf}
use Rattle.expression.specs.declared.Leaf.TheVariants as L
use Rattle.expression.specs.declared.One.{One}
use Rattle.expression.specs.declared.One.TheVariants.{Product, Floordiv, Mod}
use Rattle.expression.proofs.Order.{Le, Le-eq, Le-trans, Le-anti, Le-add, Le-mul, Le-mul-neg, Le-floor, Le-mod, Le-mod-lo, Le-mod-hi, Le-parts}
use Rattle.expression.proofs.Reading.{node-sound}
use Rattle.expression.proofs.Decoded.{of_tree}
use Rattle.expression.proofs.Meaning.{value-walk}

-- z lies in r
pub record LeIn (z : ℤ) (r : Range) : Type 0 where
  pub low : Le r.lo z
  pub high : Le z r.hi

-- ---- each node's value is in its range
pub sum-in : {x y : ℤ} {r q : Range} → LeIn x r → LeIn y q → LeIn (x +ℤ y) (add_range r q)
unfolding add_range
sum-in h k = record { low = Le-add h.low k.low; high = Le-add h.high k.high }

pub product-in : (c : ℤ) {x : ℤ} {r : Range} → LeIn x r → LeIn (c *ℤ x) (mul_range c r)
unfolding mul_range
product-in (pos n) h = record { low = Le-mul n h.low; high = Le-mul n h.high }
product-in (negsuc n) h = record { low = Le-mul-neg n h.high; high = Le-mul-neg n h.low }

pub eqℤ-eq : (a b : ℤ) → T (eqℤ a b) → a ≡ b
unfolding eqℤ
eqℤ-eq (pos a) (pos b) h = ap pos (eqb→eq a b h)
eqℤ-eq (pos a) (negsuc b) h = absurd h
eqℤ-eq (negsuc a) (pos b) h = absurd h
eqℤ-eq (negsuc a) (negsuc b) h = ap negsuc (eqb→eq a b h)

pub same-quot : (g : ℕ) (x : ℤ) (r : Range) → 0 < g → LeIn x r → floor_div r.lo g ≡ floor_div r.hi g → floor_div x g ≡ floor_div r.lo g
same-quot g x r hg h e = Le-anti (Le-trans (Le-floor g hg h.high) (Le-eq (sym e))) (Le-floor g hg h.low)

pub op-in : (o : Op) (c : ℕ) {x : ℤ} {r : Range} → 0 < c → LeIn x r → LeIn (op_of o x c) (op_range o r c)
unfolding op_of op_range
op-in floordiv c hc h = record { low = Le-floor c hc h.low; high = Le-floor c hc h.high }
op-in modulo c {x} {r} hc h = go (eqℤ (floor_div r.lo c) (floor_div r.hi c)) (λ w. w)
  where
    go : (b : Bool) → (T b → T (eqℤ (floor_div r.lo c) (floor_div r.hi c)))
        → LeIn (floor_mod x c) (cond b (record { lo = floor_mod r.lo c; hi = floor_mod r.hi c }) (record { lo = pos 0; hi = pos (c - 1) }))
    go true f =
        let e = eqℤ-eq (floor_div r.lo c) (floor_div r.hi c) (f tt) in
        let q = same-quot c x r hc h e in
        record { low = Le-mod c hc (sym q) h.low; high = Le-mod c hc (q ∙ e) h.high }
    go false f = record { low = Le-mod-lo x c; high = Le-mod-hi x c hc }

-- what lies between two small numbers is small
between : (z : ℤ) (r : Range) → LeIn z r → small_range r ≡ true → nat_abs z ≤ limit
between z r h k =
    let a = leb-true (nat_abs r.lo) limit (and_left (is_small r.lo) (is_small r.hi) k) in
    let b = leb-true (nat_abs r.hi) limit (and_right (is_small r.lo) (is_small r.hi) k) in
    abs-le z limit (omega (arith, Le-parts r.lo z h.low, Le-parts z r.hi h.high, abs-parts r.lo, abs-parts r.hi))

-- ---- proper trees: those whose variables are below their counts and whose divisors are above 0
unfoldable pub Proper : ℕ → ℕ → Expr → Type 0
Proper m r (Expr.var d n) = n < m
Proper m r (Expr.var s n) = n < r
Proper m r (Expr.var rt n) = ⊥
Proper m r (Expr.const z) = Unit {0}
Proper m r (Expr.add a b) = Proper m r a × Proper m r b
Proper m r (Expr.mul z a) = Proper m r a
Proper m r (Expr.op o a c) = (0 < c) × Proper m r a

unfoldable ProperAll : ℕ → ℕ → List Expr → Type 0
ProperAll m r [] = Unit {0}
ProperAll m r (e ∷ es) = Proper m r e × ProperAll m r es

unfoldable pub SoundAll : ℕ → ℕ → List Node → Type 0
SoundAll m r [] = Unit {0}
SoundAll m r (n ∷ ns) = Sound m r n × SoundAll m r ns

ok-leaf : (m r : ℕ) (l : Leaf) → SoundLeaf m r l → Proper m r (leaf_expr l)
unfolding Proper
ok-leaf m r (L.Dim n) h = h
ok-leaf m r (L.Range n) h = h
ok-leaf m r (L.Constant z) h = tt

ok-one : (m r : ℕ) (o : One) (e : Expr) → SoundOne o → Proper m r e → Proper m r (one_expr o e)
unfolding Proper
ok-one m r (Product z) e h k = k
ok-one m r (Floordiv c) e h k = (abs-above-0 c h.0, k)
ok-one m r (Mod c) e h k = (abs-above-0 c h.0, k)

ok-walk : (m r : ℕ) (ns : List Node) (st t : List Expr) → SoundAll m r ns → ProperAll m r st → walk expr_alg ns st ≡ stack t → ProperAll m r t
unfolding walk SoundAll ProperAll Proper
ok-walk m r [] st t a b e = let q : st ≡ t = cc in subst (ProperAll m r) q b
ok-walk m r (N.Leaf l ∷ ns) st t a b e = ok-walk m r ns (leaf_expr l ∷ st) t a.1 (ok-leaf m r l a.0, b) e
ok-walk m r (N.One o ∷ ns) [] t a b e = let z : ◌≡◌ {A = ℕ} 0 1 = cc in absurd (omega arith)
ok-walk m r (N.One o ∷ ns) (x ∷ st) t a b e = ok-walk m r ns (one_expr o x ∷ st) t a.1 (ok-one m r o x a.0 b.0, b.1) e
ok-walk m r (N.Sum ∷ ns) [] t a b e = let z : ◌≡◌ {A = ℕ} 0 1 = cc in absurd (omega arith)
ok-walk m r (N.Sum ∷ ns) (y ∷ []) t a b e = let z : ◌≡◌ {A = ℕ} 0 1 = cc in absurd (omega arith)
ok-walk m r (N.Sum ∷ ns) (y ∷ (x ∷ st)) t a b e = ok-walk m r ns (Expr.add x y ∷ st) t a.1 ((b.1.0, b.0), b.1.1) e
ok-walk m r (N.Bad ∷ ns) st t a b e = let z : ◌≡◌ {A = ℕ} 0 1 = cc in absurd (omega arith)

pub nodes-ok : (m r : ℕ) (ks : List ℕ) (vs : List ℤ) (i n : ℕ) → SoundAll m r (nodes_at m r ks vs i n)
unfolding SoundAll nodes_at
nodes-ok m r ks vs i zero = tt
nodes-ok m r ks vs i (suc n) = (node-sound m r m r (get_or ks i 0) (get_or vs i (pos 0)) (λ n u v. u) (λ n u v. u), nodes-ok m r ks vs (i + 1) n)

pub tree-ok : (m r : ℕ) (ks : List ℕ) (vs : List ℤ) (i n : ℕ) (e : Expr) → decode (nodes_at m r ks vs i n) ≡ tree e → Proper m r e
unfolding decode ProperAll
tree-ok m r ks vs i n e q = (ok-walk m r (nodes_at m r ks vs i n) [] (e ∷ []) (nodes-ok m r ks vs i n) tt (of_tree (walk expr_alg (nodes_at m r ks vs i n) []) e q)).0

-- ---- a point inside the bounds

-- each variable below its count has a value that lies in its bounds
pub record Inside (m r : ℕ) (β : Kind → ℕ → Range) (ρ : Kind → ℕ → ℤ) : Type 0 where
  pub dims : (n : ℕ) → n < m → LeIn (ρ d n) (β d n)
  pub ranges : (n : ℕ) → n < r → LeIn (ρ s n) (β s n)

module _ (m r : ℕ) (β : Kind → ℕ → Range) (ρ : Kind → ℕ → ℤ) (inside : Inside m r β ρ) where
  -- the value of every node lies in its reckoned range
  pub in-range : (e : Expr) → Proper m r e → LeIn (eval ρ e) (range_of β e)
  unfolding Proper eval range_of
  in-range (Expr.var d n) h = inside.dims n h
  in-range (Expr.var s n) h = inside.ranges n h
  in-range (Expr.var rt n) h = absurd h
  in-range (Expr.const z) h = record { low = Le-eq refl; high = Le-eq refl }
  in-range (Expr.add a b) h = sum-in (in-range a h.0) (in-range b h.1)
  in-range (Expr.mul z a) h = product-in z (in-range a h)
  in-range (Expr.op o a c) h = op-in o c h.0 (in-range a h.1)

  keeps : (e : Expr) → Proper m r e → small_range (range_of β e) ≡ true → is_small (eval ρ e) ≡ true
  keeps e h k = le-leb (nat_abs (eval ρ e)) limit (between (eval ρ e) (range_of β e) (in-range e h) k)

  -- so where every range is within the limit, every value is
  pub small_all : (e : Expr) → Proper m r e → small_ranges β e ≡ true → every_node (λ (x : Expr). is_small (eval ρ x)) e ≡ true
  unfolding Proper every_node small_ranges
  small_all (Expr.var k n) h f = keeps (Expr.var k n) h f
  small_all (Expr.const z) h f = keeps (Expr.const z) h f
  small_all (Expr.add a b) h f =
      let x = small_ranges β a in
      let y = small_ranges β b in
      let g = and_left (x && y) _ f in
      and-true (and-true (small_all a h.0 (and_left x y g)) (small_all b h.1 (and_right x y g))) (keeps (Expr.add a b) h (and_right (x && y) _ f))
  small_all (Expr.mul z a) h f =
      let x = small_ranges β a in
      and-true (small_all a h (and_left x _ f)) (keeps (Expr.mul z a) h (and_right x _ f))
  small_all (Expr.op o a c) h f =
      let x = small_ranges β a in
      and-true (small_all a h.1 (and_left x _ f)) (keeps (Expr.op o a c) h (and_right x _ f))

-- at a point inside the bounds, the walk of values over an accepted tree ends with the tree's value
pub accepted : (β : Kind → ℕ → Range) (ds ss : List ℤ) (ks : List ℕ) (vs : List ℤ) (i n : ℕ) (e : Expr)
    → Inside (length ds) (length ss) β (point_of ds ss)
    → decode (nodes_at (length ds) (length ss) ks vs i n) ≡ tree e
    → small_ranges β e ≡ true
    → walk (value_alg ds ss) (nodes_at (length ds) (length ss) ks vs i n) [] ≡ stack (eval (point_of ds ss) e ∷ [])
accepted β ds ss ks vs i n e inside q f =
    value-walk ds ss (nodes_at (length ds) (length ss) ks vs i n) e q
    (small_all (length ds) (length ss) β (point_of ds ss) inside e (tree-ok (length ds) (length ss) ks vs i n e q) f)
