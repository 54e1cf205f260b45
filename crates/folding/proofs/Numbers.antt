-- The numbers of a tree: those of a tree that is read are good, and good divisors are above 0. Assumes nothing.
use mathlib.Core.Path.{◌≡◌, refl, subst}
use mathlib.Core.Bool.{true, ◌&&◌}
use mathlib.Core.List.{List, [], ◌∷◌}
use Prim.Native.Nat.{ℕ}
use native.Mathlib.Omega.{arith}
use borrow.Author.Tests.{ltb-true, lt-ltb, le-leb}
use lib.Dec.{leb, ltb}
use lib.IntN.{ℤ, nat_abs}
use Rattle.integer.specs.Exact.{limit}
use Rattle.integer.proofs.Trunc.{abs-above-0}
use Rattle.radix.proofs.Tests.{and-true, and_left, and_right}
use Rattle.expression.specs.Expression.{Expr, every_node}
use Rattle.expression.specs.Node.{max_divisor, SoundLeaf, SoundOne, nodes_at}
use Rattle.expression.specs.Machine.{stack, walk}
use Rattle.expression.specs.Decode.{leaf_expr, one_expr, expr_alg, tree, decode}
use Rattle.expression.specs.declared.Node.{Node}
use Rattle.expression.specs.declared.Node.TheVariants as N
use Rattle.expression.specs.declared.Leaf.{Leaf}
use Rattle.expression.specs.declared.Leaf.TheVariants as L
use Rattle.expression.specs.declared.One.{One}
use Rattle.expression.specs.declared.One.TheVariants.{Product, Floordiv, Mod}
use Rattle.expression.proofs.Decoded.{of_tree}
use Rattle.expression.proofs.Within.{SoundAll, nodes-ok}
use Rattle.folding.specs.Map.{good_numbers}
use Rattle.folding.proofs.Divisors.{PosE}

-- ---- divisors are above 0

pub positive-numbers : (e : Expr) → good_numbers e ≡ true → PosE e
unfolding good_numbers every_node PosE
positive-numbers (Expr.var k n) h = tt
positive-numbers (Expr.const z) h = tt
positive-numbers (Expr.add a b) h =
    let w = and_left (good_numbers a && good_numbers b) true h in
    (positive-numbers a (and_left (good_numbers a) (good_numbers b) w), positive-numbers b (and_right (good_numbers a) (good_numbers b) w))
positive-numbers (Expr.mul z a) h = positive-numbers a (and_left (good_numbers a) _ h)
positive-numbers (Expr.op o a c) h =
    (ltb-true 0 c (and_left (ltb 0 c) (leb c max_divisor) (and_right (good_numbers a) _ h)), positive-numbers a (and_left (good_numbers a) _ h))

-- ---- a tree that is read

unfoldable GoodAll : List Expr → Type 0
GoodAll [] = Unit {0}
GoodAll (e ∷ es) = (good_numbers e ≡ true) × GoodAll es

leaf-numbers : (m r : ℕ) (l : Leaf) → SoundLeaf m r l → good_numbers (leaf_expr l) ≡ true
unfolding good_numbers every_node
leaf-numbers m r (L.Dim n) h = refl
leaf-numbers m r (L.Range n) h = refl
leaf-numbers m r (L.Constant z) h = le-leb (nat_abs z) limit h

one-numbers : (o : One) (e : Expr) → SoundOne o → good_numbers e ≡ true → good_numbers (one_expr o e) ≡ true
unfolding good_numbers every_node
one-numbers (Product z) e h k = and-true k (le-leb (nat_abs z) limit h)
one-numbers (Floordiv c) e h k = and-true k (and-true (lt-ltb 0 (nat_abs c) (abs-above-0 c h.0)) (le-leb (nat_abs c) max_divisor h.1))
one-numbers (Mod c) e h k = and-true k (and-true (lt-ltb 0 (nat_abs c) (abs-above-0 c h.0)) (le-leb (nat_abs c) max_divisor h.1))

sum-numbers : (x y : Expr) → good_numbers x ≡ true → good_numbers y ≡ true → good_numbers (Expr.add x y) ≡ true
unfolding good_numbers every_node
sum-numbers x y h k = and-true (and-true h k) refl

walk-numbers : (m r : ℕ) (ns : List Node) (st t : List Expr) → SoundAll m r ns → GoodAll st → walk expr_alg ns st ≡ stack t → GoodAll t
unfolding walk SoundAll GoodAll
walk-numbers m r [] st t a b e = let q : st ≡ t = cc in subst GoodAll q b
walk-numbers m r (N.Leaf l ∷ ns) st t a b e = walk-numbers m r ns (leaf_expr l ∷ st) t a.1 (leaf-numbers m r l a.0, b) e
walk-numbers m r (N.One o ∷ ns) [] t a b e = let z : ◌≡◌ {A = ℕ} 0 1 = cc in absurd (omega arith)
walk-numbers m r (N.One o ∷ ns) (x ∷ st) t a b e = walk-numbers m r ns (one_expr o x ∷ st) t a.1 (one-numbers o x a.0 b.0, b.1) e
walk-numbers m r (N.Sum ∷ ns) [] t a b e = let z : ◌≡◌ {A = ℕ} 0 1 = cc in absurd (omega arith)
walk-numbers m r (N.Sum ∷ ns) (y ∷ []) t a b e = let z : ◌≡◌ {A = ℕ} 0 1 = cc in absurd (omega arith)
walk-numbers m r (N.Sum ∷ ns) (y ∷ (x ∷ st)) t a b e = walk-numbers m r ns (Expr.add x y ∷ st) t a.1 (sum-numbers x y b.1.0 b.0, b.1.1) e
walk-numbers m r (N.Bad ∷ ns) st t a b e = let z : ◌≡◌ {A = ℕ} 0 1 = cc in absurd (omega arith)

pub tree-numbers : (m r : ℕ) (ks : List ℕ) (vs : List ℤ) (i n : ℕ) (e : Expr) → decode (nodes_at m r ks vs i n) ≡ tree e → good_numbers e ≡ true
unfolding decode GoodAll
tree-numbers m r ks vs i n e q =
    (walk-numbers m r (nodes_at m r ks vs i n) [] (e ∷ []) (nodes-ok m r ks vs i n) tt (of_tree (walk expr_alg (nodes_at m r ks vs i n) []) e q)).0
