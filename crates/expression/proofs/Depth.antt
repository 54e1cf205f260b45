-- A run of nodes is one tree where the count of the trees on the stack ends at one. Assumes nothing.
use mathlib.Core.Path.{◌≡◌, refl, sym, ap, ◌∙◌}
use mathlib.Core.List.{List, [], ◌∷◌}
use Prim.Native.Nat.{ℕ, zero, suc, ◌+◌, ◌-◌, ◌<◌, ◌≤◌}
use native.Mathlib.Omega.{arith}
use lib.Dec.{eqb}
use borrow.Author.Tests.{ne_eqb}
use lib.IntN.{ℤ, pos}
use lib.ListN.{length, get_or}
use Rattle.expression.specs.Expression.{Expr}
use Rattle.expression.specs.Node.{node_of, nodes_at}
use Rattle.expression.specs.Machine.{Out, broken, passed, stack, walk}
use Rattle.expression.specs.Decode.{tree_of, expr_alg, leaf_expr, one_expr, decode, is_tree, depth_step}
use Rattle.expression.specs.declared.Node.{Node}
use Rattle.expression.specs.declared.Node.TheVariants as N
use Rattle.expression.proofs.Machines.{nodes-next, nodes-end}

abbrev pub depth_then : ℕ → (ℕ → ℕ) → ℕ
depth_then zero f = 0
depth_then (suc k) f = f k

unfoldable pub depth_walk : List Node → ℕ → ℕ
depth_walk [] k = suc k
depth_walk (n ∷ ns) k = depth_then (depth_step n k) (λ (j : ℕ). depth_walk ns j)

abbrev depth_of : Out Expr → ℕ
depth_of broken = 0
depth_of passed = 0
depth_of (stack st) = suc (length st)

-- the count goes as the stack does
depths : (ns : List Node) (st : List Expr) → depth_of (walk expr_alg ns st) ≡ depth_walk ns (length st)
unfolding walk depth_walk
depths [] st = refl
depths (N.Leaf l ∷ ns) st = depths ns (leaf_expr l ∷ st)
depths (N.One o ∷ ns) [] = refl
depths (N.One o ∷ ns) (a ∷ st) = depths ns (one_expr o a ∷ st)
depths (N.Sum ∷ ns) [] = refl
depths (N.Sum ∷ ns) (b ∷ []) = refl
depths (N.Sum ∷ ns) (b ∷ (a ∷ st)) = depths ns (Expr.add a b ∷ st)
depths (N.Bad ∷ ns) st = refl

one-tree : (o : Out Expr) → is_tree (tree_of o) ≡ eqb (depth_of o) 2
one-tree broken = refl
one-tree passed = refl
one-tree (stack []) = refl
one-tree (stack (e ∷ [])) = refl
one-tree (stack (e ∷ (f ∷ st))) = sym (ne_eqb (suc (suc (suc (length st)))) 2 (λ (q : suc (suc (suc (length st))) ≡ 2). omega arith))

pub tree-by-depth : (ns : List Node) → is_tree (decode ns) ≡ eqb (depth_walk ns 0) 2
unfolding decode
tree-by-depth ns = one-tree (walk expr_alg ns []) ∙ ap (λ (k : ℕ). eqb k 2) (depths ns [])

-- the loop over a record's nodes
module _ (d r : ℕ) (ks : List ℕ) (vs : List ℤ) (i e k o : ℕ) (inv : depth_walk (nodes_at d r ks vs i (e - i)) k ≡ o) where
  pub depth-next : i < e → depth_then (depth_step (node_of d r (get_or ks i 0) (get_or vs i (pos 0))) k) (λ (j : ℕ). depth_walk (nodes_at d r ks vs (i + 1) (e - (i + 1))) j) ≡ o
  unfolding depth_walk
  depth-next h = ap (λ (l : List Node). depth_walk l k) (sym (nodes-next d r ks vs i e h)) ∙ inv

  pub depth-last : e ≤ i → suc k ≡ o
  unfolding depth_walk
  depth-last h = ap (λ (l : List Node). depth_walk l k) (sym (nodes-end d r ks vs i e h)) ∙ inv

pub depth-done : (ns : List Node) (k : ℕ) → k ≡ depth_walk ns 0 → eqb k 2 ≡ is_tree (decode ns)
depth-done ns k q = ap (λ (j : ℕ). eqb j 2) q ∙ sym (tree-by-depth ns)

pub eqb-suc : (k : ℕ) → eqb k 1 ≡ eqb (suc k) 2
eqb-suc zero = refl
eqb-suc (suc zero) = refl
eqb-suc (suc (suc k)) = ne_eqb (suc (suc k)) 1 (λ (q : suc (suc k) ≡ 1). omega arith) ∙ sym (ne_eqb (suc (suc (suc k))) 2 (λ (q : suc (suc (suc k)) ≡ 2). omega arith))
