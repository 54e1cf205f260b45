-- The nodes of a folded tree, by the variables and the floordivs and mods of the tree given. Assumes nothing.
use mathlib.Core.Bool.{Bool, true, false, cond}
use Prim.Native.Nat.{ℕ, suc, ◌+◌, ◌*◌, ◌≤◌}
use native.Mathlib.Omega.{arith}
use lib.IntN.{ℤ, pos}
use Rattle.expression.specs.Expression.{Kind, Expr, node_count, Range, eqℤ}
use Rattle.folding.specs.Sum.{Atom, Sum, atom_size, sum_size}
use Rattle.folding.specs.Fold.{fuel_for, fold_sum, term_tree, constant_tree, atom_tree, sum_tree, join_terms}
use Rattle.folding.specs.Map.{fold_tree}
use Rattle.folding.proofs.Size.{size-add, size_scale, size-run}

-- how many variables, floordivs and mods a tree has
unfoldable pub atom_count : Expr → ℕ
atom_count (Expr.var k n) = 1
atom_count (Expr.const z) = 0
atom_count (Expr.add a b) = atom_count a + atom_count b
atom_count (Expr.mul z a) = atom_count a
atom_count (Expr.op o a c) = suc (atom_count a)

-- the folded sum has no more atoms
pub size-atoms : (β : Kind → ℕ → Range) (e : Expr) → sum_size (fold_sum β e) ≤ atom_count e
unfolding fold_sum atom_count sum_size
size-atoms β (Expr.var k n) = omega arith
size-atoms β (Expr.const z) = omega arith
size-atoms β (Expr.add a b) = omega (arith, size-add (fold_sum β a) (fold_sum β b), size-atoms β a, size-atoms β b)
size-atoms β (Expr.mul z a) = omega (arith, size_scale z (fold_sum β a), size-atoms β a)
size-atoms β (Expr.op o a c) = omega (arith, size-run (fuel_for (fold_sum β a) c) β o (fold_sum β a) c, size-atoms β a)

-- ---- the nodes of a sum as a tree

term-nodes : (c : ℤ) (x : Expr) → node_count (term_tree c x) ≤ suc (node_count x)
unfolding term_tree node_count
term-nodes c x = go (eqℤ c (pos 1))
  where
    go : (b : Bool) → node_count (cond b x (Expr.mul c x)) ≤ suc (node_count x)
    go true = omega arith
    go false = omega arith

constant-nodes : (k : ℤ) (x : Expr) → node_count (constant_tree k x) ≤ node_count x + 2
unfolding constant_tree node_count
constant-nodes k x = go (eqℤ k (pos 0))
  where
    go : (b : Bool) → node_count (cond b x (Expr.add x (Expr.const k))) ≤ node_count x + 2
    go true = omega arith
    go false = omega arith

mutual
  unfolding atom_tree node_count sum_size

  atom-nodes : (a : Atom) → node_count (atom_tree a) + 2 ≤ 4 * atom_size a
  atom-nodes (Atom.var k n) = omega arith
  atom-nodes (Atom.op o t c) = omega (arith, sum-nodes t)

  sum-nodes : (t : Sum) → node_count (sum_tree t) ≤ 4 * sum_size t + 1
  sum-nodes (Sum.const k) = omega arith
  sum-nodes (Sum.term c a t) = omega (arith, join-nodes t (term_tree c (atom_tree a)), term-nodes c (atom_tree a), atom-nodes a)

  join-nodes : (t : Sum) (x : Expr) → node_count (join_terms t x) ≤ node_count x + (4 * sum_size t + 2)
  join-nodes (Sum.const k) x = omega (arith, constant-nodes k x)
  join-nodes (Sum.term c a t) x = omega (arith, join-nodes t (Expr.add x (term_tree c (atom_tree a))), term-nodes c (atom_tree a), atom-nodes a)

-- a folded tree has at most four nodes for each variable, floordiv and mod, and one more
pub folded-nodes : (β : Kind → ℕ → Range) (e : Expr) → node_count (fold_tree β e) ≤ 4 * atom_count e + 1
unfolding fold_tree
folded-nodes β e = omega (arith, sum-nodes (fold_sum β e), size-atoms β e)
