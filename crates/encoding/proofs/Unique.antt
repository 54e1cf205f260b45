-- The nodes of a tree are its nodes in postfix order and no others; a tree that is read is one that its nodes give back. Assumes nothing.
use mathlib.Core.Path.{◌≡◌, refl, sym, ap, ◌∙◌, subst}
use mathlib.Core.List.{List, [], ◌∷◌, ◌++◌, append_assoc, append-nil}
use Prim.Native.Nat.{ℕ, zero, suc, ◌+◌}
use native.Mathlib.Omega.{arith}
use lib.IntN.{ℤ}
use lib.ListN.{length}
use Rattle.integer.proofs.Trunc.{above-0, abs-above-0}
use Rattle.expression.specs.Expression.{Expr, node_count}
use Rattle.expression.specs.Node.{SoundLeaf, SoundOne, nodes_at}
use Rattle.expression.specs.Machine.{stack, walk}
use Rattle.expression.specs.Decode.{leaf_expr, one_expr, expr_alg, tree, decode}
use Rattle.expression.specs.declared.Node.{Node}
use Rattle.expression.specs.declared.Node.TheVariants as N
use Rattle.expression.specs.declared.Leaf.{Leaf}
use Rattle.expression.specs.declared.Leaf.TheVariants.{Dim, Range, Constant}
use Rattle.expression.specs.declared.One.{One}
use Rattle.expression.specs.declared.One.TheVariants.{Product, Floordiv, Mod}
use Rattle.expression.proofs.Decoded.{of_tree}
use Rattle.expression.proofs.Within.{SoundAll, nodes-ok}
use Rattle.indexing.specs.Map.{start_of, count_of, tree_at}
use Rattle.indexing.specs.declared.IndexingMap.{IndexingMap}
use Rattle.encoding.specs.Postfix.{postfix, Encodable}
use Rattle.encoding.specs.Encode.{AllEncodable}
use Rattle.encoding.proofs.Reading.{postfix-length}

-- the nodes of the trees on a stack, the lowest first
abbrev stacked : List Expr → List Node
stacked [] = []
stacked (e ∷ st) = stacked st ++ postfix e

leaf-nodes : (l : Leaf) → postfix (leaf_expr l) ≡ N.Leaf l ∷ []
unfolding postfix
leaf-nodes (Dim n) = refl
leaf-nodes (Range n) = refl
leaf-nodes (Constant z) = refl

one-nodes : (o : One) (e : Expr) → SoundOne o → postfix (one_expr o e) ≡ postfix e ++ (N.One o ∷ [])
unfolding postfix
one-nodes (Product z) e h = refl
one-nodes (Floordiv c) e h = ap (λ (z : ℤ). postfix e ++ (N.One (Floordiv z) ∷ [])) (sym (above-0 c h.0))
one-nodes (Mod c) e h = ap (λ (z : ℤ). postfix e ++ (N.One (Mod z) ∷ [])) (sym (above-0 c h.0))

module _ (dims ranges : ℕ) where
  walk-nodes : (ns : List Node) (st t : List Expr) → SoundAll dims ranges ns → walk expr_alg ns st ≡ stack t → stacked t ≡ stacked st ++ ns
  unfolding walk SoundAll postfix
  walk-nodes [] st t h e = let q : t ≡ st = cc in ap stacked q ∙ sym (append-nil (stacked st))
  walk-nodes (N.Leaf l ∷ ns) st t h e =
      walk-nodes ns (leaf_expr l ∷ st) t h.1 e
      ∙ ap (λ (x : List Node). (stacked st ++ x) ++ ns) (leaf-nodes l)
      ∙ append_assoc (stacked st) (N.Leaf l ∷ []) ns
  walk-nodes (N.One o ∷ ns) [] t h e = let z : ◌≡◌ {A = ℕ} 0 1 = cc in absurd (omega arith)
  walk-nodes (N.One o ∷ ns) (a ∷ st) t h e =
      walk-nodes ns (one_expr o a ∷ st) t h.1 e
      ∙ ap (λ (x : List Node). (stacked st ++ x) ++ ns) (one-nodes o a h.0)
      ∙ ap (λ (x : List Node). x ++ ns) (sym (append_assoc (stacked st) (postfix a) (N.One o ∷ [])))
      ∙ append_assoc (stacked st ++ postfix a) (N.One o ∷ []) ns
  walk-nodes (N.Sum ∷ ns) [] t h e = let z : ◌≡◌ {A = ℕ} 0 1 = cc in absurd (omega arith)
  walk-nodes (N.Sum ∷ ns) (b ∷ []) t h e = let z : ◌≡◌ {A = ℕ} 0 1 = cc in absurd (omega arith)
  walk-nodes (N.Sum ∷ ns) (b ∷ (a ∷ st)) t h e =
      walk-nodes ns (Expr.add a b ∷ st) t h.1 e
      ∙ ap (λ (x : List Node). x ++ ns)
      (sym (append_assoc (stacked st) (postfix a) (postfix b ++ (N.Sum ∷ []))) ∙ sym (append_assoc (stacked st ++ postfix a) (postfix b) (N.Sum ∷ [])))
      ∙ append_assoc ((stacked st ++ postfix a) ++ postfix b) (N.Sum ∷ []) ns
  walk-nodes (N.Bad ∷ ns) st t h e = let z : ◌≡◌ {A = ℕ} 0 1 = cc in absurd (omega arith)

  leaf-encodable : (l : Leaf) → SoundLeaf dims ranges l → Encodable dims ranges (leaf_expr l)
  unfolding Encodable
  leaf-encodable (Dim n) h = h
  leaf-encodable (Range n) h = h
  leaf-encodable (Constant z) h = h

  one-encodable : (o : One) (e : Expr) → SoundOne o → Encodable dims ranges e → Encodable dims ranges (one_expr o e)
  unfolding Encodable
  one-encodable (Product z) e h k = (h, k)
  one-encodable (Floordiv c) e h k = (abs-above-0 c h.0, (h.1, k))
  one-encodable (Mod c) e h k = (abs-above-0 c h.0, (h.1, k))

  walk-encodable : (ns : List Node) (st t : List Expr) → SoundAll dims ranges ns → AllEncodable dims ranges st → walk expr_alg ns st ≡ stack t → AllEncodable dims ranges t
  unfolding walk SoundAll Encodable
  walk-encodable [] st t h a e = let q : st ≡ t = cc in subst (AllEncodable dims ranges) q a
  walk-encodable (N.Leaf l ∷ ns) st t h a e = walk-encodable ns (leaf_expr l ∷ st) t h.1 (leaf-encodable l h.0, a) e
  walk-encodable (N.One o ∷ ns) [] t h a e = let z : ◌≡◌ {A = ℕ} 0 1 = cc in absurd (omega arith)
  walk-encodable (N.One o ∷ ns) (x ∷ st) t h a e = walk-encodable ns (one_expr o x ∷ st) t h.1 (one-encodable o x h.0 a.0, a.1) e
  walk-encodable (N.Sum ∷ ns) [] t h a e = let z : ◌≡◌ {A = ℕ} 0 1 = cc in absurd (omega arith)
  walk-encodable (N.Sum ∷ ns) (y ∷ []) t h a e = let z : ◌≡◌ {A = ℕ} 0 1 = cc in absurd (omega arith)
  walk-encodable (N.Sum ∷ ns) (y ∷ (x ∷ st)) t h a e = walk-encodable ns (Expr.add x y ∷ st) t h.1 ((a.1.0, a.0), a.1.1) e
  walk-encodable (N.Bad ∷ ns) st t h a e = let z : ◌≡◌ {A = ℕ} 0 1 = cc in absurd (omega arith)

  module _ (ns : List Node) (e : Expr) (h : SoundAll dims ranges ns) (q : decode ns ≡ tree e) where
    ends : walk expr_alg ns [] ≡ stack (e ∷ [])
    unfolding decode
    ends = of_tree (walk expr_alg ns []) e q

    pub nodes-unique : ns ≡ postfix e
    nodes-unique = sym (walk-nodes ns [] (e ∷ []) h ends)

    pub decoded-encodable : Encodable dims ranges e
    decoded-encodable = (walk-encodable ns [] (e ∷ []) h tt ends).0

nodes-length : (dims ranges : ℕ) (ks : List ℕ) (vs : List ℤ) (i n : ℕ) → length (nodes_at dims ranges ks vs i n) ≡ n
unfolding nodes_at
nodes-length dims ranges ks vs i zero = refl
nodes-length dims ranges ks vs i (suc n) = ap suc (nodes-length dims ranges ks vs (i + 1) n)

-- a run that is a tree has its number of nodes, and is one that its nodes give back
module _ (m : IndexingMap) (i : ℕ) (e : Expr) (q : tree_at m i ≡ tree e) where
  abbrev nodes : List Node
  nodes = nodes_at m.dims m.ranges m.kinds m.values (start_of (count_of m) i) (count_of m i)

  sound : SoundAll m.dims m.ranges nodes
  sound = nodes-ok m.dims m.ranges m.kinds m.values (start_of (count_of m) i) (count_of m i)

  pub run-count : count_of m i ≡ node_count e
  unfolding tree_at
  run-count =
      sym (nodes-length m.dims m.ranges m.kinds m.values (start_of (count_of m) i) (count_of m i))
      ∙ ap (λ (l : List Node). length l) (nodes-unique m.dims m.ranges nodes e sound q)
      ∙ postfix-length e

  pub run-encodable : Encodable m.dims m.ranges e
  unfolding tree_at
  run-encodable = decoded-encodable m.dims m.ranges nodes e sound q
