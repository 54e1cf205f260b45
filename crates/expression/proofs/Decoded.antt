-- Every machine that means the same goes the same way: what it makes of a run of nodes is what it means by the tree. Assumes nothing.
use mathlib.Core.Path.{◌≡◌, refl, sym, ap, ◌∙◌}
use mathlib.Core.Bool.{Bool, true, false, ◌&&◌}
use mathlib.Core.List.{List, [], ◌∷◌, map}
use Prim.Native.Nat.{ℕ}
use native.Mathlib.Omega.{arith}
use Rattle.radix.proofs.Tests.{and-true, and_left, and_right}
use Rattle.expression.specs.Expression.{Expr, every_node}
use Rattle.expression.specs.Machine.{Out, broken, passed, stack, Alg, push_if, and_then, walk}
use Rattle.expression.specs.Decode.{leaf_expr, one_expr, expr_alg, tree, tree_of, decode}
use Rattle.expression.specs.declared.Node.{Node}
use Rattle.expression.specs.declared.Node.TheVariants as N
use Rattle.expression.specs.declared.Leaf.{Leaf}
use Rattle.expression.specs.declared.Leaf.TheVariants.{Dim, Range, Constant}
use Rattle.expression.specs.declared.One.{One}
use Rattle.expression.specs.declared.One.TheVariants.{Product, Floordiv, Mod}

and-id : (a : Bool) → (a && true) ≡ a
and-id true = refl
and-id false = refl

pub of_tree : (o : Out Expr) (e : Expr) → tree_of o ≡ tree e → o ≡ stack (e ∷ [])
of_tree broken e q = let z : ◌≡◌ {A = ℕ} 0 1 = cc in absurd (omega arith)
of_tree passed e q = let z : ◌≡◌ {A = ℕ} 0 1 = cc in absurd (omega arith)
of_tree (stack []) e q = let z : ◌≡◌ {A = ℕ} 0 1 = cc in absurd (omega arith)
of_tree (stack (f ∷ [])) e q = let z : f ≡ e = cc in ap (λ (x : Expr). stack (x ∷ [])) z
of_tree (stack (f ∷ (g ∷ st))) e q = let z : ◌≡◌ {A = ℕ} 0 1 = cc in absurd (omega arith)

no : {X : Type 0} → false ≡ true → X
no e = let z : ◌≡◌ {A = ℕ} 0 1 = cc in absurd (omega arith)

module _ {A : Type 0} where
  abbrev pub keep_if : Bool → Out A → Out A
  keep_if true o = o
  keep_if false o = passed

module _ {A : Type 0} (g : Alg A) (h : Expr → A) where
  -- every node of a tree may be kept
  abbrev pub fits : Expr → Bool
  fits e = every_node (λ (x : Expr). g.keep (h x)) e

  unfoldable pub all_fit : List Expr → Bool
  all_fit [] = true
  all_fit (e ∷ st) = fits e && all_fit st

  fits-leaf : (l : Leaf) → fits (leaf_expr l) ≡ g.keep (h (leaf_expr l))
  unfolding every_node
  fits-leaf (Dim n) = refl
  fits-leaf (Range n) = refl
  fits-leaf (Constant z) = refl

  fits_one : (o : One) (e : Expr) → fits (one_expr o e) ≡ (fits e && g.keep (h (one_expr o e)))
  unfolding every_node
  fits_one (Product z) e = refl
  fits_one (Floordiv c) e = refl
  fits_one (Mod c) e = refl

  -- what stands on the stack at the end holds all that stood there before
  back : (ns : List Node) (st t : List Expr) → walk expr_alg ns st ≡ stack t → all_fit t ≡ true → all_fit st ≡ true
  unfolding walk all_fit every_node
  back [] st t e f = let q : t ≡ st = cc in rw q at f
  back (N.Leaf l ∷ ns) st t e f = and_right (fits (leaf_expr l)) (all_fit st) (back ns (leaf_expr l ∷ st) t e f)
  back (N.One o ∷ ns) [] t e f = refl
  back (N.One o ∷ ns) (a ∷ st) t e f =
      let i = back ns (one_expr o a ∷ st) t e f in
      and-true (and_left (fits a) _ (sym (fits_one o a) ∙ and_left (fits (one_expr o a)) (all_fit st) i)) (and_right (fits (one_expr o a)) (all_fit st) i)
  back (N.Sum ∷ ns) [] t e f = refl
  back (N.Sum ∷ ns) (b ∷ []) t e f = let z : ◌≡◌ {A = ℕ} 0 1 = cc in absurd (omega arith)
  back (N.Sum ∷ ns) (b ∷ (a ∷ st)) t e f =
      let i = back ns (Expr.add a b ∷ st) t e f in
      let j = and_left (fits a && fits b) _ (and_left (fits (Expr.add a b)) (all_fit st) i) in
      and-true (and_right (fits a) (fits b) j) (and-true (and_left (fits a) (fits b) j) (and_right (fits (Expr.add a b)) (all_fit st) i))
  back (N.Bad ∷ ns) st t e f = let z : ◌≡◌ {A = ℕ} 0 1 = cc in absurd (omega arith)

  module _ (hl : (l : Leaf) → h (leaf_expr l) ≡ g.leaf l) (ho : (o : One) (e : Expr) → h (one_expr o e) ≡ g.one o (h e)) (hs : (a b : Expr) → h (Expr.add a b) ≡ g.sum (h a) (h b)) where
    -- one push: e is the tree, a what the machine makes of it
    pushes : (ns : List Node) (e : Expr) (st t : List Expr) (a : A) (k : Bool) → h e ≡ a → fits e ≡ k → g.keep (h e) ≡ k → all_fit st ≡ true
        → walk expr_alg ns (e ∷ st) ≡ stack t
        → (all_fit (e ∷ st) ≡ true → walk g ns (map h (e ∷ st)) ≡ keep_if (all_fit t) (stack (map h t)))
        → and_then (push_if (g.keep a) a (map h st)) (λ (u : List A). walk g ns u) ≡ keep_if (all_fit t) (stack (map h t))
    unfolding all_fit
    pushes ns e st t a true p q r f w ih = rw (← p, r) (ih (and-true q f))
    pushes ns e st t a false p q r f w ih = rw (← p, r) (go (all_fit t) refl)
      where
        go : (b : Bool) → all_fit t ≡ b → passed ≡ keep_if b (stack (map h t))
        go true z = no (sym q ∙ and_left (fits e) (all_fit st) (back ns (e ∷ st) t w z))
        go false z = refl

    pub same_way : (ns : List Node) (st t : List Expr) → walk expr_alg ns st ≡ stack t → all_fit st ≡ true → walk g ns (map h st) ≡ keep_if (all_fit t) (stack (map h t))
    unfolding walk all_fit every_node
    same_way [] st t e f = let q : t ≡ st = cc in rw (q, f)
    same_way (N.Leaf l ∷ ns) st t e f = pushes ns (leaf_expr l) st t (g.leaf l) (g.keep (h (leaf_expr l))) (hl l) (fits-leaf l) refl f e (λ z. same_way ns (leaf_expr l ∷ st) t e z)
    same_way (N.One o ∷ ns) [] t e f = let z : ◌≡◌ {A = ℕ} 0 1 = cc in absurd (omega arith)
    same_way (N.One o ∷ ns) (a ∷ st) t e f =
        pushes ns (one_expr o a) st t (g.one o (h a)) (g.keep (h (one_expr o a))) (ho o a) (fits_one o a ∙ (rw (and_left (fits a) (all_fit st) f))) refl (and_right (fits a) (all_fit st) f) e (λ z. same_way ns (one_expr o a ∷ st) t e z)
    same_way (N.Sum ∷ ns) [] t e f = let z : ◌≡◌ {A = ℕ} 0 1 = cc in absurd (omega arith)
    same_way (N.Sum ∷ ns) (b ∷ []) t e f = let z : ◌≡◌ {A = ℕ} 0 1 = cc in absurd (omega arith)
    same_way (N.Sum ∷ ns) (b ∷ (a ∷ st)) t e f =
        let q = and_right (fits b) (fits a && all_fit st) f in
        pushes ns (Expr.add a b) st t (g.sum (h a) (h b)) (g.keep (h (Expr.add a b))) (hs a b) (rw (and_left (fits b) (fits a && all_fit st) f, and_left (fits a) (all_fit st) q)) refl (and_right (fits a) (all_fit st) q) e (λ z. same_way ns (Expr.add a b ∷ st) t e z)
    same_way (N.Bad ∷ ns) st t e f = let z : ◌≡◌ {A = ℕ} 0 1 = cc in absurd (omega arith)

    -- a machine makes of a run of nodes what it means by the tree that the run is
    pub meant : (ns : List Node) (e : Expr) → decode ns ≡ tree e → walk g ns [] ≡ keep_if (fits e) (stack (h e ∷ []))
    unfolding decode all_fit
    meant ns e q = same_way ns [] (e ∷ []) (of_tree (walk expr_alg ns []) e q) refl ∙ ap (λ (b : Bool). keep_if b (stack (h e ∷ []))) (and-id (fits e))
