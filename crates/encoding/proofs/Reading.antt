-- Nodes in postfix order give their tree back, by themselves and as kinds and values. Assumes nothing.
use mathlib.Core.Path.{◌≡◌, refl, sym, ap, ap₂, ◌∙◌}
use mathlib.Core.Bool.{Bool, true, cond, ◌&&◌}
use mathlib.Core.List.{List, [], ◌∷◌, ◌++◌, map, append_assoc, append-nil}
use Prim.Native.Nat.{ℕ, suc, ◌+◌, ◌-◌, ◌<◌, ◌≤◌}
use native.Mathlib.Omega.{arith}
use native.Mathlib.Nat.{zero-add, add-sub_cancel_left}
use borrow.Author.Tests.{lt-ltb, le-ltb, le-leb}
use lib.Dec.{ltb, leb}
use lib.IntN.{ℤ, pos, nat_abs}
use lib.ListN.{length, get_or, drop, length-append, length-drop}
use lib.Seq.{drop-drop, drop-cons}
use Rattle.integer.specs.Exact.{limit}
use Rattle.expression.specs.Expression.{d, s, rt, floordiv, modulo, Expr, node_count}
use Rattle.expression.specs.Node.{max_variables, max_divisor, or_bad, place_node, node_of, nodes_at}
use Rattle.expression.specs.Machine.{walk}
use Rattle.expression.specs.Decode.{expr_alg, tree, tree_of, decode}
use Rattle.expression.specs.declared.Node.{Node}
use Rattle.expression.specs.declared.Node.TheVariants as N
use Rattle.expression.specs.declared.Leaf.TheVariants.{Dim, Range, Constant}
use Rattle.expression.specs.declared.One.TheVariants.{Product, Floordiv, Mod}
use Rattle.encoding.specs.Postfix.{postfix, no_place, place_from, kind_of, value_of, Encodable}
use Rattle.encoding.proofs.Lists.{map-append}
use Rattle.encoding.proofs.Variables.{place_in}

-- ---- the number of nodes

pub postfix-length : (e : Expr) → length (postfix e) ≡ node_count e
unfolding postfix node_count
postfix-length (Expr.var k n) = refl
postfix-length (Expr.const z) = refl
postfix-length (Expr.add a b) =
    omega (arith, length-append (postfix a) (postfix b ++ (N.Sum ∷ [])), length-append (postfix b) (N.Sum ∷ []), postfix-length a, postfix-length b)
postfix-length (Expr.mul z a) = omega (arith, length-append (postfix a) (N.One (Product z) ∷ []), postfix-length a)
postfix-length (Expr.op floordiv a c) = omega (arith, length-append (postfix a) (N.One (Floordiv (pos c)) ∷ []), postfix-length a)
postfix-length (Expr.op modulo a c) = omega (arith, length-append (postfix a) (N.One (Mod (pos c)) ∷ []), postfix-length a)

-- ---- the tree of the nodes

module _ (dims ranges : ℕ) where
  -- the nodes of a tree put it on the stack
  walk-postfix : (e : Expr) (ns : List Node) (st : List Expr) → Encodable dims ranges e → walk expr_alg (postfix e ++ ns) st ≡ walk expr_alg ns (e ∷ st)
  unfolding postfix walk Encodable
  walk-postfix (Expr.var d n) ns st h = refl
  walk-postfix (Expr.var s n) ns st h = refl
  walk-postfix (Expr.var rt n) ns st h = absurd h
  walk-postfix (Expr.const z) ns st h = refl
  walk-postfix (Expr.add a b) ns st h =
      ap (λ (l : List Node). walk expr_alg l st) (append_assoc (postfix a) (postfix b ++ (N.Sum ∷ [])) ns)
      ∙ walk-postfix a ((postfix b ++ (N.Sum ∷ [])) ++ ns) st h.0
      ∙ ap (λ (l : List Node). walk expr_alg l (a ∷ st)) (append_assoc (postfix b) (N.Sum ∷ []) ns)
      ∙ walk-postfix b (N.Sum ∷ ns) (a ∷ st) h.1
  walk-postfix (Expr.mul z a) ns st h =
      ap (λ (l : List Node). walk expr_alg l st) (append_assoc (postfix a) (N.One (Product z) ∷ []) ns)
      ∙ walk-postfix a (N.One (Product z) ∷ ns) st h.1
  walk-postfix (Expr.op floordiv a c) ns st h =
      ap (λ (l : List Node). walk expr_alg l st) (append_assoc (postfix a) (N.One (Floordiv (pos c)) ∷ []) ns)
      ∙ walk-postfix a (N.One (Floordiv (pos c)) ∷ ns) st h.1.1
  walk-postfix (Expr.op modulo a c) ns st h =
      ap (λ (l : List Node). walk expr_alg l st) (append_assoc (postfix a) (N.One (Mod (pos c)) ∷ []) ns)
      ∙ walk-postfix a (N.One (Mod (pos c)) ∷ ns) st h.1.1

  pub decode-postfix : (e : Expr) → Encodable dims ranges e → decode (postfix e) ≡ tree e
  unfolding decode walk
  decode-postfix e h =
      ap (λ (l : List Node). tree_of (walk expr_alg l [])) (sym (append-nil (postfix e))) ∙ ap tree_of (walk-postfix e [] [] h)

-- ---- nodes as kinds and values

module _ (dims ranges : ℕ) (few-dims : dims ≤ max_variables) (few-ranges : ranges ≤ max_variables) where
  -- the range variables of the places from 8 on
  abbrev range_node : ℕ → Node
  range_node n = or_bad (ltb n ranges) (N.Leaf (Range n))

  abbrev from_eight : ℕ → Node
  from_eight p = cond (ltb p no_place) (range_node (p - max_variables)) N.Bad

  -- what is read back of a node
  abbrev pub read_back : Node → Node
  read_back n = node_of dims ranges (kind_of n) (value_of n)

  read-dim : (n : ℕ) → n < dims → read_back (N.Leaf (Dim n)) ≡ N.Leaf (Dim n)
  unfolding node_of
  read-dim n h =
      let f : n < max_variables = omega arith in
      let e : place_from 0 n ≡ n = place_in 0 n f ∙ zero-add n in
      ap (λ (p : ℕ). place_node dims ranges p) e ∙ rw (lt-ltb n max_variables f, lt-ltb n dims h)

  read-range : (n : ℕ) → n < ranges → read_back (N.Leaf (Range n)) ≡ N.Leaf (Range n)
  unfolding node_of
  read-range n h =
      let f : n < max_variables = omega arith in
      ap (λ (p : ℕ). place_node dims ranges p) (place_in max_variables n f)
      ∙ ap (λ (b : Bool). cond b (or_bad (ltb (max_variables + n) dims) (N.Leaf (Dim (max_variables + n)))) (from_eight (max_variables + n)))
      (le-ltb (max_variables + n) max_variables (omega arith))
      ∙ ap (λ (b : Bool). cond b (range_node (max_variables + n - max_variables)) N.Bad) (lt-ltb (max_variables + n) no_place (omega arith))
      ∙ ap range_node (add-sub_cancel_left max_variables n)
      ∙ ap (λ (b : Bool). or_bad b (N.Leaf (Range n))) (lt-ltb n ranges h)

  read-constant : (z : ℤ) → nat_abs z ≤ limit → read_back (N.Leaf (Constant z)) ≡ N.Leaf (Constant z)
  unfolding node_of
  read-constant z h = ap (λ (b : Bool). or_bad b (N.Leaf (Constant z))) (le-leb (nat_abs z) limit h)

  read-product : (z : ℤ) → nat_abs z ≤ limit → read_back (N.One (Product z)) ≡ N.One (Product z)
  unfolding node_of
  read-product z h = ap (λ (b : Bool). or_bad b (N.One (Product z))) (le-leb (nat_abs z) limit h)

  divisor : (c : ℕ) → 0 < c → c ≤ max_divisor → (ltb 0 c && leb c max_divisor) ≡ true
  divisor c h k = rw (lt-ltb 0 c h, le-leb c max_divisor k)

  read-floordiv : (c : ℕ) → 0 < c → c ≤ max_divisor → read_back (N.One (Floordiv (pos c))) ≡ N.One (Floordiv (pos c))
  unfolding node_of
  read-floordiv c h k = ap (λ (b : Bool). or_bad b (N.One (Floordiv (pos c)))) (divisor c h k)

  read-mod : (c : ℕ) → 0 < c → c ≤ max_divisor → read_back (N.One (Mod (pos c))) ≡ N.One (Mod (pos c))
  unfolding node_of
  read-mod c h k = ap (λ (b : Bool). or_bad b (N.One (Mod (pos c)))) (divisor c h k)

  both : (xs ys : List Node) → map read_back xs ≡ xs → map read_back ys ≡ ys → map read_back (xs ++ ys) ≡ xs ++ ys
  both xs ys h k = map-append read_back xs ys ∙ ap₂ (λ (l m : List Node). l ++ m) h k

  one : (n : Node) → read_back n ≡ n → map read_back (n ∷ []) ≡ n ∷ []
  one n h = ap (λ (m : Node). m ∷ []) h

  -- every node of a tree is read back
  pub read-postfix : (e : Expr) → Encodable dims ranges e → map read_back (postfix e) ≡ postfix e
  unfolding postfix Encodable node_of
  read-postfix (Expr.var d n) h = one (N.Leaf (Dim n)) (read-dim n h)
  read-postfix (Expr.var s n) h = one (N.Leaf (Range n)) (read-range n h)
  read-postfix (Expr.var rt n) h = absurd h
  read-postfix (Expr.const z) h = one (N.Leaf (Constant z)) (read-constant z h)
  read-postfix (Expr.add a b) h =
      both (postfix a) (postfix b ++ (N.Sum ∷ [])) (read-postfix a h.0) (both (postfix b) (N.Sum ∷ []) (read-postfix b h.1) refl)
  read-postfix (Expr.mul z a) h = both (postfix a) (N.One (Product z) ∷ []) (read-postfix a h.1) (one (N.One (Product z)) (read-product z h.0))
  read-postfix (Expr.op floordiv a c) h =
      both (postfix a) (N.One (Floordiv (pos c)) ∷ []) (read-postfix a h.1.1) (one (N.One (Floordiv (pos c))) (read-floordiv c h.0 h.1.0))
  read-postfix (Expr.op modulo a c) h =
      both (postfix a) (N.One (Mod (pos c)) ∷ []) (read-postfix a h.1.1) (one (N.One (Mod (pos c))) (read-mod c h.0 h.1.0))

  -- ---- nodes that stand in two lists from a place on
  head-is : {A : Type 0} (l : List A) (i : ℕ) (x y : A) (r : List A) → drop i l ≡ x ∷ r → get_or l i y ≡ x
  head-is l i x y r e =
      let h : i < length l = omega (arith, length-drop i l, ap length e) in
      let f : get_or l i y ∷ drop (suc i) l ≡ x ∷ r = sym (drop-cons l i y h) ∙ e in cc

  tail-is : {A : Type 0} (l : List A) (i : ℕ) (x : A) (r : List A) → drop i l ≡ x ∷ r → drop (i + 1) l ≡ r
  tail-is {A} l i x r e = sym (drop-drop 1 i l) ∙ ap (λ (l : List A). drop 1 l) e

  stands : (ns : List Node) (ks : List ℕ) (vs : List ℤ) (i : ℕ) (x : List ℕ) (y : List ℤ)
      → drop i ks ≡ map kind_of ns ++ x → drop i vs ≡ map value_of ns ++ y
      → nodes_at dims ranges ks vs i (length ns) ≡ map read_back ns
  unfolding nodes_at
  stands [] ks vs i x y e f = refl
  stands (n ∷ ns) ks vs i x y e f =
      rw (head-is ks i (kind_of n) 0 (map kind_of ns ++ x) e, head-is vs i (value_of n) (pos 0) (map value_of ns ++ y) f)
      (ap (λ (l : List Node). read_back n ∷ l)
      (stands ns ks vs (i + 1) x y (tail-is ks i (kind_of n) (map kind_of ns ++ x) e) (tail-is vs i (value_of n) (map value_of ns ++ y) f)))

  -- a tree whose kinds and values stand in two lists from a place on is the tree read there
  pub tree-stands : (e : Expr) (ks : List ℕ) (vs : List ℤ) (i : ℕ) (x : List ℕ) (y : List ℤ) → Encodable dims ranges e
      → drop i ks ≡ map kind_of (postfix e) ++ x → drop i vs ≡ map value_of (postfix e) ++ y
      → decode (nodes_at dims ranges ks vs i (node_count e)) ≡ tree e
  tree-stands e ks vs i x y h f g =
      ap (λ (n : ℕ). decode (nodes_at dims ranges ks vs i n)) (sym (postfix-length e))
      ∙ ap decode (stands (postfix e) ks vs i x y f g ∙ read-postfix e h)
      ∙ decode-postfix dims ranges e h
