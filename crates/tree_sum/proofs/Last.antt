-- The walk over nodes, read from the last node: what stood on the stack before it, that divisors are above 0, and how many nodes there are. Assumes nothing.
use mathlib.Core.Path.{◌≡◌, refl, sym, ap, ◌∙◌, subst}
use mathlib.Core.List.{List, [], ◌∷◌, ◌++◌}
use Prim.Native.Nat.{ℕ, zero, suc, ◌+◌, ◌-◌, ◌<◌}
use native.Mathlib.Omega.{arith}
use lib.IntN.{ℤ, pos}
use lib.ListN.{get_or}
use Rattle.expression.specs.Expression.{Expr, node_count}
use Rattle.expression.specs.Node.{max_variables, node_of, nodes_at, Sound, SoundOne}
use Rattle.expression.specs.Machine.{Out, broken, passed, stack, Alg, step, and_then, walk}
use Rattle.expression.specs.Decode.{leaf_expr, one_expr, expr_alg, tree, decode}
use Rattle.expression.specs.declared.Node.{Node}
use Rattle.expression.specs.declared.Node.TheVariants as N
use Rattle.expression.specs.declared.Leaf.{Leaf}
use Rattle.expression.specs.declared.Leaf.TheVariants.{Dim, Range, Constant}
use Rattle.expression.specs.declared.One.{One}
use Rattle.expression.specs.declared.One.TheVariants.{Product, Floordiv, Mod}
use Rattle.expression.proofs.Reading.{node-sound}
use Rattle.expression.proofs.Decoded.{of_tree}
use Rattle.integer.proofs.Trunc.{abs-above-0}
use Rattle.folding.proofs.Divisors.{PosE}
use Rattle.tree_sum.specs.Trees.{TreesBefore}

no : {X : Type 0} → ◌≡◌ {A = ℕ} 0 1 → X
no e = absurd (omega arith)

-- ---- one node more
module _ {A : Type 0} (g : Alg A) where
  and-stack : (o : Out A) → and_then o (λ (t : List A). stack t) ≡ o
  and-stack broken = refl
  and-stack passed = refl
  and-stack (stack st) = refl

  walk-last : (ns : List Node) (n : Node) (st : List A) → walk g (ns ++ (n ∷ [])) st ≡ and_then (walk g ns st) (λ (t : List A). step g n t)
  unfolding walk
  walk-last [] n st = and-stack (step g n st)
  walk-last (m ∷ ns) n st = go (step g m st) (λ t. walk-last ns n t)
    where
      go : (o : Out A) → ((t : List A) → walk g (ns ++ (n ∷ [])) t ≡ and_then (walk g ns t) (λ (u : List A). step g n u))
          → and_then o (λ (t : List A). walk g (ns ++ (n ∷ [])) t) ≡ and_then (and_then o (λ (t : List A). walk g ns t)) (λ (u : List A). step g n u)
      go broken ih = refl
      go passed ih = refl
      go (stack t) ih = ih t

module _ (dims ranges : ℕ) (kinds : List ℕ) (values : List ℤ) where
  abbrev pub node_at : ℕ → Node
  node_at i = node_of dims ranges (get_or kinds i 0) (get_or values i (pos 0))

  nodes-last : (from n : ℕ) → nodes_at dims ranges kinds values from (suc n) ≡ nodes_at dims ranges kinds values from n ++ (node_at (from + n) ∷ [])
  unfolding nodes_at
  nodes-last from zero = let e : from ≡ from + 0 = omega arith in ap (λ (i : ℕ). node_at i ∷ []) e
  nodes-last from (suc n) =
      let e : from + 1 + n ≡ from + suc n = omega arith in
      ap (λ (l : List Node). node_at from ∷ l) (nodes-last (from + 1) n ∙ ap (λ (i : ℕ). nodes_at dims ranges kinds values (from + 1) n ++ (node_at i ∷ [])) e)

-- what stood on the stack before a node that left the tree e on top of st, where P says what did
unfoldable pub Before : Node → Expr → List Expr → (List Expr → Type 0) → Type 0
Before (N.Leaf l) e st P = (e ≡ leaf_expr l) × P st
Before (N.One one) e st P = (a : Expr) × ((e ≡ one_expr one a) × P (a ∷ st))
Before N.Sum e st P = (a : Expr) × ((b : Expr) × ((e ≡ Expr.add a b) × P (b ∷ (a ∷ st))))
Before N.Bad e st P = ⊥

before : (n : Node) (e : Expr) (st : List Expr) (o : Out Expr) → and_then o (λ (t : List Expr). step expr_alg n t) ≡ stack (e ∷ st) → Before n e st (λ (t : List Expr). o ≡ stack t)
unfolding Before
before n e st broken h = no cc
before n e st passed h = no cc
before (N.Leaf l) e st (stack t) h = (cc, cc)
before (N.One one) e st (stack []) h = no cc
before (N.One one) e st (stack (a ∷ t)) h = (a, (cc, cc))
before N.Sum e st (stack []) h = no cc
before N.Sum e st (stack (b ∷ [])) h = no cc
before N.Sum e st (stack (b ∷ (a ∷ t))) h = (a, (b, (cc, cc)))
before N.Bad e st (stack t) h = no cc

map-before : (n : Node) (e : Expr) (st : List Expr) (P Q : List Expr → Type 0) → ((t : List Expr) → P t → Q t) → Before n e st P → Before n e st Q
unfolding Before
map-before (N.Leaf l) e st P Q f h = (h.0, f st h.1)
map-before (N.One one) e st P Q f h = (h.0, (h.1.0, f _ h.1.1))
map-before N.Sum e st P Q f h = (h.0, (h.1.0, (h.1.1.0, f _ h.1.1.1)))
map-before N.Bad e st P Q f h = h

module _ (dims ranges : ℕ) (kinds : List ℕ) (values : List ℤ) where
  abbrev here : ℕ → ℕ → Out Expr
  here from n = walk expr_alg (nodes_at dims ranges kinds values from n) []

  here-last : (from n : ℕ) → here from (suc n) ≡ and_then (here from n) (λ (t : List Expr). step expr_alg (node_at dims ranges kinds values (from + n)) t)
  here-last from n =
      ap (λ (l : List Node). walk expr_alg l []) (nodes-last dims ranges kinds values from n)
      ∙ walk-last expr_alg (nodes_at dims ranges kinds values from n) (node_at dims ranges kinds values (from + n)) []

  -- the last node of a tree
  pub last : (from i : ℕ) (e : Expr) (st : List Expr) (n : Node) → TreesBefore dims ranges kinds values from i (e ∷ st) → n ≡ node_at dims ranges kinds values (i - 1)
      → Before n e st (TreesBefore dims ranges kinds values from (i - 1))
  unfolding walk nodes_at
  last from i e st n l q = go l.count l.ends l.walked
    where
      go : (c : ℕ) → from + c ≡ i → here from c ≡ stack (e ∷ st) → Before n e st (TreesBefore dims ranges kinds values from (i - 1))
      go zero f w = no cc
      go (suc c) f w =
          let k : from + c ≡ i - 1 = omega arith in
          map-before n e st _ _ (λ t h. record { count = c; ends = k; walked = h })
          (before n e st (here from c) (ap (λ (m : Node). and_then (here from c) (λ (t : List Expr). step expr_alg m t)) (q ∙ ap (node_at dims ranges kinds values) (sym k)) ∙ sym (here-last from c) ∙ w))

  -- a tree has a node
  pub some : (from i : ℕ) (e : Expr) (st : List Expr) → TreesBefore dims ranges kinds values from i (e ∷ st) → 0 < i
  unfolding walk nodes_at
  some from i e st l = go l.count l.ends l.walked
    where
      go : (c : ℕ) → from + c ≡ i → here from c ≡ stack (e ∷ st) → 0 < i
      go zero f w = no cc
      go (suc c) f w = omega arith

-- ---- divisors are above 0
unfoldable AllPositive : List Expr → Type 0
AllPositive [] = Unit {0}
AllPositive (e ∷ st) = PosE e × AllPositive st

leaf-positive : (l : Leaf) → PosE (leaf_expr l)
unfolding PosE
leaf-positive (Dim n) = tt
leaf-positive (Range n) = tt
leaf-positive (Constant z) = tt

one-positive : (o : One) (a : Expr) → SoundOne o → PosE a → PosE (one_expr o a)
unfolding PosE
one-positive (Product z) a h k = k
one-positive (Floordiv c) a h k = (abs-above-0 c h.0, k)
one-positive (Mod c) a h k = (abs-above-0 c h.0, k)

step-positive : (n : Node) (u t : List Expr) → Sound max_variables max_variables n → AllPositive u → step expr_alg n u ≡ stack t → AllPositive t
unfolding AllPositive PosE
step-positive (N.Leaf l) u t h k e = subst AllPositive (let q : leaf_expr l ∷ u ≡ t = cc in q) (leaf-positive l, k)
step-positive (N.One o) [] t h k e = no cc
step-positive (N.One o) (a ∷ u) t h k e = subst AllPositive (let q : one_expr o a ∷ u ≡ t = cc in q) (one-positive o a h k.0, k.1)
step-positive N.Sum [] t h k e = no cc
step-positive N.Sum (b ∷ []) t h k e = no cc
step-positive N.Sum (b ∷ (a ∷ u)) t h k e = subst AllPositive (let q : Expr.add a b ∷ u ≡ t = cc in q) ((k.1.0, k.0), k.1.1)
step-positive N.Bad u t h k e = no cc

module _ (dims ranges : ℕ) (kinds : List ℕ) (values : List ℤ) where
  pub sound-at : (i : ℕ) → Sound max_variables max_variables (node_at dims ranges kinds values i)
  sound-at i = node-sound max_variables max_variables dims ranges (get_or kinds i 0) (get_or values i (pos 0)) (λ n u v. v) (λ n u v. v)

  all-positive : (from n : ℕ) (t : List Expr) → here dims ranges kinds values from n ≡ stack t → AllPositive t
  unfolding walk nodes_at AllPositive
  all-positive from zero t h = subst AllPositive (let q : [] ≡ t = cc in q) tt
  all-positive from (suc n) t h = go (here dims ranges kinds values from n) (λ u q. all-positive from n u q) (sym (here-last dims ranges kinds values from n) ∙ h)
    where
      go : (o : Out Expr) → ((u : List Expr) → o ≡ stack u → AllPositive u) → and_then o (λ (t : List Expr). step expr_alg (node_at dims ranges kinds values (from + n)) t) ≡ stack t → AllPositive t
      go broken q e = no cc
      go passed q e = no cc
      go (stack u) q e = step-positive (node_at dims ranges kinds values (from + n)) u t (sound-at (from + n)) (q u refl) e

  pub positive : (from i : ℕ) (e : Expr) (st : List Expr) → TreesBefore dims ranges kinds values from i (e ∷ st) → PosE e
  unfolding AllPositive
  positive from i e st l = (all-positive from l.count (e ∷ st) l.walked).0

  -- the tree under the top one
  pub positive-next : (from i : ℕ) (e f : Expr) (st : List Expr) → TreesBefore dims ranges kinds values from i (e ∷ (f ∷ st)) → PosE f
  unfolding AllPositive
  positive-next from i e f st l = (all-positive from l.count (e ∷ (f ∷ st)) l.walked).1.0

-- ---- how many nodes
unfoldable all_nodes : List Expr → ℕ
all_nodes [] = 0
all_nodes (e ∷ st) = node_count e + all_nodes st

pub one-nodes : (o : One) (a : Expr) → node_count (one_expr o a) ≡ suc (node_count a)
unfolding node_count
one-nodes (Product z) a = refl
one-nodes (Floordiv c) a = refl
one-nodes (Mod c) a = refl

leaf-nodes : (l : Leaf) → node_count (leaf_expr l) ≡ 1
unfolding node_count
leaf-nodes (Dim n) = refl
leaf-nodes (Range n) = refl
leaf-nodes (Constant z) = refl

step-nodes : (n : Node) (u t : List Expr) → step expr_alg n u ≡ stack t → all_nodes t ≡ suc (all_nodes u)
unfolding all_nodes node_count
step-nodes (N.Leaf l) u t e = let q : t ≡ leaf_expr l ∷ u = cc in omega (arith, ap all_nodes q, leaf-nodes l)
step-nodes (N.One o) [] t e = no cc
step-nodes (N.One o) (a ∷ u) t e = let q : t ≡ one_expr o a ∷ u = cc in omega (arith, ap all_nodes q, one-nodes o a)
step-nodes N.Sum [] t e = no cc
step-nodes N.Sum (b ∷ []) t e = no cc
step-nodes N.Sum (b ∷ (a ∷ u)) t e = let q : t ≡ Expr.add a b ∷ u = cc in omega (arith, ap all_nodes q)
step-nodes N.Bad u t e = no cc

module _ (dims ranges : ℕ) (kinds : List ℕ) (values : List ℤ) where
  all-nodes : (from n : ℕ) (t : List Expr) → here dims ranges kinds values from n ≡ stack t → all_nodes t ≡ n
  unfolding walk nodes_at all_nodes
  all-nodes from zero t h = let q : t ≡ [] = cc in ap all_nodes q
  all-nodes from (suc n) t h = go (here dims ranges kinds values from n) (λ u q. all-nodes from n u q) (sym (here-last dims ranges kinds values from n) ∙ h)
    where
      go : (o : Out Expr) → ((u : List Expr) → o ≡ stack u → all_nodes u ≡ n) → and_then o (λ (t : List Expr). step expr_alg (node_at dims ranges kinds values (from + n)) t) ≡ stack t → all_nodes t ≡ suc n
      go broken q e = no cc
      go passed q e = no cc
      go (stack u) q e = step-nodes (node_at dims ranges kinds values (from + n)) u t e ∙ ap suc (q u refl)

  -- a run of nodes that is one tree: it stands before the run's end, and has as many nodes as the run
  module _ (from n : ℕ) (e : Expr) (h : decode (nodes_at dims ranges kinds values from n) ≡ tree e) where
    whole : here dims ranges kinds values from n ≡ stack (e ∷ [])
    unfolding decode
    whole = of_tree (here dims ranges kinds values from n) e h

    pub tree-before : TreesBefore dims ranges kinds values from (from + n) (e ∷ [])
    tree-before = record { count = n; ends = refl; walked = whole }

    pub tree-nodes : node_count e ≡ n
    unfolding all_nodes
    tree-nodes = omega (arith, all-nodes from n (e ∷ []) whole)
