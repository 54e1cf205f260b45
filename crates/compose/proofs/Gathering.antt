-- Trees written one after another, with the numbers of their nodes. Assumes nothing.
use mathlib.Core.Path.{◌≡◌, sym, ap, ap₂, ◌∙◌, subst}
use mathlib.Core.List.{List, [], ◌∷◌, ◌++◌, map, append_assoc, append-nil}
use Prim.Native.Nat.{ℕ, suc, ◌-◌, ◌≤◌}
use lib.IntN.{ℤ, pos}
use lib.ListN.{length, set, replicate, length-map}
use Rattle.expression.specs.Expression.{Expr, node_count}
use Rattle.expression.specs.Node.{max_nodes}
use Rattle.indexing.specs.Map.{max_results, max_constraints}
use Rattle.indexing.specs.declared.IndexingMap.{IndexingMap}
use Rattle.folding.specs.Map.{Constraint}
use Rattle.encoding.specs.Postfix.{postfix}
use Rattle.encoding.specs.Written.{Written}
use Rattle.encoding.specs.Encode.{filled, nodes_of, Holds, Zeros, ConstraintZeros}
use Rattle.encoding.proofs.Lists.{map-append}
use Rattle.encoding.proofs.Filled.{filled_next}
use Rattle.encoding.proofs.Held.{holds-none, holds-next, count_next}
use Rattle.encoding.proofs.Listed.{listed-length, listed-map}
use Rattle.encoding.specs.Trees.{listed}
use Rattle.compose.specs.ComposeMap.{composed_results, composed_constraints}
use Rattle.compose.specs.Ready.{constraint_count, constraint_of, Gathers, GathersConstraints}
use Rattle.compose.proofs.Joined.{constraints-listed}
use native.Mathlib.Omega.{arith}

-- one entry more of an array that is filled from its front on
pub filled_more : {A B : Type 0} (size : ℕ) (z : A) (f : B → A) (c : ℕ → B) (l : List A) (i : ℕ) (x : A)
    → l ≡ filled size z (map f (listed c i)) → x ≡ f (c i) → set l i x ≡ filled size z (map f (listed c (suc i)))
unfolding listed
filled_more {A} size z f c l i x e q =
    let n : length (map f (listed c i)) ≡ i = length-map (listed c i) f ∙ listed-length c i in
    ap₂ (λ (m : List A) (y : A). set m i y) e q
    ∙ ap (λ (k : ℕ). set (filled size z (map f (listed c i))) k (f (c i))) (sym n)
    ∙ sym (filled_next size z (map f (listed c i)) (f (c i)))
    ∙ ap (filled size z) (sym (map-append f (listed c i) (c i ∷ [])))

module _ (es : List Expr) (tree : ℕ → Expr) (size : ℕ) where
  pub gathers-none : {counts ks : List ℕ} {vs : List ℤ} {at : ℕ} → Holds es ks vs at → counts ≡ replicate size 0 → Gathers es (listed tree 0) size counts ks vs at
  unfolding listed
  gathers-none {counts} {ks} {vs} {at} h e =
      record { holds = subst (λ (l : List Expr). Holds l ks vs at) (sym (append-nil es)) h; counted = λ k. e }

  module _ (i : ℕ) {counts ks ks' : List ℕ} {vs vs' : List ℤ} {at r : ℕ} (g : Gathers es (listed tree i) size counts ks vs at)
      (w : Written (postfix (tree i)) ks ks' vs vs' at r) where
    pub place-next : at ≤ r
    place-next = omega (arith, w.nodes, g.holds.nodes)

    more : (es ++ listed tree i) ++ (tree i ∷ []) ≡ es ++ listed tree (suc i)
    unfolding listed
    more = append_assoc es (listed tree i) (tree i ∷ [])

    pub gathers-next : Gathers es (listed tree (suc i)) size (set counts i (r - at)) ks' vs' r
    gathers-next =
        record {
          holds = subst (λ (l : List Expr). Holds l ks' vs' r) more (holds-next g.holds (tree i) w);
          counted = λ h.
              let c = count_next (es ++ listed tree i) (tree i) at r g.holds w (subst (λ (l : List Expr). length (nodes_of l) ≤ max_nodes) (sym more) h) in
              filled_more size 0 node_count tree counts i (r - at) (g.counted c.0) c.1;
        }

pub gathers-as : {es fs fs' : List Expr} {size : ℕ} {counts ks : List ℕ} {vs : List ℤ} {at : ℕ} → fs ≡ fs' → Gathers es fs size counts ks vs at → Gathers es fs' size counts ks vs at
gathers-as {es} {fs} {fs'} {size} {counts} {ks} {vs} {at} e g = subst (λ (l : List Expr). Gathers es l size counts ks vs at) e g

pub gathers-start : (tree : ℕ → Expr) {counts ks : List ℕ} {vs : List ℤ} → Zeros counts ks vs → Gathers [] (listed tree 0) max_results counts ks vs 0
gathers-start tree {counts} {ks} {vs} z = gathers-none [] tree max_results (rw (z.kinds-zero, z.values-zero) holds-none) z.counts_zero

-- ---- the constraints of the composed map, the first k of them

pub record Composing (f g : IndexingMap) (k : ℕ) (counts : List ℕ) (lower upper : List ℤ) (ks : List ℕ) (vs : List ℤ) (at : ℕ) : Type 0 where
  pub trees : Gathers (composed_results f g) (listed (λ (n : ℕ). (constraint_of f g n).expr) k) max_constraints counts ks vs at
  pub lows : lower ≡ filled max_constraints (pos 0) (map (λ (c : Constraint). c.interval.lo) (listed (constraint_of f g) k))
  pub highs : upper ≡ filled max_constraints (pos 0) (map (λ (c : Constraint). c.interval.hi) (listed (constraint_of f g) k))

module _ (f g : IndexingMap) where
  abbrev tree_of : ℕ → Expr
  tree_of n = (constraint_of f g n).expr

  pub composing-start : {counts ks : List ℕ} {lower upper vs : List ℤ} {at : ℕ} → ConstraintZeros counts lower upper → Holds (composed_results f g) ks vs at
      → Composing f g 0 counts lower upper ks vs at
  unfolding listed
  composing-start z h =
      record { trees = gathers-none (composed_results f g) tree_of max_constraints h z.counts_zero; lows = z.lower-zero; highs = z.upper-zero }

  module _ (k : ℕ) {counts ks ks' : List ℕ} {lower upper vs vs' : List ℤ} {at r : ℕ} (c : Composing f g k counts lower upper ks vs at)
      (w : Written (postfix (constraint_of f g k).expr) ks ks' vs vs' at r) where
    pub composing-place : at ≤ r
    composing-place = place-next (composed_results f g) tree_of max_constraints k c.trees w

    pub composing-next : (lo hi : ℤ) → lo ≡ (constraint_of f g k).interval.lo → hi ≡ (constraint_of f g k).interval.hi
        → Composing f g (suc k) (set counts k (r - at)) (set lower k lo) (set upper k hi) ks' vs' r
    composing-next lo hi p q =
        record {
          trees = gathers-next (composed_results f g) tree_of max_constraints k c.trees w;
          lows = filled_more max_constraints (pos 0) (λ (c : Constraint). c.interval.lo) (constraint_of f g) lower k lo c.lows p;
          highs = filled_more max_constraints (pos 0) (λ (c : Constraint). c.interval.hi) (constraint_of f g) upper k hi c.highs q;
        }

  pub composing-end : (k : ℕ) {counts ks : List ℕ} {lower upper vs : List ℤ} {at : ℕ} → k ≡ constraint_count f g → Composing f g k counts lower upper ks vs at
      → GathersConstraints f g counts lower upper ks vs at
  composing-end k e c =
      let all : listed (constraint_of f g) k ≡ composed_constraints f g = ap (listed (constraint_of f g)) e ∙ constraints-listed f g in
      record {
        trees = gathers-as (sym (listed-map (λ (c : Constraint). c.expr) (constraint_of f g) k) ∙ ap (map (λ (c : Constraint). c.expr)) all) c.trees;
        lows = c.lows ∙ ap (λ (l : List Constraint). filled max_constraints (pos 0) (map (λ (c : Constraint). c.interval.lo) l)) all;
        highs = c.highs ∙ ap (λ (l : List Constraint). filled max_constraints (pos 0) (map (λ (c : Constraint). c.interval.hi) l)) all;
      }
