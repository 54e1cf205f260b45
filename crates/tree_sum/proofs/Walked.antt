-- The folded sum of the tree before a place, by its last node. Assumes nothing.
use mathlib.Core.Path.{◌≡◌, refl, sym, ap, ◌∙◌, subst}
use mathlib.Core.Bool.{Bool, true, false}
use mathlib.Core.List.{List, [], ◌∷◌}
use Prim.Native.Nat.{ℕ, suc, ◌+◌, ◌*◌, ◌-◌, ◌≤◌}
use native.Mathlib.Omega.{arith}
use lib.IntN.{ℤ}
use lib.ListN.{length, drop, take, length-drop}
use lib.Seq.{take-take, length-take-le}
use Rattle.expression.specs.Expression.{Kind, Expr, node_count, Range}
use Rattle.expression.specs.Node.{nodes_at}
use Rattle.expression.specs.Decode.{one_expr, tree, decode}
use Rattle.expression.specs.declared.Node.TheVariants as N
use Rattle.expression.specs.declared.Leaf.{Leaf}
use Rattle.expression.specs.declared.One.{One}
use Rattle.folding.specs.Fold.{fold_sum}
use Rattle.folding.proofs.Ending.{fold-folded}
use Rattle.folding.proofs.Size.{size-fold}
use Rattle.words.proofs.Room.{words-enough}
use Rattle.tree_sum.specs.declared.TreeSum.{TreeSum}
use Rattle.tree_sum.specs.Trees.{no_sum, tree_room, scratch_room, Rooms, Inside, Placed, Folds, FoldsLeaf, FoldsOne, FoldsSum, TreesBefore, FoldsTree}
use Rattle.tree_sum.proofs.Formed.{over-one, over_first, over-second}
use Rattle.tree_sum.proofs.Last.{node_at, Before, last, some, positive, positive-next, one-nodes, tree-before, tree-nodes}

nodes-sum : (a b : Expr) → node_count (Expr.add a b) ≡ suc (node_count a + node_count b)
unfolding node_count
nodes-sum a b = refl

-- what is small has small parts
true_of : (v : Bool) → (v ≡ false → false ≡ true) → v ≡ true
true_of true h = refl
true_of false h = h refl

-- what stands before a place stays where only what is behind it changes
moved : (β : Kind → ℕ → Range) (e : Expr) (x x' : List ℤ) (p : ℕ) (s : TreeSum) → take s.end x' ≡ take s.end x → Folds β e x p s → Folds β e x' p s
moved β e x x' p s h F =
    record {
      judged = F.judged;
      stands = λ t. record { standing = ap (λ (l : List ℤ). drop p l) h ∙ (F.stands t).standing; counted = (F.stands t).counted };
    }

-- lists of the same lengths have the same rooms
pub rooms-at : (x x' y y' : List ℤ) (p q : ℕ) → Rooms x y p → length x' ≡ length x → length y' ≡ length y → q ≤ length x' → Rooms x' y' q
rooms-at x x' y y' p q R e f h = record { place = h; few = omega (arith, R.few); few-scratch = omega (arith, R.few-scratch) }

pub inside-same : (x x' : List ℤ) (p : ℕ) (s : TreeSum) → length x' ≡ length x → Inside x p s → Inside x' p s
inside-same x x' p s e I = record { low = I.low; high = omega (arith, I.high); few = I.few }

then : (x x1 x2 : List ℤ) (p : ℕ) (a s : TreeSum) → Placed x x1 p a → Placed x1 x2 p s → Placed x x2 p s
then x x1 x2 p a s P Q = record { same = Q.same ∙ P.same; below = Q.below ∙ P.below; inside = Q.inside }

module _ (dims ranges : ℕ) (kinds : List ℕ) (values : List ℤ) (β : Kind → ℕ → Range) (i : ℕ) (x y : List ℤ) (p : ℕ) where
  -- no tree stands here
  no-tree : p ≤ length x → ((from : ℕ) (e : Expr) (st : List Expr) → TreesBefore dims ranges kinds values from i (e ∷ st) → ⊥)
      → FoldsTree dims ranges kinds values β i x x y y p (no_sum 0 p)
  no-tree l n =
      record {
        placed = record { same = refl; below = refl; inside = record { low = omega arith; high = l; few = omega arith } };
        scratch = refl;
        before = omega arith;
        folds = λ from e st L h k. absurd (n from e st L);
      }

  pub no-nodes : p ≤ length x → i ≡ 0 → FoldsTree dims ranges kinds values β i x x y y p (no_sum 0 p)
  no-nodes l z = no-tree l (λ from e st L. let h = some dims ranges kinds values from i e st L in omega arith)

  pub bad-node : p ≤ length x → N.Bad ≡ node_at dims ranges kinds values (i - 1) → FoldsTree dims ranges kinds values β i x x y y p (no_sum 0 p)
  unfolding Before
  bad-node l q = no-tree l (λ from e st L. last dims ranges kinds values from i e st N.Bad L q)

  pub leaf-node : (leaf : Leaf) (x' y' : List ℤ) (s : TreeSum) → N.Leaf leaf ≡ node_at dims ranges kinds values (i - 1) → FoldsLeaf β leaf (i - 1) x x' y y' p s
      → FoldsTree dims ranges kinds values β i x x' y y' p s
  unfolding Before
  leaf-node leaf x' y' s q F =
      record {
        placed = F.placed-tree.placed;
        scratch = F.placed-tree.scratch;
        before = omega (arith, F.placed-tree.begins);
        folds = λ from e st L h k.
            let B = last dims ranges kinds values from i e st (N.Leaf leaf) L q in (
              subst (λ (f : Expr). Folds β f x' p s) (sym B.0)
                  (F.folds (subst (λ (f : Expr). p + tree_room f ≤ length x) B.0 h) (subst (λ (f : Expr). scratch_room f ≤ length y) B.0 k)),
              λ t. subst (λ (n : ℕ). TreesBefore dims ranges kinds values from n st) (sym F.placed-tree.begins) B.1,
            );
      }

  module _ (one : One) (x1 x2 y1 y2 : List ℤ) (a s : TreeSum) (q : N.One one ≡ node_at dims ranges kinds values (i - 1))
      (T : FoldsTree dims ranges kinds values β (i - 1) x x1 y y1 p a) (F : FoldsOne one a x1 x2 y1 y2 p s) where
    module _ (from : ℕ) (f : Expr) (st : List Expr) (L : TreesBefore dims ranges kinds values from (i - 1) (f ∷ st)) (h : p + tree_room (one_expr one f) ≤ length x) (k : scratch_room (one_expr one f) ≤ length y) where
      room : p + tree_room f ≤ length x
      room = omega (arith, one-nodes one f)

      room' : scratch_room f ≤ length y
      room' = omega (arith, one-nodes one f)

      under : Folds β f x1 p a
      under = (T.folds from f st L room room').0

      over : Folds β (one_expr one f) x2 p s
      over = F.folds β f (fold-folded β f (positive dims ranges kinds values from (i - 1) f st L)) under (omega (arith, T.placed.same)) (omega (arith, T.scratch))

      left : s.small ≡ true → TreesBefore dims ranges kinds values from s.begin st
      left t =
          let v = true_of a.small (λ n. sym (sym t ∙ over.judged ∙ over-one β one f (sym under.judged ∙ n))) in
          subst (λ (n : ℕ). TreesBefore dims ranges kinds values from n st) (sym F.placed-tree.begins) ((T.folds from f st L room room').1 v)

    pub one-node : FoldsTree dims ranges kinds values β i x x2 y y2 p s
    unfolding Before
    one-node =
        record {
          placed = then x x1 x2 p a s T.placed F.placed-tree.placed;
          scratch = F.placed-tree.scratch ∙ T.scratch;
          before = omega (arith, F.placed-tree.begins, T.before);
          folds = λ from e st L h k.
              let B = last dims ranges kinds values from i e st (N.One one) L q in
              let r = subst (λ (f : Expr). p + tree_room f ≤ length x) B.1.0 h in
              let v = subst (λ (f : Expr). scratch_room f ≤ length y) B.1.0 k in
              (subst (λ (f : Expr). Folds β f x2 p s) (sym B.1.0) (over from B.0 st B.1.1 r v), left from B.0 st B.1.1 r v);
        }

  module _ (x1 x2 x3 y1 y2 y3 : List ℤ) (b a s : TreeSum) (q : N.Sum ≡ node_at dims ranges kinds values (i - 1))
      (T : FoldsTree dims ranges kinds values β (i - 1) x x1 y y1 p b) (U : FoldsTree dims ranges kinds values β b.begin x1 x2 y1 y2 b.end a) (F : FoldsSum b a x2 x3 y2 y3 p s) where
    below : take p x3 ≡ take p x
    below =
        F.placed-tree.placed.below
        ∙ sym (take-take p b.end x2 T.placed.inside.low)
        ∙ ap (λ (l : List ℤ). take p l) U.placed.below
        ∙ take-take p b.end x1 T.placed.inside.low
        ∙ T.placed.below

    module _ (from : ℕ) (e f : Expr) (st : List Expr) (L : TreesBefore dims ranges kinds values from (i - 1) (f ∷ (e ∷ st))) (h : p + tree_room (Expr.add e f) ≤ length x) (k : scratch_room (Expr.add e f) ≤ length y) where
      second-room : p + tree_room f ≤ length x
      second-room = omega (arith, nodes-sum e f)

      second-scratch : scratch_room f ≤ length y
      second-scratch = omega (arith, nodes-sum e f)

      second : Folds β f x1 p b
      second = (T.folds from f (e ∷ st) L second-room second-scratch).0

      first-left : b.small ≡ true → TreesBefore dims ranges kinds values from b.begin (e ∷ st)
      first-left v = (T.folds from f (e ∷ st) L second-room second-scratch).1 v

      -- the second tree's words are few, so that there is room for the first behind them
      end_low : b.small ≡ true → b.end ≤ p + (7 * node_count f + 1)
      end_low v =
          let I = T.placed.inside in
          let l = ap length (second.stands v).standing in
          omega (arith, l, length-drop p (take b.end x1), length-take-le b.end x1 I.high, words-enough β (fold_sum β f), size-fold β f)

      first-room : b.small ≡ true → b.end + tree_room e ≤ length x1
      first-room v = omega (arith, end_low v, nodes-sum e f, T.placed.same)

      first-scratch : scratch_room e ≤ length y1
      first-scratch = omega (arith, nodes-sum e f, T.scratch)

      first : b.small ≡ true → Folds β e x2 b.end a
      first v = (U.folds from e st (first-left v) (first-room v) first-scratch).0

      both : Folds β (Expr.add e f) x3 p s
      both =
          F.folds β e f (fold-folded β e (positive-next dims ranges kinds values from (i - 1) f e st L)) (fold-folded β f (positive dims ranges kinds values from (i - 1) f (e ∷ st) L))
          (moved β f x1 x2 p b U.placed.below second) first (omega (arith, T.placed.same, U.placed.same)) (omega (arith, T.scratch, U.scratch))

      rest-left : s.small ≡ true → TreesBefore dims ranges kinds values from s.begin st
      rest-left t =
          let v = true_of b.small (λ n. sym (sym t ∙ both.judged ∙ over-second β e f (sym second.judged ∙ n))) in
          let w = true_of a.small (λ n. sym (sym t ∙ both.judged ∙ over_first β e f (sym (first v).judged ∙ n))) in
          subst (λ (n : ℕ). TreesBefore dims ranges kinds values from n st) (sym F.placed-tree.begins) ((U.folds from e st (first-left v) (first-room v) first-scratch).1 w)

    pub sum-node : FoldsTree dims ranges kinds values β i x x3 y y3 p s
    unfolding Before
    sum-node =
        record {
          placed = record { same = F.placed-tree.placed.same ∙ U.placed.same ∙ T.placed.same; below = below; inside = F.placed-tree.placed.inside };
          scratch = F.placed-tree.scratch ∙ U.scratch ∙ T.scratch;
          before = omega (arith, F.placed-tree.begins, U.before, T.before);
          folds = λ from e st L h k.
              let B = last dims ranges kinds values from i e st N.Sum L q in
              let r = subst (λ (f : Expr). p + tree_room f ≤ length x) B.1.1.0 h in
              let v = subst (λ (f : Expr). scratch_room f ≤ length y) B.1.1.0 k in
              (subst (λ (f : Expr). Folds β f x3 p s) (sym B.1.1.0) (both from B.0 B.1.0 st B.1.1.1 r v), rest-left from B.0 B.1.0 st B.1.1.1 r v);
        }

-- a run of nodes that is one tree, with room by the number of its nodes
pub run-folds : (dims ranges : ℕ) (kinds : List ℕ) (values : List ℤ) (β : Kind → ℕ → Range) (from n : ℕ) (x x' y y' : List ℤ) (p : ℕ) (s : TreeSum) (e : Expr)
    → FoldsTree dims ranges kinds values β (from + n) x x' y y' p s → decode (nodes_at dims ranges kinds values from n) ≡ tree e
    → p + 91 * n ≤ length x → 7 * n + 8 ≤ length y → Folds β e x' p s
run-folds dims ranges kinds values β from n x x' y y' p s e F h r q =
    let z = tree-nodes dims ranges kinds values from n e h in
    (F.folds from e [] (tree-before dims ranges kinds values from n e h) (omega arith) (omega arith)).0
