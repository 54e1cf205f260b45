-- The folded sum of a leaf. Assumes nothing.
use mathlib.Core.Path.{◌≡◌, refl, sym, ap, ap₂, ◌∙◌}
use mathlib.Core.List.{List, [], ◌∷◌}
use Prim.Native.Nat.{ℕ, ◌+◌, ◌≤◌}
use native.Mathlib.Omega.{arith}
use lib.IntN.{ℤ, pos, nat_abs}
use lib.ListN.{length, take, get_or}
use lib.Seq.{get_or-drop}
use Rattle.integer.specs.Exact.{limit}
use Rattle.expression.specs.Expression.{Kind, d, s, Expr, node_count, Range}
use Rattle.expression.specs.Value.{point_of, bounds}
use Rattle.expression.specs.Decode.{leaf_expr}
use Rattle.expression.specs.declared.Leaf.{Leaf}
use Rattle.expression.specs.declared.Leaf.TheVariants as L
use Rattle.folding.specs.Sum.{Atom, Sum, term_count, kind_number}
use Rattle.folding.specs.Fold.{fold_sum}
use Rattle.folding.proofs.Size.{size-fold}
use Rattle.words.specs.Words.{atom_words, term_words, sum_words, constant_of}
use Rattle.words.specs.Saturated.{saturate_sum}
use Rattle.words.proofs.Saturated.{sat-in}
use Rattle.words.specs.Promises.{Puts}
use Rattle.tree_sum.specs.declared.TreeSum.{TreeSum}
use Rattle.tree_sum.specs.Trees.{Keeps, Written, FoldsLeaf}
use Rattle.tree_sum.proofs.Formed.{working-leaf}
use Rattle.tree_sum.proofs.Moved.{written-kept, kept_at}

some-nodes : (e : Expr) → 1 ≤ node_count e
unfolding node_count
some-nodes (Expr.var k n) = omega arith
some-nodes (Expr.const z) = omega arith
some-nodes (Expr.add a b) = omega arith
some-nodes (Expr.mul z a) = omega arith
some-nodes (Expr.op o a c) = omega arith

-- ---- the words of a leaf
saturate-variable : (k : Kind) (n : ℕ) → Sum.term (pos 1) (Atom.var k n) (Sum.const (pos 0)) ≡ saturate_sum (Sum.term (pos 1) (Atom.var k n) (Sum.const (pos 0)))
unfolding saturate_sum
saturate-variable k n = ap₂ (λ (y z : ℤ). Sum.term y (Atom.var k n) (Sum.const z)) (sym (sat-in (pos 1) (omega arith))) (sym (sat-in (pos 0) (omega arith)))

variable-written : (β : Kind → ℕ → Range) (k : Kind) (n : ℕ) (kind : ℤ) (lo hi : ℤ) (y y' : List ℤ) (m end : ℕ) → kind ≡ pos (kind_number k) → lo ≡ (β k n).lo → hi ≡ (β k n).hi
    → (m ≡ 1) × Puts y y' 0 end (kind ∷ pos n ∷ lo ∷ hi ∷ pos 1 ∷ pos 0 ∷ []) → Written β (fold_sum β (Expr.var k n)) y y' m end
unfolding fold_sum sum_words term_words atom_words constant_of term_count
variable-written β k n kind lo hi y y' m end e f g h =
    record {
      same = h.1.same;
      high = h.1.high;
      written = h.1.is ∙ ap (λ (l : List ℤ). take (length y) l) ((rw (e, f, g)) ∙ ap (λ (t : Sum). sum_words β t []) (saturate-variable k n));
      counted = h.0;
    }

pub constant-written : (β : Kind → ℕ → Range) (z : ℤ) (y y' : List ℤ) (end : ℕ) → nat_abs z ≤ limit → Puts y y' 0 end (z ∷ []) → Written β (fold_sum β (Expr.const z)) y y' 0 end
unfolding fold_sum sum_words term_words constant_of term_count saturate_sum
constant-written β z y y' end h P =
    record {
      same = P.same;
      high = P.high;
      written = P.is ∙ ap (λ (w : ℤ). take (length y) (w ∷ [])) (sym (sat-in z h));
      counted = refl;
    }

-- the variables of both kinds, their bounds as they are read
module _ (lower upper : List ℤ) (n : ℕ) (y y' : List ℤ) (m end : ℕ) where
  pub dimension-written : (m ≡ 1) × Puts y y' 0 end (pos 0 ∷ pos n ∷ get_or lower n (pos 0) ∷ get_or upper n (pos 0) ∷ pos 1 ∷ pos 0 ∷ [])
      → Written (bounds lower upper) (fold_sum (bounds lower upper) (leaf_expr (L.Dim n))) y y' m end
  unfolding bounds point_of kind_number
  dimension-written h = variable-written (bounds lower upper) d n (pos 0) _ _ y y' m end refl refl refl h

  pub range-written : (m ≡ 1) × Puts y y' 0 end (pos 1 ∷ pos n ∷ get_or lower (8 + n) (pos 0) ∷ get_or upper (8 + n) (pos 0) ∷ pos 1 ∷ pos 0 ∷ [])
      → Written (bounds lower upper) (fold_sum (bounds lower upper) (leaf_expr (L.Range n))) y y' m end
  unfolding bounds point_of kind_number
  range-written h = variable-written (bounds lower upper) s n (pos 1) _ _ y y' m end refl (sym (get_or-drop 8 lower n (pos 0))) (sym (get_or-drop 8 upper n (pos 0))) h

pub leaf-count : (β : Kind → ℕ → Range) (leaf : Leaf) → term_count (fold_sum β (leaf_expr leaf)) ≤ 1
unfolding fold_sum term_count
leaf-count β (L.Dim n) = omega arith
leaf-count β (L.Range n) = omega arith
leaf-count β (L.Constant z) = omega arith

pub leaf-folds : (β : Kind → ℕ → Range) (leaf : Leaf) (begin : ℕ) (x x' y y' : List ℤ) (p n end : ℕ) (r : TreeSum) → Written β (fold_sum β (leaf_expr leaf)) y y' n end
    → Keeps y' n end begin x x' p r → FoldsLeaf β leaf begin x x' y y' p r
leaf-folds β leaf begin x x' y y' p n end r W K =
    record {
      placed-tree = kept_at y y' n end begin x x' p r W.same K;
      folds = λ h k.
          let z = size-fold β (leaf_expr leaf) in
          let o = some-nodes (leaf_expr leaf) in
          let H = written-kept β (fold_sum β (leaf_expr leaf)) y y' n end begin x x' p r W K (omega arith) (omega arith) in
          record { judged = H.judged ∙ working-leaf β leaf; stands = H.stands };
    }
