-- What folding one tree over words promises. Assumes nothing.
use Rattle.std.specs.Prelude.{◌≡◌, Bool, true, false, List, [], ◌∷◌, ℕ, ◌+◌, ◌*◌, ◌^◌, ◌≤◌, ℤ, nat_abs, length, drop, take}
use Rattle.expression.specs.Expression.{Kind, Op, Expr, node_count, Range}
use Rattle.expression.specs.Node.{nodes_at}
use Rattle.expression.specs.Machine.{stack, walk}
use Rattle.expression.specs.Decode.{leaf_expr, one_expr, expr_alg}
use Rattle.expression.specs.declared.Leaf.{Leaf}
use Rattle.expression.specs.declared.One.{One}
use Rattle.folding.specs.Sum.{Sum, term_count, sum_size, op_number}
use Rattle.folding.specs.Fold.{add_sums, scale_sum, apply_rules, fold_sum}
use Rattle.folding.specs.Working.{small_sum, small_sums, sums_formed, small_working}
use Rattle.folding.specs.Folded.{FoldedS}
use Rattle.words.specs.Words.{sum_words}
use Rattle.words.specs.Saturated.{saturate_sum}
use Rattle.rules.specs.Outcome.{max_terms, outcome_room}
use Rattle.tree_sum.specs.declared.TreeSum.{TreeSum}

-- more than the weight of any sum that has its room in max_terms words
abbrev pub tree_fuel : ℕ
tree_fuel = 2 ^ 52

-- words that suffice for a sum
abbrev pub words_room : Sum → ℕ
words_room t = 7 * sum_size t + 1

-- words that all rules need, whatever the divisor
abbrev pub division_room : Sum → ℕ
division_room t = 91 * sum_size t + 89

-- words that folding a tree needs, and words of scratch
abbrev pub tree_room : Expr → ℕ
tree_room e = 91 * node_count e

abbrev pub scratch_room : Expr → ℕ
scratch_room e = 7 * node_count e + 8

-- no sum at p: a limit is passed, or there is no tree
abbrev pub no_sum : ℕ → ℕ → TreeSum
no_sum begin p = record { small = false; begin = begin; terms = 0; end = p }

-- ---- what is required

-- the nodes before place i stand in their lists
pub record NodesIn (kinds : List ℕ) (values : List ℤ) (i : ℕ) : Type 0 where
  pub in-kinds : i ≤ length kinds
  pub in-values : i ≤ length values

-- words and scratch that are not too long, and a place in the words
pub record Rooms (x y : List ℤ) (p : ℕ) : Type 0 where
  pub place : p ≤ length x
  pub few : length x ≤ max_terms
  pub few-scratch : length y ≤ max_terms

-- the sum s from p on ends inside the words, and its terms are not too many
pub record Inside (x : List ℤ) (p : ℕ) (s : TreeSum) : Type 0 where
  pub low : p ≤ s.end
  pub high : s.end ≤ length x
  pub few : s.terms ≤ max_terms

-- ---- what holds whatever the words are

-- the sum s is written from p on, what stands before p stays
pub record Placed (x x' : List ℤ) (p : ℕ) (s : TreeSum) : Type 0 where
  pub same : length x' ≡ length x
  pub below : take p x' ≡ take p x
  pub inside : Inside x' p s

-- the same of a tree that begins at a place, with the scratch as long as it was
pub record PlacedTree (x x' y y' : List ℤ) (p begin : ℕ) (s : TreeSum) : Type 0 where
  pub placed : Placed x x' p s
  pub scratch : length y' ≡ length y
  pub begins : s.begin ≡ begin

-- ---- what holds of the words of a sum

-- the sum t stands from p to the end of s
pub record Stands (β : Kind → ℕ → Range) (t : Sum) (x : List ℤ) (p : ℕ) (s : TreeSum) : Type 0 where
  pub standing : drop p (take s.end x) ≡ sum_words β t []
  pub counted : s.terms ≡ term_count t

-- s says whether the limits are kept, and where they are, the sum t stands
pub record Holds (β : Kind → ℕ → Range) (kept : Bool) (t : Sum) (x : List ℤ) (p : ℕ) (s : TreeSum) : Type 0 where
  pub judged : s.small ≡ kept
  pub stands : s.small ≡ true → Stands β t x p s

-- the same of the folded sum of the tree e
abbrev pub Folds : (Kind → ℕ → Range) → Expr → List ℤ → ℕ → TreeSum → Type 0
Folds β e x p s = Holds β (small_working β e) (fold_sum β e) x p s

-- the words of the sum t, its numbers kept or past the limit, as far as there is room
pub record Written (β : Kind → ℕ → Range) (t : Sum) (y y' : List ℤ) (n end : ℕ) : Type 0 where
  pub same : length y' ≡ length y
  pub high : end ≤ length y
  pub written : take end y' ≡ take (length y) (sum_words β (saturate_sum t) [])
  pub counted : n ≡ term_count t

-- ---- what each function promises

-- the sum of n terms that stands in y up to a place is moved to p, if it keeps the limits
pub record Keeps (y : List ℤ) (n end begin : ℕ) (x x' : List ℤ) (p : ℕ) (s : TreeSum) : Type 0 where
  pub placed : Placed x x' p s
  pub begins : s.begin ≡ begin
  pub kept : (β : Kind → ℕ → Range) (t : Sum) → take end y ≡ sum_words β (saturate_sum t) [] → n ≡ term_count t → p + words_room t ≤ length x
      → Holds β (small_sum β t) t x' p s

-- z times the sum a, in its place
pub record ScalesSum (z : ℤ) (a : TreeSum) (x x' y y' : List ℤ) (p : ℕ) (s : TreeSum) : Type 0 where
  pub placed-tree : PlacedTree x x' y y' p a.begin s
  pub scales : (β : Kind → ℕ → Range) (t : Sum) → Stands β t x p a → p + words_room t ≤ length x → words_room t ≤ length y
      → Holds β (small_sum β (scale_sum z t)) (scale_sum z t) x' p s

-- the sum a, floordiv or mod c, in its place
pub record DividesSum (op : ℕ) (c : ℤ) (a : TreeSum) (x x' y y' : List ℤ) (p : ℕ) (s : TreeSum) : Type 0 where
  pub placed-tree : PlacedTree x x' y y' p a.begin s
  pub divides : (β : Kind → ℕ → Range) (o : Op) (t : Sum) → op ≡ op_number o → FoldedS β t → Stands β t x p a → p + division_room t ≤ length x → outcome_room t ≤ length y
      → Holds β (small_sums β (sums_formed tree_fuel β o t (nat_abs c))) (apply_rules tree_fuel β o t (nat_abs c)) x' p s

-- the sum b at p and the sum a behind it, added in the place of b
pub record AddsSums (b a : TreeSum) (x x' y y' : List ℤ) (p : ℕ) (s : TreeSum) : Type 0 where
  pub placed-tree : PlacedTree x x' y y' p a.begin s
  pub adds : (β : Kind → ℕ → Range) (t u : Sum) → FoldedS β t → FoldedS β u → small_sum β u ≡ true → Stands β u x p b → Stands β t x b.end a
      → p + (words_room t + words_room u) ≤ length x → words_room t + words_room u ≤ length y
      → Holds β (small_sum β (add_sums t u)) (add_sums t u) x' p s

-- a leaf
pub record FoldsLeaf (β : Kind → ℕ → Range) (leaf : Leaf) (begin : ℕ) (x x' y y' : List ℤ) (p : ℕ) (s : TreeSum) : Type 0 where
  pub placed-tree : PlacedTree x x' y y' p begin s
  pub folds : p + tree_room (leaf_expr leaf) ≤ length x → scratch_room (leaf_expr leaf) ≤ length y → Folds β (leaf_expr leaf) x' p s

-- a node over the tree whose sum is a
pub record FoldsOne (one : One) (a : TreeSum) (x x' y y' : List ℤ) (p : ℕ) (s : TreeSum) : Type 0 where
  pub placed-tree : PlacedTree x x' y y' p a.begin s
  pub folds : (β : Kind → ℕ → Range) (e : Expr) → FoldedS β (fold_sum β e) → Folds β e x p a
      → p + tree_room (one_expr one e) ≤ length x → scratch_room (one_expr one e) ≤ length y → Folds β (one_expr one e) x' p s

-- a sum of two trees: the second's sum b stands at p, the first's sum a behind it
pub record FoldsSum (b a : TreeSum) (x x' y y' : List ℤ) (p : ℕ) (s : TreeSum) : Type 0 where
  pub placed-tree : PlacedTree x x' y y' p a.begin s
  pub folds : (β : Kind → ℕ → Range) (e f : Expr) → FoldedS β (fold_sum β e) → FoldedS β (fold_sum β f) → Folds β f x p b → (b.small ≡ true → Folds β e x b.end a)
      → p + tree_room (Expr.add e f) ≤ length x → scratch_room (Expr.add e f) ≤ length y → Folds β (Expr.add e f) x' p s

-- the nodes from a place on and before place i leave these trees on the stack
pub record TreesBefore (dims ranges : ℕ) (kinds : List ℕ) (values : List ℤ) (from i : ℕ) (st : List Expr) : Type 0 where
  pub count : ℕ
  pub ends : from + count ≡ i
  pub walked : walk expr_alg (nodes_at dims ranges kinds values from count) [] ≡ stack st

-- the tree whose last node is the one before place i, and where it begins
pub record FoldsTree (dims ranges : ℕ) (kinds : List ℕ) (values : List ℤ) (β : Kind → ℕ → Range) (i : ℕ) (x x' y y' : List ℤ) (p : ℕ) (s : TreeSum) : Type 0 where
  pub placed : Placed x x' p s
  pub scratch : length y' ≡ length y
  pub before : s.begin ≤ i
  pub folds : (from : ℕ) (e : Expr) (st : List Expr) → TreesBefore dims ranges kinds values from i (e ∷ st) → p + tree_room e ≤ length x → scratch_room e ≤ length y
      → Folds β e x' p s × (s.small ≡ true → TreesBefore dims ranges kinds values from s.begin st)
