-- What the parts of folding a map promise: a run folded, and results and constraints one after another. Assumes nothing.
use Rattle.std.specs.Prelude.{◌≡◌, Bool, true, false, Option, Some, None, List, [], ◌++◌, map, ℕ, ◌+◌, ◌*◌, ◌≤◌, ℤ, pos, length, take, drop}
use Rattle.expression.specs.Expression.{Expr, node_count}
use Rattle.expression.specs.Node.{max_nodes}
use Rattle.indexing.specs.Map.{max_results, max_constraints, start_of, runs, count_of}
use Rattle.indexing.specs.declared.IndexingMap.{IndexingMap}
use Rattle.folding.specs.Sum.{Sum, term_count, sum_range}
use Rattle.folding.specs.Fold.{fold_sum}
use Rattle.folding.specs.Working.{small_sum, small_working}
use Rattle.folding.specs.Map.{Constraint, fold_tree, is_inside, small_trees, constraint_trees}
use Rattle.words.specs.Words.{sum_words}
use Rattle.encoding.specs.Postfix.{postfix}
use Rattle.encoding.specs.Written.{Kept, Written}
use Rattle.encoding.specs.Encode.{filled, nodes_of, Holds}
use Rattle.rules.specs.Outcome.{max_terms}
use Rattle.encoding.specs.Trees.{expr_at, constraint_at, result_trees, map_constraints, map_bounds}
use Rattle.fold.specs.FoldMap.{folded_results, folded_constraints}
use Rattle.tree_sum.specs.declared.TreeSum.{TreeSum}
use Rattle.fold.specs.declared.Remaining.{Remaining}
use Rattle.fold.specs.declared.FoldedConstraint.{FoldedConstraint}
use Rattle.fold.specs.declared.FoldedConstraint.TheVariants.{Passed, Gone, Stays}

-- the nodes of a map, all its trees together
abbrev pub map_nodes : IndexingMap → ℕ
map_nodes m = start_of (count_of m) (runs m)

-- words for the sums of a tree with so many nodes, and of scratch
abbrev pub word_room : ℕ → ℕ
word_room n = 91 * n

abbrev pub scratch_room : ℕ → ℕ
scratch_room n = 7 * n + 8

-- the most nodes of a map that is folded in the smaller work space
abbrev pub few_at_most : ℕ
few_at_most = 64

pub record Space (m : IndexingMap) (words scratch : List ℤ) : Type 0 where
  pub long-words : word_room (map_nodes m) ≤ length words
  pub few_words : length words ≤ max_terms
  pub long-scratch : scratch_room (map_nodes m) ≤ length scratch
  pub few-scratch : length scratch ≤ max_terms

-- the folded sum of run i stands at the front of the words, where folding it passes no limit
pub record FoldsRun (m : IndexingMap) (i : ℕ) (words : List ℤ) (s : TreeSum) : Type 0 where
  pub high : s.end ≤ length words
  pub judged : s.small ≡ small_working (map_bounds m) (expr_at m i)
  pub standing : s.small ≡ true → take s.end words ≡ sum_words (map_bounds m) (fold_sum (map_bounds m) (expr_at m i)) []
  pub counted : s.small ≡ true → s.terms ≡ term_count (fold_sum (map_bounds m) (expr_at m i))

-- run i folded, and its nodes written up to a place
pub record RunWritten (m : IndexingMap) (i : ℕ) (ks ks' : List ℕ) (vs vs' : List ℤ) (at r : ℕ) : Type 0 where
  pub small : small_working (map_bounds m) (expr_at m i) ≡ true
  pub kept : Kept ks ks' vs vs' r
  pub written : Written (postfix (fold_tree (map_bounds m) (expr_at m i))) ks ks' vs vs' at r

-- or a sum formed passes a limit, and the lists stay as long as they are
abbrev pub WritesRun : IndexingMap → ℕ → List ℕ → List ℕ → List ℤ → List ℤ → ℕ → Option ℕ → Type 0
WritesRun m i ks ks' vs vs' at None = (small_working (map_bounds m) (expr_at m i) ≡ false) × Kept ks ks' vs vs' at
WritesRun m i ks ks' vs vs' at (Some r) = RunWritten m i ks ks' vs vs' at r

-- ---- the results

-- every result folded: their nodes one after another up to a place, and the numbers of their nodes
pub record ResultsFolded (m : IndexingMap) (counts ks : List ℕ) (vs : List ℤ) (at : ℕ) : Type 0 where
  pub small : small_trees (map_bounds m) (result_trees m) ≡ true
  pub holds : Holds (folded_results m) ks vs at
  pub counted : length (nodes_of (folded_results m)) ≤ max_nodes → counts ≡ filled max_results 0 (map node_count (folded_results m))

-- or a sum formed passes a limit
abbrev pub FoldsResults : IndexingMap → List ℕ → List ℕ → List ℤ → Option ℕ → Type 0
FoldsResults m counts ks vs None = small_trees (map_bounds m) (result_trees m) ≡ false
FoldsResults m counts ks vs (Some at) = ResultsFolded m counts ks vs at

-- ---- the constraints

abbrev pub is_gone : IndexingMap → ℕ → Bool
is_gone m k = is_inside (sum_range (fold_sum (map_bounds m) (constraint_at m k).expr) (map_bounds m)) (constraint_at m k).interval

-- whether the sum at the front of the words has its range inside the interval of constraint k
pub record Goes (m : IndexingMap) (k : ℕ) (words : List ℤ) (terms : ℕ) (gone : Bool) : Type 0 where
  pub is : (t : Sum) (x : List ℤ) → terms ≡ term_count t → drop 0 words ≡ sum_words (map_bounds m) t x → small_sum (map_bounds m) t ≡ true
      → gone ≡ is_inside (sum_range t (map_bounds m)) (constraint_at m k).interval

-- constraint k folded, which goes: nothing is written
pub record ConstraintGoes (m : IndexingMap) (k : ℕ) (ks ks' : List ℕ) (vs vs' : List ℤ) : Type 0 where
  pub small : small_working (map_bounds m) (constraint_at m k).expr ≡ true
  pub gone : is_gone m k ≡ true
  pub kinds : ks' ≡ ks
  pub values : vs' ≡ vs

-- constraint k folded, which stays: its nodes are written up to a place
pub record ConstraintStays (m : IndexingMap) (k : ℕ) (ks ks' : List ℕ) (vs vs' : List ℤ) (at r : ℕ) : Type 0 where
  pub small : small_working (map_bounds m) (constraint_at m k).expr ≡ true
  pub stays : is_gone m k ≡ false
  pub kept : Kept ks ks' vs vs' r
  pub written : Written (postfix (fold_tree (map_bounds m) (constraint_at m k).expr)) ks ks' vs vs' at r

-- or a sum formed passes a limit, and the lists stay as long as they are
abbrev pub FoldsConstraint : IndexingMap → ℕ → List ℕ → List ℕ → List ℤ → List ℤ → ℕ → FoldedConstraint → Type 0
FoldsConstraint m k ks ks' vs vs' at Passed = (small_working (map_bounds m) (constraint_at m k).expr ≡ false) × Kept ks ks' vs vs' at
FoldsConstraint m k ks ks' vs vs' at Gone = ConstraintGoes m k ks ks' vs vs'
FoldsConstraint m k ks ks' vs vs' at (Stays r) = ConstraintStays m k ks ks' vs vs' at r

-- every constraint folded: those that stay, with their nodes one after another, the numbers of their nodes and their ends
pub record ConstraintsFolded (m : IndexingMap) (counts : List ℕ) (lower upper : List ℤ) (ks ks' : List ℕ) (vs vs' : List ℤ) (start : ℕ) (r : Remaining) : Type 0 where
  pub small : small_trees (map_bounds m) (constraint_trees (map_constraints m)) ≡ true
  pub count : r.count ≡ length (folded_constraints m)
  pub lows : lower ≡ filled max_constraints (pos 0) (map (λ (c : Constraint). c.interval.lo) (folded_constraints m))
  pub highs : upper ≡ filled max_constraints (pos 0) (map (λ (c : Constraint). c.interval.hi) (folded_constraints m))
  pub holds : (es : List Expr) → Holds es ks vs start → Holds (es ++ constraint_trees (folded_constraints m)) ks' vs' r.at
  pub counted : (es : List Expr) → Holds es ks vs start → length (nodes_of (es ++ constraint_trees (folded_constraints m))) ≤ max_nodes
      → counts ≡ filled max_constraints 0 (map (λ (c : Constraint). node_count c.expr) (folded_constraints m))

-- or a sum formed passes a limit
abbrev pub FoldsConstraints : IndexingMap → List ℕ → List ℤ → List ℤ → List ℕ → List ℕ → List ℤ → List ℤ → ℕ → Option Remaining → Type 0
FoldsConstraints m counts lower upper ks ks' vs vs' start None = small_trees (map_bounds m) (constraint_trees (map_constraints m)) ≡ false
FoldsConstraints m counts lower upper ks ks' vs vs' start (Some r) = ConstraintsFolded m counts lower upper ks ks' vs vs' start r
