-- A map whose fold is accepted: its folded trees fit a record, which is accepted. Assumes nothing.
use Rattle.std.specs.Prelude.{Ok}
use mathlib.Core.Path.{◌≡◌, refl, sym, ap₂, ◌∙◌}
use mathlib.Core.Bool.{Bool, true, false, cond, ◌&&◌}
use mathlib.Core.List.{List, [], ◌∷◌, ◌++◌}
use Prim.Native.Nat.{ℕ, zero, suc, ◌+◌, ◌<◌, ◌≤◌, min}
use native.Mathlib.Nat.{zero-add}
use native.Mathlib.Omega.{arith}
use borrow.Author.Tests.{leb-true}
use lib.Dec.{leb, ltb}
use lib.IntN.{nat_abs}
use lib.ListN.{length, length-map}
use Rattle.integer.specs.Exact.{limit}
use Rattle.radix.proofs.Tests.{and-true, and_left, and_right, every-at}
use Rattle.refusal.specs.Judge.{judge}
use Rattle.refusal.specs.declared.Refusal.TheVariants.{Attribute, CountLimit, WorkingLimit}
use Rattle.refusal.proofs.Judged.{kept, rest}
use Rattle.expression.specs.Expression.{Kind, d, s, rt, Expr, Range, small_ranges, every_node}
use Rattle.expression.specs.Node.{max_variables, max_nodes, max_divisor}
use Rattle.expression.proofs.Within.{Proper}
use Rattle.indexing.specs.Map.{max_constraints, max_bound, good_interval, good_ends_at, good_intervals, good_bounds, good_ends, good_parts, good_counts, good_ranges}
use Rattle.indexing.specs.Ready.{Formed, Accepted}
use Rattle.indexing.specs.declared.IndexingMap.{IndexingMap}
use Rattle.indexing.proofs.Formed.{counts, bounds-good, ends-good}
use Rattle.folding.specs.Sum.{sum_range}
use Rattle.folding.specs.Fold.{fold_sum}
use Rattle.folding.specs.Working.{small_working}
use Rattle.folding.specs.Map.{Constraint, constraint_trees, fold_tree, is_inside, fold_constraints, good_numbers}
use Rattle.folding.proofs.Map.{AllTrees, small-trees, trees-both, all_results, all-constraints}
use Rattle.folding.proofs.Theorems.{GoodTree, folded-ranges, folded-numbers, folded-proper}
use Rattle.encoding.specs.Postfix.{Encodable}
use Rattle.encoding.specs.Encode.{trees_of, nodes_of, encode_map, AllEncodable, Fitting, all_of, intervals_good}
use Rattle.encoding.proofs.Encoded.{encoded-parts, encoded-counts, encoded-ranges}
use Rattle.encoding.specs.Trees.{listed, constraint_at, result_trees, map_constraints, map_bounds}
use Rattle.fold.specs.FoldMap.{folded_results, folded_constraints, folded_map, small_fold, few_nodes, fold_rules}
use Rattle.encoding.proofs.Listed.{listed-length, all_append}
use Rattle.encoding.proofs.Trees.{Read, results-read, constraints-read}

-- no rule of folding is broken
pub record Folds (m : IndexingMap) : Type 0 where
  pub accepted : Accepted m
  pub small : small_fold m ≡ true
  pub few : few_nodes m ≡ true

pub folds-of : (m : IndexingMap) → judge (fold_rules m) ≡ Ok tt → Folds m
folds-of m e =
    let e1 = rest (good_parts m) Attribute _ e in
    let e2 = rest (good_counts m) CountLimit _ e1 in
    let e3 = rest (good_ranges m) WorkingLimit _ e2 in
    let e4 = rest (small_fold m) WorkingLimit _ e3 in
    record {
      accepted =
          record {
            formed = record { parts = kept (good_parts m) Attribute _ e; counts = kept (good_counts m) CountLimit _ e1 };
            ranges = kept (good_ranges m) WorkingLimit _ e2;
          };
      small = kept (small_fold m) WorkingLimit _ e3;
      few = kept (few_nodes m) CountLimit _ e4;
    }

pub folds-done : (m : IndexingMap) → Folds m → judge (fold_rules m) ≡ Ok tt
folds-done m w = rw (w.accepted.formed.parts, w.accepted.formed.counts, w.accepted.ranges, w.small, w.few)

-- ---- lists of trees

pub all_left : (P : Expr → Type 0) (xs ys : List Expr) → AllTrees P (xs ++ ys) → AllTrees P xs
unfolding AllTrees
all_left P [] ys h = tt
all_left P (x ∷ xs) ys h = (h.0, all_left P xs ys h.1)

pub all_right : (P : Expr → Type 0) (xs ys : List Expr) → AllTrees P (xs ++ ys) → AllTrees P ys
unfolding AllTrees
all_right P [] ys h = h
all_right P (x ∷ xs) ys h = all_right P xs ys h.1

all-test : (p : Expr → Bool) (es : List Expr) → AllTrees (λ (e : Expr). p e ≡ true) es → all_of p es ≡ true
unfolding AllTrees
all-test p [] h = refl
all-test p (e ∷ es) h = and-true h.0 (all-test p es h.1)

-- ---- trees that their nodes give back

tree-encodable : (dims ranges : ℕ) (e : Expr) → Proper dims ranges e → good_numbers e ≡ true → Encodable dims ranges e
unfolding Proper good_numbers every_node Encodable
tree-encodable dims ranges (Expr.var d n) h p = h
tree-encodable dims ranges (Expr.var s n) h p = h
tree-encodable dims ranges (Expr.var rt n) h p = h
tree-encodable dims ranges (Expr.const z) h p = leb-true (nat_abs z) limit p
tree-encodable dims ranges (Expr.add a b) h p =
    let w = and_left (good_numbers a && good_numbers b) true p in
    (tree-encodable dims ranges a h.0 (and_left (good_numbers a) (good_numbers b) w), tree-encodable dims ranges b h.1 (and_right (good_numbers a) (good_numbers b) w))
tree-encodable dims ranges (Expr.mul z a) h p =
    (leb-true (nat_abs z) limit (and_right (good_numbers a) _ p), tree-encodable dims ranges a h (and_left (good_numbers a) _ p))
tree-encodable dims ranges (Expr.op o a c) h p =
    let q = and_right (good_numbers a) _ p in
    (h.0, (leb-true c max_divisor (and_right (ltb 0 c) (leb c max_divisor) q), tree-encodable dims ranges a h.1 (and_left (good_numbers a) _ p)))

trees-encodable : (dims ranges : ℕ) (es : List Expr) → AllTrees (λ (e : Expr). Proper dims ranges e × GoodTree e) es → AllEncodable dims ranges es
unfolding AllTrees
trees-encodable dims ranges [] h = tt
trees-encodable dims ranges (e ∷ es) h = (tree-encodable dims ranges e h.0.0 h.0.1, trees-encodable dims ranges es h.1)

-- ---- folded constraints are no more than those given, and have their intervals

constraints-fewer : (β : Kind → ℕ → Range) (xs : List Constraint) → length (fold_constraints β xs) ≤ length xs
unfolding fold_constraints
constraints-fewer β [] = omega arith
constraints-fewer β (x ∷ xs) = go (is_inside (sum_range (fold_sum β x.expr) β) x.interval) (constraints-fewer β xs)
  where
    go : (b : Bool) → length (fold_constraints β xs) ≤ length xs
        → length (cond b (fold_constraints β xs) (record { expr = fold_tree β x.expr; interval = x.interval } ∷ fold_constraints β xs)) ≤ suc (length xs)
    go true ih = omega arith
    go false ih = omega arith

intervals-kept : (β : Kind → ℕ → Range) (xs : List Constraint) → intervals_good xs ≡ true → intervals_good (fold_constraints β xs) ≡ true
unfolding fold_constraints
intervals-kept β [] h = refl
intervals-kept β (x ∷ xs) h =
    go (is_inside (sum_range (fold_sum β x.expr) β) x.interval) (intervals-kept β xs (and_right (good_interval limit x.interval.lo x.interval.hi) _ h))
  where
    go : (b : Bool) → intervals_good (fold_constraints β xs) ≡ true
        → intervals_good (cond b (fold_constraints β xs) (record { expr = fold_tree β x.expr; interval = x.interval } ∷ fold_constraints β xs)) ≡ true
    go true ih = ih
    go false ih = and-true (and_left (good_interval limit x.interval.lo x.interval.hi) _ h) ih

all-of-append : {A : Type 0} (p : A → Bool) (xs ys : List A) → all_of p xs ≡ true → all_of p ys ≡ true → all_of p (xs ++ ys) ≡ true
all-of-append p [] ys h k = k
all-of-append p (x ∷ xs) ys h k = and-true (and_left (p x) (all_of p xs) h) (all-of-append p xs ys (and_right (p x) (all_of p xs) h) k)

all-of-listed : {A : Type 0} (p : A → Bool) (f : ℕ → A) (n : ℕ) → ((k : ℕ) → k < n → p (f k) ≡ true) → all_of p (listed f n) ≡ true
unfolding listed
all-of-listed p f zero h = refl
all-of-listed p f (suc n) h = all-of-append p (listed f n) (f n ∷ []) (all-of-listed p f n (λ k l. h k (omega arith))) (and-true (h n (omega arith)) refl)

module _ (m : IndexingMap) (f : Formed m) where
  intervals-read : intervals_good (map_constraints m) ≡ true
  unfolding good_ends good_intervals
  intervals-read =
      all-of-listed (λ (c : Constraint). good_interval limit c.interval.lo c.interval.hi) (constraint_at m) m.constraints
      (λ k l.
      let c = counts m f in
      let v : k < min m.constraints max_constraints = omega (arith, c.constraints) in
      rw (zero-add k) at (every-at (λ (k : ℕ). good_ends_at limit m.constraint_lower m.constraint_upper (0 + k)) _ (ends-good m f.parts) k v))

  bounds-read : (good_intervals max_bound m.lower m.upper 0 m.dims && good_intervals max_bound m.lower m.upper max_variables m.ranges) ≡ true
  unfolding good_bounds
  bounds-read =
      let c = counts m f in
      let a : min m.dims max_variables ≡ m.dims = omega (arith, c.dims) in
      let b : min m.ranges max_variables ≡ m.ranges = omega (arith, c.ranges) in
      ap₂ (λ (x y : ℕ). good_intervals max_bound m.lower m.upper 0 x && good_intervals max_bound m.lower m.upper max_variables y) (sym a) (sym b)
      ∙ bounds-good m f.parts

-- ---- a map whose fold is accepted

module _ (m : IndexingMap) (w : Folds m) where
  abbrev Small : Expr → Type 0
  Small e = small_working (map_bounds m) e ≡ true

  -- proper, good, and folding passes no limit at it
  abbrev Given : Expr → Type 0
  Given e = Read m w.accepted.formed e × Small e

  small_all : AllTrees Small (trees_of (result_trees m) (map_constraints m))
  unfolding small_fold
  small_all = small-trees (map_bounds m) (trees_of (result_trees m) (map_constraints m)) w.small

  pub results-given : AllTrees Given (result_trees m)
  results-given =
      trees-both (Read m w.accepted.formed) Small (result_trees m) (results-read m w.accepted.formed)
      (all_left Small (result_trees m) (constraint_trees (map_constraints m)) small_all)

  pub constraints-given : AllTrees Given (constraint_trees (map_constraints m))
  constraints-given =
      trees-both (Read m w.accepted.formed) Small (constraint_trees (map_constraints m)) (constraints-read m w.accepted.formed)
      (all_right Small (result_trees m) (constraint_trees (map_constraints m)) small_all)

  -- what holds at every folded tree, by what holds at every tree
  pub folded-all : (P : Expr → Type 0) → ((e : Expr) → Given e → P (fold_tree (map_bounds m) e)) → AllTrees P (trees_of (folded_results m) (folded_constraints m))
  folded-all P f =
      all_append P (folded_results m) (constraint_trees (folded_constraints m))
      (all_results (map_bounds m) Given P f (result_trees m) results-given)
      (all-constraints (map_bounds m) Given P f (map_constraints m) constraints-given)

  pub result_count : length (folded_results m) ≡ m.results
  result_count = length-map (result_trees m) _ ∙ listed-length _ m.results

  fewer : length (folded_constraints m) ≤ m.constraints
  fewer = omega (arith, constraints-fewer (map_bounds m) (map_constraints m), listed-length (constraint_at m) m.constraints)

  pub constraint-count : (folded_map m).constraints ≤ m.constraints
  unfolding folded_map encode_map
  constraint-count = fewer

  pub fitting : Fitting m.dims m.ranges (folded_results m) (folded_constraints m)
  unfolding few_nodes
  fitting =
      let c = counts m w.accepted.formed in
      record {
        few-dims = c.dims;
        few-ranges = c.ranges;
        few-results = omega (arith, result_count, c.results);
        few-constraints = omega (arith, fewer, c.constraints);
        few-nodes = leb-true (length (nodes_of (trees_of (folded_results m) (folded_constraints m)))) max_nodes w.few;
        encodable =
            trees-encodable m.dims m.ranges (trees_of (folded_results m) (folded_constraints m))
            (folded-all (λ (e : Expr). Proper m.dims m.ranges e × GoodTree e)
            (λ e h. (folded-proper (map_bounds m) m.dims m.ranges e h.0.0, folded-numbers (map_bounds m) e h.0.1 h.1)));
      }

  pub folded-proper-all : AllTrees (Proper m.dims m.ranges) (trees_of (folded_results m) (folded_constraints m))
  folded-proper-all = folded-all (Proper m.dims m.ranges) (λ e h. folded-proper (map_bounds m) m.dims m.ranges e h.0.0)

  -- the folded map is accepted
  pub folded-accepted : Accepted (folded_map m)
  unfolding folded_map
  folded-accepted =
      record {
        formed =
            record {
              parts =
                  encoded-parts m.dims m.ranges m.lower m.upper (folded_results m) (folded_constraints m) fitting
                  ∙ and-true (bounds-read m w.accepted.formed)
                  (intervals-kept (map_bounds m) (map_constraints m) (intervals-read m w.accepted.formed));
              counts = encoded-counts m.dims m.ranges m.lower m.upper (folded_results m) (folded_constraints m) fitting;
            };
        ranges =
            encoded-ranges m.dims m.ranges m.lower m.upper (folded_results m) (folded_constraints m) fitting
            ∙ all-test (small_ranges (map_bounds m)) (trees_of (folded_results m) (folded_constraints m))
            (folded-all (λ (e : Expr). small_ranges (map_bounds m) e ≡ true) (λ e h. folded-ranges (map_bounds m) e h.0.1 h.1));
      }
