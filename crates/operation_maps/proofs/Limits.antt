-- A map before it is folded, with good bounds and light trees, is not refused by folding. Assumes nothing.
use Rattle.std.specs.Prelude.{Ok}
use mathlib.Core.Path.{◌≡◌, refl, ap, ap₂, ◌∙◌}
use mathlib.Core.Bool.{Bool, true, false, cond, ◌&&◌}
use mathlib.Core.List.{List, [], ◌∷◌}
use Prim.Native.Nat.{ℕ, zero, suc, ◌+◌, ◌-◌, ◌*◌, ◌<◌, ◌≤◌}
use native.Mathlib.Nat.{zero-add}
use native.Mathlib.Omega.{arith}
use borrow.Author.Tests.{le-leb, leb-true}
use lib.Dec.{leb}
use lib.IntN.{ℤ, pos, nat_abs}
use lib.ListN.{length, get_or, length-map}
use lib.Seq.{get_or-drop}
use lib.Signed.{le_z}
use Rattle.integer.specs.Exact.{limit}
use Rattle.refusal.specs.Judge.{judge}
use Rattle.radix.specs.Radix.{max_size}
use Rattle.radix.proofs.Tests.{and-true, and_left, and_right, every-all}
use Rattle.expression.specs.Expression.{Kind, d, s, Expr, Range, span, small_ranges}
use Rattle.expression.specs.Node.{max_variables, max_nodes}
use Rattle.expression.specs.Value.{point_of, bounds}
use Rattle.indexing.specs.Map.{max_bound, good_interval, good_ends_at, good_intervals, good_parts, good_counts, good_ranges}
use Rattle.folding.specs.Sum.{sum_range}
use Rattle.folding.specs.Fold.{fold_sum}
use Rattle.folding.specs.Working.{small_working}
use Rattle.folding.specs.Map.{Constraint, constraint_trees, fold_tree, fold_results, is_inside, fold_constraints, small_trees}
use Rattle.folding.proofs.Map.{AllTrees, all-trees, trees-small}
use Rattle.folding.proofs.Magnitude.{atom_magnitude, tree_magnitude, tree-ranges}
use Rattle.folding.proofs.PlainTrees.{Plain, plain-small}
use Rattle.folding.proofs.FoldedSize.{atom_count, folded-nodes}
use Rattle.encoding.specs.Encode.{trees_of, nodes_of, intervals_good, all_small}
use Rattle.encoding.proofs.Encoded.{encoded-parts, encoded-counts, encoded-ranges}
use Rattle.encoding.specs.Trees.{map_bounds}
use Rattle.fold.specs.FoldMap.{small_fold, few_nodes, fold_rules}
use Rattle.encoding.proofs.Trees.{made-results, made-constraints}
use Rattle.fold.proofs.Folded.{folds-done, all_left, all_right}
use Rattle.map_builder.specs.Raw.{Raw, lows, highs, places_of, encoded, Fits, whole_of}
use Rattle.operation_maps.proofs.Fitted.{nodes-join, nodes-more}
use Rattle.operation_maps.proofs.Handed.{range_at, place-dimension, place-range, lows-few, highs-few, dims-same, ranges-same}

-- ---- trees

-- every node's range and every sum formed keep the limits, and there are at most n variables, floordivs and mods
pub record Light (β : Kind → ℕ → Range) (n : ℕ) (e : Expr) : Type 0 where
  pub ranges : small_ranges β e ≡ true
  pub working : small_working β e ≡ true
  pub atoms : atom_count e ≤ n

pub plain-light : (β : Kind → ℕ → Range) (n : ℕ) (e : Expr) → Plain β e → tree_magnitude β e ≤ limit → atom_count e ≤ n → Light β n e
plain-light β n e p m a = record { ranges = tree-ranges β e m; working = plain-small β e p m; atoms = a }

-- ---- the nodes of folded trees

module _ (β : Kind → ℕ → Range) (n : ℕ) where
  abbrev Few : Expr → Type 0
  Few e = atom_count e ≤ n

  results-nodes : (es : List Expr) → AllTrees Few es → length (nodes_of (fold_results β es)) ≤ length es * (4 * n + 1)
  unfolding AllTrees
  results-nodes [] h = omega arith
  results-nodes (e ∷ es) h = omega (arith, nodes-more (fold_tree β e) (fold_results β es), folded-nodes β e, h.0, results-nodes es h.1)

  constraints-nodes : (xs : List Constraint) → AllTrees Few (constraint_trees xs)
      → length (nodes_of (constraint_trees (fold_constraints β xs))) ≤ length xs * (4 * n + 1)
  unfolding AllTrees fold_constraints
  constraints-nodes [] h = omega arith
  constraints-nodes (x ∷ xs) h = go (is_inside (sum_range (fold_sum β x.expr) β) x.interval) (constraints-nodes xs h.1)
    where
      rest : List Constraint
      rest = fold_constraints β xs

      go : (b : Bool) → length (nodes_of (constraint_trees rest)) ≤ length xs * (4 * n + 1)
          → length (nodes_of (constraint_trees (cond b rest (record { expr = fold_tree β x.expr; interval = x.interval } ∷ rest)))) ≤ suc (length xs) * (4 * n + 1)
      go true ih = omega arith
      go false ih = omega (arith, nodes-more (fold_tree β x.expr) (constraint_trees rest), folded-nodes β x.expr, h.0)

-- ---- bounds

-- every range has its lower end first, and both within +-2^40
abbrev pub GoodRanges : List Range → Type 0
GoodRanges [] = Unit {0}
GoodRanges (r ∷ rs) = (good_interval max_bound r.lo r.hi ≡ true) × GoodRanges rs

good-at : (rs : List Range) → GoodRanges rs → (k : ℕ) → k < length rs → good_interval max_bound (get_or (lows rs) k (pos 0)) (get_or (highs rs) k (pos 0)) ≡ true
good-at [] h k l = absurd (omega arith)
good-at (r ∷ rs) h zero l = h.0
good-at (r ∷ rs) h (suc k) l = good-at rs h.1 k (omega arith)

pub natural-interval : (a b : ℕ) → a ≤ b → b ≤ max_bound → good_interval max_bound (pos a) (pos b) ≡ true
natural-interval a b h l = and-true (le-leb a b h) (and-true (le-leb a max_bound (omega arith)) (le-leb b max_bound l))

pub whole-good : (ns : List ℕ) → ((k : ℕ) → k < length ns → get_or ns k 0 ≤ max_size) → GoodRanges (whole_of ns)
whole-good [] h = tt
whole-good (n ∷ ns) h =
    (natural-interval 0 (n - 1) (omega arith) (omega (arith, h 0 (omega arith))), whole-good ns (λ k l. h (suc k) (omega arith)))

-- the bounds of the map's variables
pub record Agrees (m : Raw) (β : Kind → ℕ → Range) : Type 0 where
  pub dims : (k : ℕ) → k < length m.dims → β d k ≡ range_at m.dims k
  pub ranges : (k : ℕ) → k < length m.ranges → β s k ≡ range_at m.ranges k

variable-light : (β : Kind → ℕ → Range) (kind : Kind) (k : ℕ) (r : Range) → good_interval max_bound r.lo r.hi ≡ true → β kind k ≡ r → Light β 1 (Expr.var kind k)
unfolding Plain tree_magnitude atom_magnitude atom_count
variable-light β kind k r g e =
    let ends = leb (nat_abs r.lo) max_bound && leb (nat_abs r.hi) max_bound in
    let h = and_right (le_z r.lo r.hi) ends g in
    let a = leb-true (nat_abs r.lo) max_bound (and_left (leb (nat_abs r.lo) max_bound) (leb (nat_abs r.hi) max_bound) h) in
    let b = leb-true (nat_abs r.hi) max_bound (and_right (leb (nat_abs r.lo) max_bound) (leb (nat_abs r.hi) max_bound) h) in
    plain-light β 1 (Expr.var kind k) tt
    (omega (arith, a, b, ap (λ (q : Range). nat_abs q.lo) e, ap (λ (q : Range). nat_abs q.hi) e)) (omega arith)

module _ (m : Raw) (β : Kind → ℕ → Range) (g : Agrees m β) where
  pub dimension-light : GoodRanges m.dims → (k : ℕ) → k < length m.dims → Light β 1 (Expr.var d k)
  dimension-light h k l = variable-light β d k (range_at m.dims k) (good-at m.dims h k l) (g.dims k l)

  pub range-light : GoodRanges m.ranges → (k : ℕ) → k < length m.ranges → Light β 1 (Expr.var s k)
  range-light h k l = variable-light β s k (range_at m.ranges k) (good-at m.ranges h k l) (g.ranges k l)

-- ---- maps

-- good bounds and intervals, light trees, and few of them
pub record Keeps (m : Raw) : Type 0 where
  pub dims : GoodRanges m.dims
  pub ranges : GoodRanges m.ranges
  pub intervals : intervals_good m.constraints ≡ true
  pub most : ℕ
  pub trees : (β : Kind → ℕ → Range) → Agrees m β → AllTrees (Light β most) (trees_of m.results m.constraints)
  pub few : (length m.results + length m.constraints) * (4 * most + 1) ≤ max_nodes

all-small : (β : Kind → ℕ → Range) (es : List Expr) → AllTrees (λ (e : Expr). small_ranges β e ≡ true) es → all_small β es ≡ true
unfolding AllTrees
all-small β [] h = refl
all-small β (e ∷ es) h = and-true h.0 (all-small β es h.1)

module _ (m : Raw) (w : Fits m) (h : Keeps m) where
  abbrev lower : List ℤ
  lower = places_of (lows m.dims) (lows m.ranges)

  abbrev upper : List ℤ
  upper = places_of (highs m.dims) (highs m.ranges)

  abbrev trees : List Expr
  trees = trees_of m.results m.constraints

  dimension-is : (k : ℕ) → k < length m.dims → span (get_or lower k (pos 0)) (get_or upper k (pos 0)) ≡ range_at m.dims k
  dimension-is k l =
      ap₂ span
      (place-dimension (lows m.dims) (lows m.ranges) (lows-few m w) k (omega (arith, length-map m.dims (λ (r : Range). r.lo))))
      (place-dimension (highs m.dims) (highs m.ranges) (highs-few m w) k (omega (arith, length-map m.dims (λ (r : Range). r.hi))))

  range-is : (k : ℕ) → span (get_or lower (max_variables + k) (pos 0)) (get_or upper (max_variables + k) (pos 0)) ≡ range_at m.ranges k
  range-is k =
      ap₂ span
      (place-range (lows m.dims) (lows m.ranges) (lows-few m w) k)
      (place-range (highs m.dims) (highs m.ranges) (highs-few m w) k)

  given-agrees : Agrees m (bounds lower upper)
  unfolding bounds point_of
  given-agrees =
      record {
        dims = λ k l. dimension-is k l;
        ranges = λ k l. ap₂ span (get_or-drop max_variables lower k (pos 0)) (get_or-drop max_variables upper k (pos 0)) ∙ range-is k;
      }

  made-agrees : Agrees m (map_bounds (encoded m))
  unfolding bounds point_of
  made-agrees =
      record {
        dims = λ k l. dims-same m w k l;
        ranges = λ k l.
            ap₂ span (get_or-drop max_variables (encoded m).lower k (pos 0)) (get_or-drop max_variables (encoded m).upper k (pos 0)) ∙ ranges-same m w k l;
      }

  good-dims : good_intervals max_bound lower upper 0 (length m.dims) ≡ true
  unfolding good_intervals
  good-dims =
      every-all (λ (k : ℕ). good_ends_at max_bound lower upper (0 + k)) (length m.dims)
      (λ k l.
      ap (good_ends_at max_bound lower upper) (zero-add k)
      ∙ ap (λ (r : Range). good_interval max_bound r.lo r.hi) (dimension-is k l)
      ∙ good-at m.dims h.dims k l)

  good-ranges : good_intervals max_bound lower upper max_variables (length m.ranges) ≡ true
  unfolding good_intervals
  good-ranges =
      every-all (λ (k : ℕ). good_ends_at max_bound lower upper (max_variables + k)) (length m.ranges)
      (λ k l. ap (λ (r : Range). good_interval max_bound r.lo r.hi) (range-is k) ∙ good-at m.ranges h.ranges k l)

  -- 2 of the map given
  parts : good_parts (encoded m) ≡ true
  unfolding encoded
  parts =
      encoded-parts (length m.dims) (length m.ranges) lower upper m.results m.constraints w
      ∙ and-true (and-true good-dims good-ranges) h.intervals

  -- 7 of the map given
  counts : good_counts (encoded m) ≡ true
  unfolding encoded
  counts = encoded-counts (length m.dims) (length m.ranges) lower upper m.results m.constraints w

  -- 8 of the map given
  ranges : good_ranges (encoded m) ≡ true
  unfolding encoded
  ranges =
      let β = bounds lower upper in
      encoded-ranges (length m.dims) (length m.ranges) lower upper m.results m.constraints w
      ∙ all-small β trees (all-trees (Light β h.most) (λ (e : Expr). small_ranges β e ≡ true) (λ e x. x.ranges) trees (h.trees β given-agrees))

  abbrev β : Kind → ℕ → Range
  β = map_bounds (encoded m)

  -- 8 of the working
  working : small_fold (encoded m) ≡ true
  unfolding small_fold encoded
  working =
      ap₂ (λ (rs : List Expr) (cs : List Constraint). small_trees β (trees_of rs cs))
      (made-results (length m.dims) (length m.ranges) lower upper m.results m.constraints w)
      (made-constraints (length m.dims) (length m.ranges) lower upper m.results m.constraints w)
      ∙ trees-small β trees (all-trees (Light β h.most) (λ (e : Expr). small_working β e ≡ true) (λ e x. x.working) trees (h.trees β made-agrees))

  few-atoms : AllTrees (Few β h.most) trees
  few-atoms = all-trees (Light β h.most) (Few β h.most) (λ e x. x.atoms) trees (h.trees β made-agrees)

  few-nodes : length (nodes_of (trees_of (fold_results β m.results) (fold_constraints β m.constraints))) ≤ max_nodes
  few-nodes =
      omega (
        arith,
        nodes-join (fold_results β m.results) (constraint_trees (fold_constraints β m.constraints)),
        results-nodes β h.most m.results (all_left (Few β h.most) m.results (constraint_trees m.constraints) few-atoms),
        constraints-nodes β h.most m.constraints (all_right (Few β h.most) m.results (constraint_trees m.constraints) few-atoms),
        h.few,
      )

  -- 7 of the result
  nodes : few_nodes (encoded m) ≡ true
  unfolding few_nodes encoded
  nodes =
      ap₂ (λ (rs : List Expr) (cs : List Constraint). leb (length (nodes_of (trees_of (fold_results β rs) (fold_constraints β cs)))) max_nodes)
      (made-results (length m.dims) (length m.ranges) lower upper m.results m.constraints w)
      (made-constraints (length m.dims) (length m.ranges) lower upper m.results m.constraints w)
      ∙ le-leb (length (nodes_of (trees_of (fold_results β m.results) (fold_constraints β m.constraints)))) max_nodes few-nodes

  pub not-refused : judge (fold_rules (encoded m)) ≡ Ok tt
  not-refused = folds-done (encoded m) (record { accepted = record { formed = record { parts = parts; counts = counts }; ranges = ranges }; small = working; few = nodes })
