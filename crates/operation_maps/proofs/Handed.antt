-- The record of a map, and the folded record, name the pairs that the map names. Assumes nothing.
use Rattle.std.specs.Prelude.{Ok}
use mathlib.Core.Path.{◌≡◌, refl, sym, ap, ap₂, ◌∙◌, subst}
use mathlib.Core.Logic.{◌↔◌}
use mathlib.Core.Bool.{true}
use mathlib.Core.List.{List, [], ◌∷◌}
use Prim.Native.Nat.{ℕ, zero, suc, ◌+◌, ◌<◌, ◌≤◌}
use native.Mathlib.Omega.{arith}
use lib.IntN.{ℤ, pos}
use lib.ListN.{length, get_or, length-append, length-map, get_or-append}
use lib.Seq.{get_or-append-add}
use Rattle.refusal.specs.Judge.{judge}
use Rattle.radix.proofs.Tests.{and_left, and_right}
use Rattle.expression.specs.Expression.{Expr, Range, span, In, eval}
use Rattle.expression.specs.Node.{max_variables}
use Rattle.expression.specs.Value.{point_of, tree_value}
use Rattle.expression.specs.Decode.{tree}
use Rattle.indexing.specs.Map.{value_at, right_length, in_bounds, in_domain, Domain}
use Rattle.indexing.specs.declared.IndexingMap.{IndexingMap}
use Rattle.indexing.proofs.Theorems.{domain-is}
use Rattle.folding.specs.Map.{Constraint, constraint_trees, values_of, Holds}
use Rattle.encoding.specs.Encode.{filled, trees_of, encode_map}
use Rattle.encoding.proofs.Lists.{map_at}
use Rattle.encoding.proofs.Filled.{filled-length, filled_at}
use Rattle.encoding.proofs.Encoded.{encoded-tree, encoded-dimension, encoded-range, encoded-interval}
use Rattle.encoding.specs.Trees.{listed}
use Rattle.fold.specs.FoldMap.{fold_rules, folded_map}
use Rattle.encoding.proofs.Listed.{listed-is, listed_same}
use Rattle.fold.proofs.Theorems.{same-counts, same-domain, same-values}
use Rattle.map_builder.specs.Raw.{Raw, lows, highs, places_of, encoded, Fits}
use Rattle.operation_maps.specs.Points.{Inside, Names, Sends, none, more}

-- ---- values inside ranges, by place

abbrev pub range_at : List Range → ℕ → Range
range_at rs n = span (get_or (lows rs) n (pos 0)) (get_or (highs rs) n (pos 0))

inside-at : {zs : List ℤ} {rs : List Range} → Inside zs rs → (n : ℕ) → n < length rs → In (get_or zs n (pos 0)) (range_at rs n)
inside-at none n l = absurd (omega arith)
inside-at (more h i) zero l = h
inside-at (more h i) (suc n) l = inside-at i n (omega arith)

pub inside-length : {zs : List ℤ} {rs : List Range} → Inside zs rs → length zs ≡ length rs
inside-length none = refl
inside-length (more h i) = ap suc (inside-length i)

inside_of : (zs : List ℤ) (rs : List Range) → length zs ≡ length rs → ((n : ℕ) → n < length rs → In (get_or zs n (pos 0)) (range_at rs n)) → Inside zs rs
inside_of [] [] e h = none
inside_of [] (r ∷ rs) e h = absurd (omega arith)
inside_of (z ∷ zs) [] e h = absurd (omega arith)
inside_of (z ∷ zs) (r ∷ rs) e h = more (h 0 (omega arith)) (inside_of zs rs (omega arith) (λ n l. h (suc n) (omega arith)))

-- ---- constraints by place

module _ (ρ : _) where
  holds-at : (xs : List Constraint) (z : Constraint) → Holds ρ xs → (k : ℕ) → k < length xs → In (eval ρ (get_or xs k z).expr) (get_or xs k z).interval
  unfolding Holds
  holds-at [] z h k l = absurd (omega arith)
  holds-at (x ∷ xs) z h zero l = h.0
  holds-at (x ∷ xs) z h (suc k) l = holds-at xs z h.1 k (omega arith)

  holds_of : (xs : List Constraint) (z : Constraint) → ((k : ℕ) → k < length xs → In (eval ρ (get_or xs k z).expr) (get_or xs k z).interval) → Holds ρ xs
  unfolding Holds
  holds_of [] z h = tt
  holds_of (x ∷ xs) z h = (h 0 (omega arith), holds_of xs z (λ k l. h (suc k) (omega arith)))

-- ---- places

module _ (ds ss : List ℤ) (few : length ds ≤ max_variables) where
  pub place-dimension : (k : ℕ) → k < length ds → get_or (places_of ds ss) k (pos 0) ≡ get_or ds k (pos 0)
  place-dimension k l =
      let n = filled-length max_variables (pos 0) ds in
      get_or-append (filled max_variables (pos 0) ds) ss (pos 0) k (omega arith) ∙ filled_at max_variables (pos 0) ds k (omega arith)

  pub place-range : (k : ℕ) → get_or (places_of ds ss) (max_variables + k) (pos 0) ≡ get_or ss k (pos 0)
  place-range k =
      ap (λ (i : ℕ). get_or (places_of ds ss) (i + k) (pos 0)) (sym (filled-length max_variables (pos 0) ds))
      ∙ get_or-append-add (filled max_variables (pos 0) ds) ss k (pos 0)

-- ---- the record of a map

module _ (m : Raw) (w : Fits m) where
  abbrev D : ℕ
  D = length m.dims

  abbrev S : ℕ
  S = length m.ranges

  abbrev lo : List ℤ
  lo = places_of (lows m.dims) (lows m.ranges)

  abbrev hi : List ℤ
  hi = places_of (highs m.dims) (highs m.ranges)

  pub lows-few : length (lows m.dims) ≤ max_variables
  lows-few = omega (arith, length-map m.dims (λ (r : Range). r.lo), w.few-dims)

  pub highs-few : length (highs m.dims) ≤ max_variables
  highs-few = omega (arith, length-map m.dims (λ (r : Range). r.hi), w.few-dims)

  pub dims-same : (k : ℕ) → k < D → span (get_or (encoded m).lower k (pos 0)) (get_or (encoded m).upper k (pos 0)) ≡ range_at m.dims k
  unfolding encoded
  dims-same k l =
      let a = encoded-dimension D S lo hi m.results m.constraints w k l in
      ap₂ span
      (a.0 ∙ place-dimension (lows m.dims) (lows m.ranges) lows-few k (omega (arith, length-map m.dims (λ (r : Range). r.lo))))
      (a.1 ∙ place-dimension (highs m.dims) (highs m.ranges) highs-few k (omega (arith, length-map m.dims (λ (r : Range). r.hi))))

  pub ranges-same : (k : ℕ) → k < S
      → span (get_or (encoded m).lower (max_variables + k) (pos 0)) (get_or (encoded m).upper (max_variables + k) (pos 0)) ≡ range_at m.ranges k
  unfolding encoded
  ranges-same k l =
      let a = encoded-range D S lo hi m.results m.constraints w k l in
      ap₂ span
      (a.0 ∙ place-range (lows m.dims) (lows m.ranges) lows-few k)
      (a.1 ∙ place-range (highs m.dims) (highs m.ranges) highs-few k)

  other : Constraint
  other = record { expr = Expr.const (pos 0); interval = span (pos 0) (pos 0) }

  module _ (x v : List ℤ) where
    value-result : (k : ℕ) → k < length m.results → value_at (encoded m) x v k ≡ eval (point_of x v) (get_or m.results k (Expr.const (pos 0)))
    unfolding encoded
    value-result k l =
        let z = Expr.const (pos 0) in
        let h : k < length (trees_of m.results m.constraints) = omega (arith, length-append m.results (constraint_trees m.constraints)) in
        ap (tree_value x v)
        (encoded-tree D S lo hi m.results m.constraints w k z h
        ∙ ap tree (get_or-append m.results (constraint_trees m.constraints) z k l))

    value-constraint : (k : ℕ) → k < length m.constraints → value_at (encoded m) x v ((encoded m).results + k) ≡ eval (point_of x v) (get_or m.constraints k other).expr
    unfolding encoded encode_map
    value-constraint k l =
        let z = Expr.const (pos 0) in
        let h : length m.results + k < length (trees_of m.results m.constraints) = omega (arith, length-append m.results (constraint_trees m.constraints), length-map m.constraints (λ (c : Constraint). c.expr)) in
        ap (tree_value x v)
        (encoded-tree D S lo hi m.results m.constraints w (length m.results + k) z h
        ∙ ap tree (get_or-append-add m.results (constraint_trees m.constraints) k z ∙ map_at (λ (c : Constraint). c.expr) m.constraints k other z l))

    interval-same : (k : ℕ) → k < length m.constraints
        → span (get_or (encoded m).constraint_lower k (pos 0)) (get_or (encoded m).constraint_upper k (pos 0)) ≡ (get_or m.constraints k other).interval
    unfolding encoded
    interval-same k l = let a = encoded-interval D S lo hi m.results m.constraints w k other l in ap₂ span a.0 a.1

    values_same : listed (value_at (encoded m) x v) (encoded m).results ≡ values_of (point_of x v) m.results
    unfolding encoded encode_map
    values_same =
        listed-is (value_at (encoded m) x v) (length m.results) (values_of (point_of x v) m.results) (pos 0)
        (sym (length-map m.results (λ (e : Expr). eval (point_of x v) e)))
        (λ k l. value-result k l ∙ sym (map_at (λ (e : Expr). eval (point_of x v) e) m.results k (Expr.const (pos 0)) (pos 0) l))

    domain-to : Inside x m.dims → Inside v m.ranges → Holds (point_of x v) m.constraints → Domain (encoded m) x v
    unfolding encoded encode_map
    domain-to i j h =
        record {
          long-dims = inside-length i;
          long-ranges = inside-length j;
          dims = λ n l. subst (In (get_or x n (pos 0))) (sym (dims-same n l)) (inside-at i n l);
          ranges = λ n l. subst (In (get_or v n (pos 0))) (sym (ranges-same n l)) (inside-at j n l);
          holds = λ k l. subst (In _) (sym (interval-same k l)) (subst (λ (z : ℤ). In z (get_or m.constraints k other).interval) (sym (value-constraint k l)) (holds-at (point_of x v) m.constraints other h k l));
        }

    domain-from : Domain (encoded m) x v → Inside x m.dims × (Inside v m.ranges × Holds (point_of x v) m.constraints)
    unfolding encoded encode_map
    domain-from h = (
      inside_of x m.dims h.long-dims (λ n l. subst (In (get_or x n (pos 0))) (dims-same n l) (h.dims n l)),
      (
        inside_of v m.ranges h.long-ranges (λ n l. subst (In (get_or v n (pos 0))) (ranges-same n l) (h.ranges n l)),
        holds_of (point_of x v) m.constraints other
            (λ k l. subst (In _) (interval-same k l) (subst (λ (z : ℤ). In z (span (get_or (encoded m).constraint_lower k (pos 0)) (get_or (encoded m).constraint_upper k (pos 0)))) (value-constraint k l) (h.holds k l))),
      ),
    )

  -- The record names the pairs that the map names.
  pub encoded-names : (x y : List ℤ) → Names m x y ↔ Sends (encoded m) x y
  unfolding encoded encode_map
  encoded-names x y = (to, from)
    where
      to : Names m x y → Sends (encoded m) x y
      to h =
          record {
            values = h.values;
            domain = domain-to x h.values h.inside-dims h.inside-ranges h.holds;
            results = values_same x h.values ∙ h.results;
          }

      from : Sends (encoded m) x y → Names m x y
      from h =
          let p = domain-from x h.values h.domain in
          record {
            values = h.values;
            inside-dims = p.0;
            inside-ranges = p.1.0;
            holds = p.1.1;
            results = sym (values_same x h.values) ∙ h.results;
          }

-- ---- the folded record

domain-inside : (m : IndexingMap) (ds ss : List ℤ) → Domain m ds ss → in_bounds m ds ss ≡ true
unfolding in_domain
domain-inside m ds ss h = and_left (in_bounds m ds ss) _ (and_right (right_length m ds ss) _ ((domain-is m ds ss).1 h))

module _ (m : IndexingMap) (h : judge (fold_rules m) ≡ Ok tt) where
  folded-values : (x v : List ℤ) → Domain m x v → listed (value_at (folded_map m) x v) (folded_map m).results ≡ listed (value_at m x v) m.results
  folded-values x v p =
      ap (listed (value_at (folded_map m) x v)) (same-counts m h).1.1.0
      ∙ listed_same (value_at (folded_map m) x v) (value_at m x v) m.results (λ i l. same-values m h x v (domain-inside m x v p) i l)

  -- Folding keeps the pairs.
  pub folded-names : (x y : List ℤ) → Sends m x y ↔ Sends (folded_map m) x y
  folded-names x y = (to, from)
    where
      to : Sends m x y → Sends (folded_map m) x y
      to p =
          record {
            values = p.values;
            domain = (same-domain m h x p.values).0 p.domain;
            results = folded-values x p.values p.domain ∙ p.results;
          }

      from : Sends (folded_map m) x y → Sends m x y
      from p =
          let q = (same-domain m h x p.values).1 p.domain in
          record {
            values = p.values;
            domain = q;
            results = sym (folded-values x p.values q) ∙ p.results;
          }
