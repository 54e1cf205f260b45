-- A map made by steps: how it grows, and what it means. Assumes nothing.
use mathlib.Core.Path.{◌≡◌, refl, sym, ap, ◌∙◌, subst}
use mathlib.Core.List.{List, [], map}
use Prim.Native.Nat.{ℕ, zero, suc, ◌+◌, ◌*◌, ◌<◌, ◌≤◌}
use native.Mathlib.Omega.{arith}
use native.Mathlib.Numerals.{add-one}
use lib.IntN.{ℤ, pos}
use lib.ListN.{length, get_or, length-map}
use Rattle.radix.specs.Radix.{max_size, Bounded}
use Rattle.expression.specs.Expression.{d, Expr, Range}
use Rattle.expression.specs.Node.{max_variables}
use Rattle.encoding.specs.Postfix.{variable_of, postfix}
use Rattle.encoding.proofs.Lists.{map_at}
use Rattle.encoding.specs.Trees.{listed}
use Rattle.encoding.proofs.Listed.{listed-length, listed-is}
use Rattle.map_builder.specs.Raw.{Raw, up_to, whole_of}
use Rattle.map_builder.specs.Draft.{empty_draft, add_dimension, push_node, push_variable, steps, add_variable}
use Rattle.map_builder.specs.declared.Draft.{Draft}
use Rattle.map_builder.proofs.Drafted.{Drafted, empty-drafted, dimension-drafted, node-drafted, result-drafted, variable-value}

-- ---- any steps

pub steps-none : (f : ℕ → Draft → Draft) (x : Draft) → x ≡ steps f 0 x
unfolding steps
steps-none f x = refl

pub steps_next : (f : ℕ → Draft → Draft) (i : ℕ) (x y z : Draft) → y ≡ steps f i x → z ≡ f i y → z ≡ steps f (i + 1) x
unfolding steps
steps_next f i x y z e g = g ∙ ap (f i) e ∙ ap (λ (k : ℕ). steps f k x) (sym (add-one i))

-- n steps, each with at most one of everything, 4 nodes, and no tree left under way
pub record Grows (x y : Draft) (n : ℕ) : Type 0 where
  pub dims : y.map.dims ≤ x.map.dims + n
  pub ranges : y.map.ranges ≤ x.map.ranges + n
  pub results : y.map.results ≤ x.map.results + n
  pub constraints : y.map.constraints ≤ x.map.constraints + n
  pub nodes : y.at ≤ x.at + 4 * n
  pub under : x.under ≡ 0 → y.under ≡ 0

pub steps-grow : (f : ℕ → Draft → Draft) → ((k : ℕ) (x : Draft) → Grows x (f k x) 1) → (n : ℕ) (x : Draft) → Grows x (steps f n x) n
unfolding steps
steps-grow f h zero x =
    record { dims = omega arith; ranges = omega arith; results = omega arith; constraints = omega arith; nodes = omega arith; under = λ u. u }
steps-grow f h (suc n) x =
    let a = steps-grow f h n x in
    let b = h n (steps f n x) in
    record {
      dims = omega (arith, a.dims, b.dims);
      ranges = omega (arith, a.ranges, b.ranges);
      results = omega (arith, a.results, b.results);
      constraints = omega (arith, a.constraints, b.constraints);
      nodes = omega (arith, a.nodes, b.nodes);
      under = λ u. b.under (a.under u);
    }

pub steps-drafted : (f : ℕ → Draft → Draft) (part : ℕ → Raw) (n : ℕ) (x : Draft) → Drafted (part 0) [] x
    → ((k : ℕ) (y : Draft) → k < n → Drafted (part k) [] y → Drafted (part (suc k)) [] (f k y)) → (i : ℕ) → i ≤ n → Drafted (part i) [] (steps f i x)
unfolding steps
steps-drafted f part n x w h zero l = w
steps-drafted f part n x w h (suc i) l = h i (steps f i x) l (steps-drafted f part n x w h i (omega arith))

-- ---- nodes pushed: the room that is left

pub record Grown (x y : Draft) (n : ℕ) : Type 0 where
  pub nodes : y.at ≤ x.at + n
  pub under : x.under ≤ x.at → y.under ≤ y.at
  pub results : y.map.results ≡ x.map.results
  pub constraints : y.map.constraints ≡ x.map.constraints

pub pushed-grown : (x y : Draft) (k : ℕ) (v : ℤ) → y ≡ push_node x k v → Grown x y 1
pushed-grown x y k v e =
    let a = ap (λ (u : Draft). u.at) e in
    let b = ap (λ (u : Draft). u.under) e in
    record {
      nodes = omega (arith, a);
      under = λ h. omega (arith, a, b, h);
      results = ap (λ (u : Draft). u.map.results) e;
      constraints = ap (λ (u : Draft). u.map.constraints) e;
    }

pub grown-then : (x y z : Draft) (n m : ℕ) → Grown x y n → Grown y z m → Grown x z (n + m)
grown-then x y z n m g h =
    record {
      nodes = omega (arith, g.nodes, h.nodes);
      under = λ u. h.under (g.under u);
      results = h.results ∙ g.results;
      constraints = h.constraints ∙ g.constraints;
    }

-- ---- dimensions one after another

module _ (bound : ℕ → Range) where
  abbrev add_bound : ℕ → Draft → Draft
  add_bound k x = add_dimension x (bound k).lo (bound k).hi

  pub bounds-grow : (k : ℕ) (x : Draft) → Grows x (add_bound k x) 1
  bounds-grow k x =
      record { dims = omega arith; ranges = omega arith; results = omega arith; constraints = omega arith; nodes = omega arith; under = λ u. u }

  -- all else stays as it is
  pub bounds-leave : (n : ℕ) (x : Draft)
      → ((steps add_bound n x).at ≡ x.at)
      × (((steps add_bound n x).under ≡ x.under) × (((steps add_bound n x).map.ranges ≡ x.map.ranges) × ((steps add_bound n x).map.results ≡ x.map.results)))
  unfolding steps
  bounds-leave zero x = (refl, (refl, (refl, refl)))
  bounds-leave (suc n) x = bounds-leave n x

  abbrev bounds_part : ℕ → Raw
  bounds_part k = record { dims = listed bound k; ranges = []; results = []; constraints = [] }

  none-drafted : Drafted (bounds_part 0) [] empty_draft
  unfolding listed
  none-drafted = empty-drafted

  bound-next : (n : ℕ) → n ≤ max_variables → (k : ℕ) (y : Draft) → k < n → Drafted (bounds_part k) [] y → Drafted (bounds_part (suc k)) [] (add_bound k y)
  unfolding listed
  bound-next n m k y h w = dimension-drafted (bounds_part k) [] y (bound k) (omega (arith, m, h, listed-length bound k)) w

  pub bounds-drafted : (n : ℕ) → n ≤ max_variables → (rs : List Range) → listed bound n ≡ rs
      → Drafted (record { dims = rs; ranges = []; results = []; constraints = [] }) [] (steps add_bound n empty_draft)
  bounds-drafted n m rs e =
      subst (λ (l : List Range). Drafted (record { dims = l; ranges = []; results = []; constraints = [] }) [] (steps add_bound n empty_draft)) e
      (steps-drafted add_bound bounds_part n empty_draft none-drafted (bound-next n m) n (omega arith))

-- the sizes of a shape
pub sizes-whole : (ns : List ℕ) → listed (λ (k : ℕ). up_to (get_or ns k 0)) (length ns) ≡ whole_of ns
sizes-whole ns =
    listed-is (λ (k : ℕ). up_to (get_or ns k 0)) (length ns) (whole_of ns) (up_to 0) (sym (length-map ns up_to))
    (λ k h. sym (map_at up_to ns k 0 (up_to 0) h))

-- ---- results that are dimensions

module _ (l : List ℕ) where
  pub variable-grows : (k : ℕ) (x : Draft) → Grows x (add_variable l k x) 1
  variable-grows k x =
      record { dims = omega arith; ranges = omega arith; results = omega arith; constraints = omega arith; nodes = omega arith; under = λ u. refl }

  abbrev variable_at : ℕ → Expr
  variable_at k = Expr.var d (get_or l k 0)

  variables-all : listed variable_at (length l) ≡ map (λ (k : ℕ). Expr.var d k) l
  variables-all =
      listed-is variable_at (length l) (map (λ (k : ℕ). Expr.var d k) l) (Expr.var d 0) (sym (length-map l (λ (k : ℕ). Expr.var d k)))
      (λ k h. sym (map_at (λ (k : ℕ). Expr.var d k) l k 0 (Expr.var d 0) h))

  module _ (rs : List Range) (inside : (k : ℕ) → k < length l → get_or l k 0 < max_variables) where
    abbrev variables_part : ℕ → Raw
    variables_part k = record { dims = rs; ranges = []; results = listed variable_at k; constraints = [] }

    variable-next : (k : ℕ) (y : Draft) → k < length l → Drafted (variables_part k) [] y → Drafted (variables_part (suc k)) [] (add_variable l k y)
    unfolding listed postfix
    variable-next k y h w =
        let j = get_or l k 0 in
        result-drafted (variables_part k) (push_variable y j) (Expr.var d j) refl
        (node-drafted (variables_part k) [] y (variable_of d j) 0 (pos j) refl (variable-value j (inside k h)) w)

    first : (y : Draft) → Drafted (record { dims = rs; ranges = []; results = []; constraints = [] }) [] y → Drafted (variables_part 0) [] y
    unfolding listed
    first y w = w

    pub variables-drafted : (y : Draft) → Drafted (record { dims = rs; ranges = []; results = []; constraints = [] }) [] y
        → Drafted (record { dims = rs; ranges = []; results = map (λ (k : ℕ). Expr.var d k) l; constraints = [] }) [] (steps (add_variable l) (length l) y)
    variables-drafted y w =
        subst (λ (es : List Expr). Drafted (record { dims = rs; ranges = []; results = es; constraints = [] }) [] (steps (add_variable l) (length l) y)) variables-all
        (steps-drafted (add_variable l) variables_part (length l) y (first y w) variable-next (length l) (omega arith))

-- ---- sizes within their limits

pub sized-at : (ns : List ℕ) (k : ℕ) → Bounded max_size ns → k < length ns → (0 < get_or ns k 0) × (get_or ns k 0 ≤ max_size)
unfolding Bounded
sized-at ns k b h = b k h
