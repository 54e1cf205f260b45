-- The maps of operations that treat each dimension by itself keep folding's limits. Assumes nothing.
use mathlib.Core.Path.{◌≡◌, refl, sym, ap, ◌∙◌, subst}
use mathlib.Core.Bool.{true}
use mathlib.Core.List.{List, [], ◌∷◌, ◌++◌, map}
use Prim.Native.Nat.{ℕ, zero, suc, ◌+◌, ◌-◌, ◌*◌, ◌/◌, ◌^◌, ◌<◌, ◌≤◌}
use native.Mathlib.Nat.{zero-add, mul-le-mul, div-le_self, div-add-mod'}
use native.Mathlib.Omega.{arith}
use lib.IntN.{ℤ, pos, negsuc, neg_ℤ, nat_abs}
use lib.ListN.{length, length-append, length-map}
use Rattle.integer.specs.Exact.{limit}
use Rattle.radix.specs.Radix.{max_size}
use Rattle.radix.proofs.Tests.{and-true, and_left, and_right}
use Rattle.expression.specs.Expression.{Kind, d, Op, floordiv, modulo, Expr, Range, span}
use Rattle.indexing.specs.Map.{max_bound, good_interval}
use Rattle.folding.specs.Sum.{Atom}
use Rattle.folding.specs.Map.{Constraint, constraint_trees}
use Rattle.folding.proofs.Map.{AllTrees}
use Rattle.folding.proofs.Magnitude.{atom_magnitude, tree_magnitude, tree-ranges}
use Rattle.folding.proofs.PlainTrees.{Plain}
use Rattle.folding.proofs.Shifted.{shifted-small}
use Rattle.folding.proofs.FoldedSize.{atom_count}
use Rattle.encoding.specs.Encode.{intervals_good}
use Rattle.encoding.proofs.Lists.{map-append}
use Rattle.encoding.specs.Trees.{listed}
use Rattle.encoding.proofs.Listed.{listed-length, all_append}
use Rattle.shape.specs.Shape.{max_rank}
use Rattle.operation_maps.specs.declared.Axis.{Axis}
use Rattle.operation_maps.specs.declared.Axis.TheVariants.{Keep, Flip, Cut, Shift}
use Rattle.operation_maps.specs.Axes.{Side, side_trees, side_tests, side_map, taken, less, out_side, in_side, axes_out, axes_in}
use Rattle.operation_maps.proofs.Fitted.{negative}
use Rattle.operation_maps.proofs.Handed.{range_at}
use Rattle.operation_maps.proofs.Limits.{Light, plain-light, GoodRanges, natural-interval, Keeps}

-- ---- trees of one variable

-- variable k lies in [a, b], with b at most 2^21
record Bound (β : Kind → ℕ → Range) (k a b : ℕ) : Type 0 where
  is : β d k ≡ span (pos a) (pos b)
  low : a ≤ 2 ^ 21
  high : b ≤ 2 ^ 21

module _ (β : Kind → ℕ → Range) (k a b : ℕ) (h : Bound β k a b) where
  abbrev x : Expr
  x = Expr.var d k

  variable-size : atom_magnitude β (Atom.var d k) ≤ 2 ^ 23
  unfolding atom_magnitude
  variable-size = omega (arith, h.low, h.high, ap (λ (r : Range). nat_abs r.lo) h.is, ap (λ (r : Range). nat_abs r.hi) h.is)

  keep-light : Light β 2 x
  unfolding Plain tree_magnitude atom_count
  keep-light = plain-light β 2 x tt (omega (arith, variable-size)) (omega arith)

  -- times a factor, and a constant
  scaled-light : (z c : ℤ) → nat_abs z ≤ 2 ^ 21 → nat_abs c ≤ 2 ^ 21 → Light β 2 (Expr.add (Expr.mul z x) (Expr.const c))
  unfolding Plain tree_magnitude atom_count
  scaled-light z c l m =
      plain-light β 2 (Expr.add (Expr.mul z x) (Expr.const c)) (tt, tt) (omega (arith, variable-size, mul-le-mul l variable-size)) (omega arith)

  shifted-light : (c : ℤ) → nat_abs c ≤ 2 ^ 21 → Light β 2 (Expr.add x (Expr.const c))
  unfolding Plain tree_magnitude atom_count
  shifted-light c m = plain-light β 2 (Expr.add x (Expr.const c)) (tt, tt) (omega (arith, variable-size)) (omega arith)

  room_small : (o : Op) (c : ℤ) (e : ℕ) → nat_abs c ≤ 2 ^ 21 → e ≤ 2 ^ 21 → tree_magnitude β (Expr.op o (Expr.add x (Expr.const c)) e) ≤ limit
  unfolding tree_magnitude
  room_small floordiv c e m n = omega (arith, variable-size)
  room_small modulo c e m n = omega (arith, variable-size)

  divided-light : (o : Op) (c : ℤ) (e : ℕ) → nat_abs c ≤ 2 ^ 21 → 0 < e → e ≤ 2 ^ 21 → Light β 2 (Expr.op o (Expr.add x (Expr.const c)) e)
  unfolding atom_count
  divided-light o c e m p n =
      record {
        ranges = tree-ranges β (Expr.op o (Expr.add x (Expr.const c)) e) (room_small o c e m n);
        working = shifted-small β d k (omega (arith, variable-size)) o c e p (omega arith) (omega arith);
        atoms = omega arith;
      }

-- ---- one dimension

record Fine (x : Side) : Type 0 where
  bound : good_interval max_bound x.bound.lo x.bound.hi ≡ true
  tree : (β : Kind → ℕ → Range) (k : ℕ) → β d k ≡ x.bound → Light β 2 (x.tree (Expr.var d k))
  tests : (β : Kind → ℕ → Range) (k : ℕ) → β d k ≡ x.bound → AllTrees (Light β 2) (constraint_trees (x.tests (Expr.var d k)))
  intervals : (k : ℕ) → intervals_good (x.tests (Expr.var d k)) ≡ true
  few : (k : ℕ) → length (x.tests (Expr.var d k)) ≤ 1

-- without tests
plain-fine : (a b : ℕ) (f : Expr → Expr) → a ≤ b → b ≤ 2 ^ 21 → ((β : Kind → ℕ → Range) (k : ℕ) → Bound β k a b → Light β 2 (f (Expr.var d k)))
    → Fine (record { bound = span (pos a) (pos b); tree = f; tests = λ (x : Expr). [] })
unfolding AllTrees
plain-fine a b f h l t =
    record {
      bound = natural-interval a b h (omega arith);
      tree = λ β k e. t β k (record { is = e; low = omega arith; high = l });
      tests = λ β k e. tt;
      intervals = λ k. refl;
      few = λ k. omega arith;
    }

-- sizes, starts, limits, strides and shifts are at most 2^20
abbrev pub Sized : Axis → Type 0
Sized (Keep n) = n ≤ max_size
Sized (Flip n) = n ≤ max_size
Sized (Cut start lim stride) = (start < lim) × ((lim ≤ max_size) × ((0 < stride) × (stride ≤ max_size)))
Sized (Shift by n) = (by ≤ max_size) × (n ≤ max_size)

taken-few : (s l t : ℕ) → taken s l t - 1 ≤ l
taken-few s l t = omega (arith, div-le_self (l - 1 - s) t)

-- the last one taken lies below the limit
last-below : (s l t : ℕ) → s < l → s + (taken s l t - 1) * t < l
last-below s l t h =
    let q : taken s l t - 1 ≡ (l - 1 - s) / t = omega arith in
    omega (arith, div-add-mod' (l - 1 - s) t, ap (λ (m : ℕ). m * t) q)

out-fine : (a : Axis) → Sized a → Fine (out_side a)
out-fine (Keep n) h = plain-fine 0 (n - 1) _ (omega arith) (omega arith) (λ β k b. keep-light β k 0 (n - 1) b)
out-fine (Flip n) h =
    plain-fine 0 (n - 1) _ (omega arith) (omega arith) (λ β k b. scaled-light β k 0 (n - 1) b (negsuc 0) (pos (n - 1)) (omega arith) (omega arith))
out-fine (Cut start lim stride) h =
    let last = taken start lim stride - 1 in
    plain-fine 0 last _ (omega arith) (omega (arith, taken-few start lim stride, h.1.0))
    (λ β k b. scaled-light β k 0 last b (pos stride) (pos start) (omega (arith, h.1.1.1)) (omega (arith, h.0, h.1.0)))
out-fine (Shift by n) h =
    plain-fine by (by + (n - 1)) _ (omega arith) (omega (arith, h.0, h.1))
    (λ β k b. shifted-light β k by (by + (n - 1)) b (neg_ℤ (pos by)) (omega (arith, negative by, h.0)))

in-fine : (a : Axis) → Sized a → Fine (in_side a)
unfolding AllTrees
in-fine (Keep n) h = out-fine (Keep n) h
in-fine (Flip n) h = out-fine (Flip n) h
in-fine (Cut start lim stride) h =
    let last = start + (taken start lim stride - 1) * stride in
    let below : last < lim = last-below start lim stride h.0 in
    let above : start ≤ last = omega arith in
    let bounded : (β : Kind → ℕ → Range) (k : ℕ) → β d k ≡ span (pos start) (pos last) → Bound β k start last =
    λ β k e. record { is = e; low = omega (arith, h.1.0); high = omega (arith, h.1.0) } in
    let light : (o : Op) (β : Kind → ℕ → Range) (k : ℕ) → β d k ≡ span (pos start) (pos last) → Light β 2 (Expr.op o (less (Expr.var d k) start) stride) =
    λ o β k e.
    divided-light β k start last (bounded β k e) o (neg_ℤ (pos start)) stride (omega (arith, negative start, h.0, h.1.0)) h.1.1.0 (omega (arith, h.1.1.1)) in
    record {
      bound = natural-interval start last above (omega (arith, h.1.0));
      tree = λ β k e. light floordiv β k e;
      tests = λ β k e. (light modulo β k e, tt);
      intervals = λ k. refl;
      few = λ k. omega arith;
    }
in-fine (Shift by n) h =
    plain-fine 0 (n - 1) _ (omega arith) (omega (arith, h.1)) (λ β k b. shifted-light β k 0 (n - 1) b (pos by) (omega (arith, h.0)))

-- ---- all dimensions

abbrev AllSized : List Axis → Type 0
AllSized [] = Unit {0}
AllSized (a ∷ axs) = Sized a × AllSized axs

sized-append : (xs ys : List Axis) → AllSized xs → AllSized ys → AllSized (xs ++ ys)
sized-append [] ys h k = k
sized-append (x ∷ xs) ys h k = (h.0, sized-append xs ys h.1 k)

sized-listed : (f : ℕ → Axis) (n : ℕ) → ((k : ℕ) → k < n → Sized (f k)) → AllSized (listed f n)
unfolding listed
sized-listed f zero h = tt
sized-listed f (suc n) h = sized-append (listed f n) (f n ∷ []) (sized-listed f n (λ k l. h k (omega arith))) (h n (omega arith), tt)

intervals-append : (xs ys : List Constraint) → intervals_good xs ≡ true → intervals_good ys ≡ true → intervals_good (xs ++ ys) ≡ true
intervals-append [] ys h k = k
intervals-append (x ∷ xs) ys h k =
    let b = good_interval limit x.interval.lo x.interval.hi in
    and-true (and_left b (intervals_good xs) h) (intervals-append xs ys (and_right b (intervals_good xs) h) k)

module _ (f : Axis → Side) (fine : (a : Axis) → Sized a → Fine (f a)) where
  abbrev bounds_of : List Axis → List Range
  bounds_of axs = map (λ (x : Side). x.bound) (map f axs)

  sides-good : (axs : List Axis) → AllSized axs → GoodRanges (bounds_of axs)
  sides-good [] h = tt
  sides-good (a ∷ axs) h = ((fine a h.0).bound, sides-good axs h.1)

  record Sides (k : ℕ) (axs : List Axis) : Type 0 where
    intervals : intervals_good (side_tests (map f axs) k) ≡ true
    many : length (side_trees (map f axs) k) ≡ length axs
    few : length (side_tests (map f axs) k) ≤ length axs

  sides : (k : ℕ) (axs : List Axis) → AllSized axs → Sides k axs
  sides k [] h = record { intervals = refl; many = refl; few = omega arith }
  sides k (a ∷ axs) h =
      let t = fine a h.0 in
      let r = sides (suc k) axs h.1 in
      let x = (f a).tests (Expr.var d k) in
      let y = side_tests (map f axs) (suc k) in
      record {
        intervals = intervals-append x y (t.intervals k) r.intervals;
        many = ap suc r.many;
        few = omega (arith, length-append x y, t.few k, r.few);
      }

  module _ (β : Kind → ℕ → Range) where
    sides-light : (k : ℕ) (axs : List Axis) → AllSized axs → ((j : ℕ) → j < length axs → β d (k + j) ≡ range_at (bounds_of axs) j)
        → AllTrees (Light β 2) (side_trees (map f axs) k) × AllTrees (Light β 2) (constraint_trees (side_tests (map f axs) k))
    unfolding AllTrees
    sides-light k [] h g = (tt, tt)
    sides-light k (a ∷ axs) h g =
        let t = fine a h.0 in
        let z : k + 0 ≡ k = omega arith in
        let e : β d k ≡ (f a).bound = ap (β d) (sym z) ∙ g 0 (omega arith) in
        let r = sides-light (suc k) axs h.1 (λ j l. let b : suc k + j ≡ k + suc j = omega arith in ap (β d) b ∙ g (suc j) (omega arith)) in
        let x = (f a).tests (Expr.var d k) in
        let y = side_tests (map f axs) (suc k) in (
          (t.tree β k e, r.0),
          subst (AllTrees (Light β 2)) (sym (map-append (λ (c : Constraint). c.expr) x y))
              (all_append (Light β 2) (constraint_trees x) (constraint_trees y) (t.tests β k e) r.1),
        )

  sides-keep : (axs : List Axis) → AllSized axs → length axs ≤ max_rank → Keeps (side_map (map f axs))
  sides-keep axs h n =
      let e : length (bounds_of axs) ≡ length axs = length-map (map f axs) (λ (x : Side). x.bound) ∙ length-map axs f in
      let w = sides 0 axs h in
      record {
        dims = sides-good axs h;
        ranges = tt;
        intervals = w.intervals;
        most = 2;
        trees = λ β g.
            let r = sides-light β 0 axs h (λ j l. ap (β d) (zero-add j) ∙ g.dims j (omega arith)) in
            all_append (Light β 2) (side_trees (map f axs) 0) (constraint_trees (side_tests (map f axs) 0)) r.0 r.1;
        few = omega (arith, w.many, w.few);
      }

pub axes-keep : (f : ℕ → Axis) (n : ℕ) → n ≤ max_rank → ((k : ℕ) → k < n → Sized (f k)) → Keeps (axes_out (listed f n)) × Keeps (axes_in (listed f n))
unfolding axes_out axes_in
axes-keep f n l h =
    let each = sized-listed f n h in
    let few : length (listed f n) ≤ max_rank = omega (arith, listed-length f n) in
    (sides-keep out_side out-fine (listed f n) each few, sides-keep in_side in-fine (listed f n) each few)
