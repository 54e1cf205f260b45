-- Both maps of every operation name its pairs, before folding. Assumes nothing.
use Rattle.std.specs.Prelude.{Ok, Err}
use mathlib.Core.Path.{◌≡◌, refl, sym, ap, subst}
use mathlib.Core.Bool.{Bool, true, false, cond, ◌&&◌}
use mathlib.Core.List.{List, [], ◌∷◌, ◌++◌}
use Prim.Native.Nat.{ℕ, zero, suc, ◌+◌, ◌-◌, ◌^◌, ◌<◌, ◌≤◌}
use native.Mathlib.Nat.{add-zero, add-suc, add-sub_of_le}
use native.Mathlib.Omega.{arith}
use borrow.Author.Tests.{ltb-true, leb-true, eqb-true}
use lib.Dec.{ltb, leb, eqb}
use lib.ListN.{length, get_or, length-take, length-set}
use lib.Seq.{get_or-set_same}
use Rattle.radix.specs.Radix.{max_size, max_count, prod, is_within, Bounded}
use Rattle.radix.proofs.Tests.{and_left, and_right, every-at, bounded_of}
use Rattle.refusal.specs.Judge.{judge}
use Rattle.refusal.specs.declared.Refusal.TheVariants.{ShapeLimits, Attribute}
use Rattle.refusal.proofs.Judged.{kept, rest}
use Rattle.shape.specs.Shape.{max_rank, sizes_of, good_shape}
use Rattle.shape.specs.Dimensions.{in_range, free}
use Rattle.shape.specs.declared.Shape.{Shape}
use Rattle.shape.proofs.Permutations.{free-apart}
use Rattle.encoding.specs.Trees.{listed}
use Rattle.encoding.proofs.Listed.{listed-length}
use Rattle.operation_maps.specs.declared.Axis.{Axis}
use Rattle.operation_maps.specs.declared.Axis.TheVariants.{Keep, Flip, Cut, Shift}
use Rattle.map_builder.specs.Raw.{Raw, Fits}
use Rattle.operation_maps.specs.Points.{Means}
use Rattle.operation_maps.specs.Axes.{Sound, AllSound, axes_out, axes_in, axes_pairs}
use Rattle.operation_maps.specs.Reshape.{Positive}
use Rattle.operation_maps.specs.Lists.{select, is_listed}
use Rattle.operation_maps.specs.Selection.{select_map, spread_map, select_pairs, Choice}
use Rattle.operation_maps.specs.Operation.{good_operands, good_join, list_rules, Operation, max_operands, rank_of, kept_axes, reversed_axes, joined_axes, sliced_axes, joined_before, joined_sizes, good_sizes, kept_dims, operands, operand_sizes, no_shape, max_stride, good_cut, good_cuts, good_broadcast, operation_rules, output_to_input, input_to_output, Pairs}
use Rattle.operation_maps.proofs.AxesMean.{axes-out, axes-in}
use Rattle.operation_maps.proofs.ReshapeNamed.{reshape-out, reshape-in}
use Rattle.operation_maps.proofs.Fitted.{Small, AllSmall, choice-few, axes-out-fit, axes-in-fit, select-fit, spread-fit, reshape-fit}
use Rattle.operation_maps.proofs.SelectionNamed.{select-length, select-positive, others-choice, select-means, spread-means}

-- ---- shapes within their limits

pub record Limited (ns : List ℕ) : Type 0 where
  pub few : length ns ≤ max_rank
  pub sized : Bounded max_size ns
  pub counted : prod ns ≤ max_count

pub limited-of : (x : Shape) → good_shape x ≡ true → Limited (sizes_of x)
unfolding good_shape
limited-of x e =
    let a = and_left (leb x.rank max_rank) _ e in
    let b = and_right (leb x.rank max_rank) _ e in
    record {
      few = omega (arith, leb-true x.rank max_rank a, length-take x.rank x.sizes);
      sized = bounded_of max_size (sizes_of x) (and_left (is_within max_size (sizes_of x)) _ b);
      counted = leb-true (prod (sizes_of x)) max_count (and_right (is_within max_size (sizes_of x)) _ b);
    }

pub positive_of : (ns : List ℕ) → ((k : ℕ) → k < length ns → 0 < get_or ns k 0) → Positive ns
positive_of [] h = tt
positive_of (n ∷ ns) h = (h 0 (omega arith), positive_of ns (λ k l. h (suc k) (omega arith)))

pub limited-positive : (ns : List ℕ) → Limited ns → Positive ns
unfolding Bounded
limited-positive ns h = positive_of ns (λ k l. (h.sized k l).0)

-- ---- lists of dimensions

pub choice-of : (l : List ℕ) (n : ℕ) → in_range n l ≡ true → free l ≡ true → Choice l n
unfolding in_range
choice-of l n e f =
    record { inside = λ k h. ltb-true (get_or l k 0) n (every-at (λ (k : ℕ). ltb (get_or l k 0) n) (length l) e k h); apart = free-apart l f }

pub no-choice : (n : ℕ) → Choice [] n
no-choice n = record { inside = λ k h. absurd (omega arith); apart = λ i j g h q. absurd (omega arith) }

-- another cause of number 2 refuses before a repeat does
pub other-first : (l : List ℕ) → judge (list_rules true false l) ≡ Err Attribute
other-first l = refl

-- a list judged: the shapes, the other attributes and the list keep their rules
pub list-good : (s a : Bool) (l : List ℕ) → judge (list_rules s a l) ≡ Ok tt → (s ≡ true) × ((a ≡ true) × (free l ≡ true))
list-good s a l e =
    let f = rest s ShapeLimits _ e in
    (kept s ShapeLimits _ e, (kept a Attribute _ f, kept (free l) _ _ (rest a Attribute _ f)))

-- ---- dimensions one by one

sound-append : (xs ys : List Axis) → AllSound xs → AllSound ys → AllSound (xs ++ ys)
sound-append [] ys h k = k
sound-append (x ∷ xs) ys h k = (h.0, sound-append xs ys h.1 k)

pub sound-listed : (f : ℕ → Axis) (n : ℕ) → ((k : ℕ) → k < n → Sound (f k)) → AllSound (listed f n)
unfolding listed
sound-listed f zero h = tt
sound-listed f (suc n) h = sound-append (listed f n) (f n ∷ []) (sound-listed f n (λ k l. h k (omega arith))) (h n (omega arith), tt)

sound-either : (b : Bool) (x y : Axis) → Sound x → Sound y → Sound (cond b x y)
sound-either true x y h k = h
sound-either false x y h k = k

-- ---- an operation whose rules are kept: both maps name its pairs, and fit a record

pub record Right (op : Operation) : Type 0 where
  pub out : Means (output_to_input op) (Pairs op)
  pub inn : Means (input_to_output op) (λ (i o : List ℕ). Pairs op o i)
  pub out-fits : Fits (output_to_input op)
  pub in-fits : Fits (input_to_output op)

-- dimensions one by one: every dimension sound and small
record Dimensions (axs : List Axis) : Type 0 where
  sound : AllSound axs
  small : AllSmall axs
  few : length axs ≤ max_rank

small-append : (xs ys : List Axis) → AllSmall xs → AllSmall ys → AllSmall (xs ++ ys)
small-append [] ys h k = k
small-append (x ∷ xs) ys h k = (h.0, small-append xs ys h.1 k)

small-listed : (f : ℕ → Axis) (n : ℕ) → ((k : ℕ) → k < n → Small (f k)) → AllSmall (listed f n)
unfolding listed
small-listed f zero h = tt
small-listed f (suc n) h = small-append (listed f n) (f n ∷ []) (small-listed f n (λ k l. h k (omega arith))) (h n (omega arith), tt)

dimensions : (f : ℕ → Axis) (n : ℕ) → n ≤ max_rank → ((k : ℕ) → k < n → Sound (f k) × Small (f k)) → Dimensions (listed f n)
dimensions f n m h =
    record { sound = sound-listed f n (λ k l. (h k l).0); small = small-listed f n (λ k l. (h k l).1); few = omega (arith, m, listed-length f n) }

either : (b : Bool) (x y : Axis) → Sound x × Small x → Sound y × Small y → Sound (cond b x y) × Small (cond b x y)
either true x y h k = h
either false x y h k = k

-- sizes of a limited shape
module _ (ns : List ℕ) (g : Limited ns) where
  size_small : (k : ℕ) → k < length ns → (0 < get_or ns k 0) × (get_or ns k 0 ≤ 2 ^ 20)
  unfolding Bounded
  size_small k l = g.sized k l

  kept-dimensions : Dimensions (kept_axes ns)
  kept-dimensions = dimensions (λ (k : ℕ). Keep (get_or ns k 0)) (length ns) g.few (λ k l. ((size_small k l).0, tt))

  reversed-dimensions : (l : List ℕ) → Dimensions (reversed_axes ns l)
  reversed-dimensions l =
      dimensions (λ (k : ℕ). cond (is_listed l k) (Flip (get_or ns k 0)) (Keep (get_or ns k 0))) (length ns) g.few
      (λ k h. let z = size_small k h in either (is_listed l k) (Flip (get_or ns k 0)) (Keep (get_or ns k 0)) (z.0, omega (arith, z.1)) (z.0, tt))

  joined-dimensions : (dim by : ℕ) → by ≤ 2 ^ 40 → Dimensions (joined_axes ns dim by)
  joined-dimensions dim by m =
      dimensions (λ (k : ℕ). cond (eqb k dim) (Shift by (get_or ns k 0)) (Keep (get_or ns k 0))) (length ns) g.few
      (λ k h. let z = size_small k h in either (eqb k dim) (Shift by (get_or ns k 0)) (Keep (get_or ns k 0)) (z.0, m) (z.0, tt))

  cut-good : (n start lim stride : ℕ) → n ≤ 2 ^ 20 → good_cut n start lim stride ≡ true → ((0 < stride) × (start < lim)) × ((start ≤ 2 ^ 40) × ((0 < stride) × (stride ≤ 2 ^ 40)))
  cut-good n start lim stride m e =
      let a = ltb-true start lim (and_left (ltb start lim) _ e) in
      let e1 = and_right (ltb start lim) _ e in
      let b = leb-true lim n (and_left (leb lim n) _ e1) in
      let e2 = and_right (leb lim n) _ e1 in
      let c = leb-true 1 stride (and_left (leb 1 stride) _ e2) in
      let f = leb-true stride max_stride (and_right (leb 1 stride) _ e2) in
      ((c, a), (omega arith, (c, omega arith)))

  sliced-dimensions : (starts limits strides : List ℕ) → good_cuts ns starts limits strides ≡ true → Dimensions (sliced_axes ns starts limits strides)
  sliced-dimensions starts limits strides e =
      dimensions (λ (k : ℕ). Cut (get_or starts k 0) (get_or limits k 0) (get_or strides k 0)) (length ns) g.few
      (λ k h.
      cut-good (get_or ns k 0) (get_or starts k 0) (get_or limits k 0) (get_or strides k 0) (size_small k h).1
      (every-at (λ (k : ℕ). good_cut (get_or ns k 0) (get_or starts k 0) (get_or limits k 0) (get_or strides k 0)) (length ns)
      (and_right (eqb (length starts) (length ns) && (eqb (length limits) (length ns) && eqb (length strides) (length ns))) _ e) k h))

-- ---- one operation after another

axes-right : (axs : List Axis) → Dimensions axs → (op : Operation) → output_to_input op ≡ axes_out axs → input_to_output op ≡ axes_in axs → Pairs op ≡ axes_pairs axs → Right op
axes-right axs h op a b c =
    record {
      out = subst (λ (m : Raw). Means m (Pairs op)) (sym a) (rw c (axes-out axs h.sound));
      inn = subst (λ (m : Raw). Means m (λ (i o : List ℕ). Pairs op o i)) (sym b) (rw c (axes-in axs h.sound));
      out-fits = subst Fits (sym a) (axes-out-fit axs h.small h.few);
      in-fits = subst Fits (sym b) (axes-in-fit axs h.small h.few);
    }

-- the larger point is the input's, or the output's
record Selects (l ns : List ℕ) : Type 0 where
  down : Means (select_map l ns) (select_pairs l ns)
  up : Means (spread_map l ns) (λ (small large : List ℕ). select_pairs l ns large small)
  down_fits : Fits (select_map l ns)
  up_fits : Fits (spread_map l ns)

selects : (l ns : List ℕ) → Positive ns → length ns ≤ max_rank → Choice l (length ns) → Selects l ns
selects l ns g n c =
    record { down = select-means l ns g; up = spread-means l ns g c; down_fits = select-fit l ns n c; up_fits = spread-fit l ns n c }

-- the operand asked for
module _ (count : ℕ) (held : List Shape) (dim : ℕ) where
  joined-next : (j : ℕ) → joined_before count held dim j ≤ joined_before count held dim (suc j)
  unfolding joined_before
  joined-next j = omega arith

  joined-grows : (j k : ℕ) → joined_before count held dim j ≤ joined_before count held dim (j + k)
  joined-grows j zero = omega (arith, ap (joined_before count held dim) (add-zero j))
  joined-grows j (suc k) = omega (arith, joined-grows j k, ap (joined_before count held dim) (add-suc j k), joined-next (j + k))

  pub joined-up : (j : ℕ) → j ≤ count → joined_before count held dim j ≤ joined_before count held dim count
  joined-up j h = omega (arith, joined-grows j (count - j), ap (joined_before count held dim) (add-sub_of_le h))

  pub joined_small : dim < length (operand_sizes count held 0) → good_sizes (joined_sizes count held dim) ≡ true → joined_before count held dim count ≤ 2 ^ 20
  unfolding Bounded
  joined_small l e =
      let ns = joined_sizes count held dim in
      let w = bounded_of max_size ns (and_left (is_within max_size ns) _ (and_right (leb (length ns) max_rank) _ e)) in
      omega (arith, (w dim (omega (arith, length-set (operand_sizes count held 0) dim (joined_before count held dim count), l))).1, get_or-set_same (operand_sizes count held 0) dim (joined_before count held dim count) 0 l)

-- operands that may be joined
pub record Joins (count : ℕ) (held : List Shape) (dim j : ℕ) : Type 0 where
  pub one : 0 < count
  pub few : count ≤ max_operands
  pub held_all : count ≤ length held
  pub dimension : dim < length (operand_sizes count held 0)
  pub asked : j < count

pub joins_of : (count : ℕ) (held : List Shape) (dim j : ℕ) → good_join count held dim j ≡ true → Joins count held dim j
joins_of count held dim j e =
    let counts = leb 1 count && (leb count max_operands && leb count (length held)) in
    let rank = length (operand_sizes count held 0) in
    let a = and_left counts _ e in
    let b = and_right (leb 1 count) _ a in
    let p = and_right counts _ e in
    record {
      one = leb-true 1 count (and_left (leb 1 count) _ a);
      few = leb-true count max_operands (and_left (leb count max_operands) _ b);
      held_all = leb-true count (length held) (and_right (leb count max_operands) _ b);
      dimension = ltb-true dim rank (and_left (ltb dim rank) _ p);
      asked = ltb-true j count (and_left (ltb j count) _ (and_right (ltb dim rank) _ p));
    }

-- the operand asked for: its sizes keep their limits, and so does what stands before it
pub record Operand (count : ℕ) (held : List Shape) (dim j : ℕ) : Type 0 where
  pub sizes : Limited (operand_sizes count held j)
  pub by : joined_before count held dim j ≤ max_size

pub operand : (count : ℕ) (held : List Shape) (dim j : ℕ) → judge (operation_rules (Operation.concatenate count held dim j)) ≡ Ok tt → Operand count held dim j
operand count held dim j e =
    let good_at : ℕ → Bool = λ (k : ℕ). good_shape (get_or (operands count held) k no_shape) in
    let e1 = rest (good_operands count held) ShapeLimits _ e in
    let t = joins_of count held dim j (kept (good_join count held dim j) Attribute _ e1) in
    let z = kept (good_sizes (joined_sizes count held dim)) ShapeLimits _ (rest (good_join count held dim j) Attribute _ e1) in
    let l : j < length (operands count held) = omega (arith, t.asked, t.held_all, length-take count held) in
    record {
      sizes = limited-of (get_or (operands count held) j no_shape) (every-at good_at (length (operands count held)) (kept (good_operands count held) ShapeLimits _ e) j l);
      by = omega (arith, joined-up count held dim j (omega (arith, t.asked)), joined_small count held dim t.dimension z);
    }

pub right : (op : Operation) → judge (operation_rules op) ≡ Ok tt → Right op
right (Operation.elementwise x) e =
    axes-right (kept_axes (sizes_of x)) (kept-dimensions (sizes_of x) (limited-of x (kept (good_shape x) ShapeLimits _ e))) (Operation.elementwise x) refl refl refl
right (Operation.broadcast x y l) e =
    let t = list-good (good_shape x && good_shape y) (good_broadcast (sizes_of x) (sizes_of y) l) l e in
    let g = limited-of y (and_right (good_shape x) (good_shape y) t.0) in
    let r = and_left (in_range (length (sizes_of y)) l) _ (and_right (eqb (length l) (length (sizes_of x))) _ t.1.0) in
    let w = selects l (sizes_of y) (limited-positive (sizes_of y) g) g.few (choice-of l (rank_of y) r t.1.1) in
    record { out = w.down; inn = w.up; out-fits = w.down_fits; in-fits = w.up_fits }
right (Operation.transpose x l) e =
    let t = list-good (good_shape x) (eqb (length l) (rank_of x) && in_range (rank_of x) l) l e in
    let g = limited-of x t.0 in
    let w = selects l (sizes_of x) (limited-positive (sizes_of x) g) g.few (choice-of l (rank_of x) (and_right (eqb (length l) (rank_of x)) _ t.1.0) t.1.1) in
    record { out = w.up; inn = w.down; out-fits = w.up_fits; in-fits = w.down_fits }
right (Operation.reverse x l) e =
    axes-right (reversed_axes (sizes_of x) l) (reversed-dimensions (sizes_of x) (limited-of x (kept (good_shape x) ShapeLimits _ e)) l) (Operation.reverse x l) refl refl refl
right (Operation.concatenate count held dim j) e =
    let h = operand count held dim j e in
    let by = joined_before count held dim j in
    axes-right (joined_axes (operand_sizes count held j) dim by) (joined-dimensions (operand_sizes count held j) h.sizes dim by (omega (arith, h.by))) (Operation.concatenate count held dim j) refl refl refl
right (Operation.reduce x l) e =
    let g = limited-of x (kept (good_shape x) ShapeLimits _ e) in
    let w = selects (kept_dims x l) (sizes_of x) (limited-positive (sizes_of x) g) g.few (others-choice l (rank_of x)) in
    record { out = w.up; inn = w.down; out-fits = w.up_fits; in-fits = w.down_fits }
right (Operation.reduce_init x l) e =
    let g = limited-of x (kept (good_shape x) ShapeLimits _ e) in
    let c = others-choice l (rank_of x) in
    let ns = select (kept_dims x l) (sizes_of x) in
    let n : length ns ≤ max_rank = omega (arith, select-length (kept_dims x l) (sizes_of x), choice-few (kept_dims x l) (rank_of x) c, g.few) in
    let w = selects [] ns (select-positive (kept_dims x l) (sizes_of x) (limited-positive (sizes_of x) g) c.inside) n (no-choice (length ns)) in
    record { out = w.down; inn = w.up; out-fits = w.down_fits; in-fits = w.up_fits }
right (Operation.slice x starts limits strides) e =
    let e1 = rest (good_shape x) ShapeLimits _ e in
    axes-right (sliced_axes (sizes_of x) starts limits strides)
    (sliced-dimensions (sizes_of x) (limited-of x (kept (good_shape x) ShapeLimits _ e)) starts limits strides (kept (good_cuts (sizes_of x) starts limits strides) Attribute _ e1))
    (Operation.slice x starts limits strides) refl refl refl
right (Operation.reshape x y) e =
    let e1 = rest (good_shape x && good_shape y) ShapeLimits _ e in
    let b = kept (good_shape x && good_shape y) ShapeLimits _ e in
    let gx = limited-of x (and_left (good_shape x) (good_shape y) b) in
    let gy = limited-of y (and_right (good_shape x) (good_shape y) b) in
    let px = limited-positive (sizes_of x) gx in
    let py = limited-positive (sizes_of y) gy in
    let s : prod (sizes_of y) ≡ prod (sizes_of x) = sym (eqb-true (prod (sizes_of x)) (prod (sizes_of y)) (kept (eqb (prod (sizes_of x)) (prod (sizes_of y))) Attribute _ e1)) in
    record {
      out = reshape-out (sizes_of y) (sizes_of x) py px s;
      inn = reshape-in (sizes_of y) (sizes_of x) py px s;
      out-fits = reshape-fit (sizes_of y) (sizes_of x) gy.few gx.few py px gy.counted gx.counted;
      in-fits = reshape-fit (sizes_of x) (sizes_of y) gx.few gy.few px py gx.counted gy.counted;
    }
