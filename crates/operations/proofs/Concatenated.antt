-- Concatenation: what is judged, and what the map asks for. Assumes nothing.
use Rattle.std.specs.Prelude.{Ok}
use mathlib.Core.Path.{◌≡◌, sym, ap, ap₂, ◌∙◌}
use mathlib.Core.Bool.{Bool, true, false, ◌&&◌}
use mathlib.Core.List.{List, [], map}
use Prim.Native.Nat.{ℕ, zero, suc, ◌+◌, ◌*◌, ◌<◌, ◌≤◌, min}
use native.Mathlib.Numerals.{add-one}
use native.Mathlib.Omega.{arith}
use lib.Dec.{leb}
use lib.ListN.{length, get_or, take, set, length-take, length-set, length-map}
use lib.Seq.{get_or-take, take-set-lt}
use Rattle.radix.specs.Radix.{max_size, max_count, prod, is_within, Upto}
use Rattle.radix.proofs.Tests.{every-all, every-not, every-at, upto-bounded}
use Rattle.refusal.specs.Judge.{judge}
use Rattle.refusal.specs.declared.Refusal.TheVariants.{ShapeLimits, Attribute}
use Rattle.refusal.proofs.Judged.{kept, rest}
use Rattle.shape.specs.Shape.{max_rank, sizes_of, good_shape}
use Rattle.shape.specs.declared.Shape.{Shape}
use Rattle.shape.proofs.Limits.{limits}
use Rattle.operation_maps.specs.declared.Way.{Way}
use Rattle.operation_maps.specs.declared.Way.TheVariants.{OutputToInput, InputToOutput}
use Rattle.operations.specs.declared.Operands.{Operands}
use Rattle.operation_builder.specs.declared.Change.TheVariants.{Joined}
use Rattle.map_builder.specs.Raw.{encoded}
use Rattle.operation_maps.specs.Axes.{axes_out, axes_in}
use Rattle.operation_builder.specs.Family.{axes_raw, is_out}
use Rattle.operation_builder.specs.AxisDraft.{AllReady}
use Rattle.operation_maps.specs.Operation.{Operation, max_operands, no_shape, operands, operand_sizes, joined_before, joined_sizes, alike, all_alike, good_sizes, good_operands, good_join, operation_rules, raw_of}
use Rattle.operations.specs.Join.{GoodOperands, Some}
use Rattle.operation_maps.proofs.Meaning.{limited-of, joined-up, joined_small, joins_of}
use Rattle.operations.proofs.Changed.{joined-ready}

-- an array of records stands at a map over its list
pub mapped-long : (A B : Type 0) (f : A → B) (l : List A) (n : ℕ) → length (map f l) ≡ n → length l ≡ n
mapped-long A B f l n e = sym (length-map l f) ∙ e

module _ (x : Operands) (eight : length x.shapes ≡ max_operands) where
  abbrev held : ℕ → Shape
  held k = get_or x.shapes k no_shape

  abbrev good_at : ℕ → Bool
  good_at k = good_shape (get_or (operands x.count x.shapes) k no_shape)

  counted : length (operands x.count x.shapes) ≡ min x.count max_operands
  counted = length-take x.count x.shapes ∙ ap (min x.count) eight

  operand-is : (k : ℕ) → k < x.count → get_or (operands x.count x.shapes) k no_shape ≡ held k
  operand-is k h = get_or-take x.count x.shapes k no_shape h

  below : (k : ℕ) → k < min x.count max_operands → (k < x.count) × (k < max_operands)
  below k h = (omega (arith, h), omega (arith, h))

  pub operands-bad : (k n : ℕ) → n ≡ min x.count max_operands → k < n → good_shape (held k) ≡ false → false ≡ good_operands x.count x.shapes
  operands-bad k n e h b =
      sym (every-not good_at (length (operands x.count x.shapes)) k (omega (arith, counted, e, h)) (ap good_shape (operand-is k (below k (omega (arith, e, h))).0) ∙ b))

  pub operands-good : (n : ℕ) → n ≡ min x.count max_operands → ((k : ℕ) → k < n → good_shape (held k) ≡ true) → true ≡ good_operands x.count x.shapes
  operands-good n e h =
      sym (every-all good_at (length (operands x.count x.shapes)) (λ k l. let q : k < min x.count max_operands = omega (arith, l, counted) in ap good_shape (operand-is k (below k q).0) ∙ h k (omega (arith, q, e))))

  pub good-operands : good_operands x.count x.shapes ≡ true → GoodOperands x
  good-operands e k h l =
      sym (ap good_shape (operand-is k h)) ∙ every-at good_at (length (operands x.count x.shapes)) e k (omega (arith, h, l, counted))

  -- ---- the sizes of an operand

  pub sizes-is : (k : ℕ) → k < x.count → operand_sizes x.count x.shapes k ≡ sizes_of (held k)
  sizes-is k h = ap sizes_of (operand-is k h)

  pub good-at : Some x → (k : ℕ) → k < x.count → good_shape (held k) ≡ true
  good-at s k h = s.good k h (omega (arith, h, s.few))

  size_small : Some x → (k dim : ℕ) → k < x.count → get_or (operand_sizes x.count x.shapes k) dim 0 ≤ max_size
  unfolding Upto
  size_small s k dim h =
      let w = upto-bounded max_size (sizes_of (held k)) (limited-of (held k) (good-at s k h)).sized dim in
      omega (arith, w, ap (λ (l : List ℕ). get_or l dim 0) (sizes-is k h))

  pub sum-small : Some x → (dim k : ℕ) → k ≤ x.count → joined_before x.count x.shapes dim k ≤ k * max_size
  unfolding joined_before
  sum-small s dim zero h = omega arith
  sum-small s dim (suc k) h = omega (arith, sum-small s dim k (omega arith), size_small s k dim (omega arith))

  pub sum-next : (dim k m n : ℕ) (y : Shape) → k < x.count → m ≡ joined_before x.count x.shapes dim k → y ≡ held k → n ≡ get_or (sizes_of y) dim 0 → m + n ≡ joined_before x.count x.shapes dim (k + 1)
  unfolding joined_before
  sum-next dim k m n y h e f g =
      ap₂ ◌+◌ e (g ∙ ap (λ (s : Shape). get_or (sizes_of s) dim 0) f ∙ sym (ap (λ (l : List ℕ). get_or l dim 0) (sizes-is k h)))
      ∙ ap (joined_before x.count x.shapes dim) (sym (add-one k))

  pub sum_room : Some x → (dim k n : ℕ) (y : Shape) → k < x.count → y ≡ held k → n ≡ get_or (sizes_of y) dim 0 → n ≤ max_size
  sum_room s dim k n y h f g =
      omega (arith, g ∙ ap (λ (s : Shape). get_or (sizes_of s) dim 0) f ∙ sym (ap (λ (l : List ℕ). get_or l dim 0) (sizes-is k h)), size_small s k dim h)

  -- ---- operands alike

  abbrev alike_at : ℕ → ℕ → Bool
  alike_at dim k = alike dim (operand_sizes x.count x.shapes 0) (operand_sizes x.count x.shapes k)

  pub alike_is : (dim k : ℕ) (y z : Shape) → k < x.count → y ≡ held 0 → z ≡ held k → alike dim (sizes_of y) (sizes_of z) ≡ alike_at dim k
  alike_is dim k y z h e f =
      ap₂ (λ (a b : Shape). alike dim (sizes_of a) (sizes_of b)) e f ∙ sym (ap₂ (alike dim) (sizes-is 0 (omega (arith, h))) (sizes-is k h))

  pub all-not : (dim k : ℕ) → k < x.count → alike_at dim k ≡ false → false ≡ all_alike x.count x.shapes dim
  all-not dim k h e = sym (every-not (alike_at dim) x.count k h e)

  pub all_are : (dim : ℕ) → ((k : ℕ) → k < x.count → alike_at dim k ≡ true) → true ≡ all_alike x.count x.shapes dim
  all_are dim h = sym (every-all (alike_at dim) x.count h)

  -- ---- the rank of the first, and the result

  pub first-rank : (y : Shape) → 0 < x.count → y ≡ held 0 → length y.sizes ≡ max_rank → good_shape (held 0) ≡ true → length (operand_sizes x.count x.shapes 0) ≡ y.rank
  first-rank y h e l g = ap length (sizes-is 0 h ∙ ap sizes_of (sym e)) ∙ (limits y l (ap good_shape e ∙ g)).long

  pub result-is : (dim m : ℕ) (y : Shape) → 0 < x.count → y ≡ held 0 → length (sizes_of y) ≡ y.rank → dim < y.rank → m ≡ joined_before x.count x.shapes dim x.count
      → good_shape (record { rank = y.rank; sizes = set y.sizes dim m }) ≡ good_sizes (joined_sizes x.count x.shapes dim)
  unfolding good_shape
  result-is dim m y h e l d f =
      let q : take y.rank (set y.sizes dim m) ≡ joined_sizes x.count x.shapes dim =
      take-set-lt y.rank y.sizes dim m d ∙ ap₂ (λ (l : List ℕ) (n : ℕ). set l dim n) (ap sizes_of e ∙ sym (sizes-is 0 h)) f in
      let r : y.rank ≡ length (joined_sizes x.count x.shapes dim) =
      sym (ap length (sym q ∙ take-set-lt y.rank y.sizes dim m d) ∙ length-set (sizes_of y) dim m ∙ l) in
      ap₂ (λ (n : ℕ) (ns : List ℕ). leb n max_rank && (is_within max_size ns && leb (prod ns) max_count)) r q

-- ---- a judged concatenation

pub record Judged (x : Operands) (dim j : ℕ) : Type 0 where
  pub some : Some x
  pub inside : j < x.count
  pub dimension : dim < length (operand_sizes x.count x.shapes 0)
  pub by : joined_before x.count x.shapes dim j ≤ max_size

pub join-some : (x : Operands) (dim j : ℕ) → GoodOperands x → good_join x.count x.shapes dim j ≡ true
    → Some x × ((j < x.count) × (dim < length (operand_sizes x.count x.shapes 0)))
join-some x dim j g e = let t = joins_of x.count x.shapes dim j e in (record { good = g; one = t.one; few = t.few }, (t.asked, t.dimension))

pub concatenate-judged : (x : Operands) (dim j : ℕ) → length x.shapes ≡ max_operands → judge (operation_rules (Operation.concatenate x.count x.shapes dim j)) ≡ Ok tt → Judged x dim j
concatenate-judged x dim j eight e =
    let e1 = rest (good_operands x.count x.shapes) ShapeLimits _ e in
    let g = good-operands x eight (kept (good_operands x.count x.shapes) ShapeLimits _ e) in
    let s = join-some x dim j g (kept (good_join x.count x.shapes dim j) Attribute _ e1) in
    let z = kept (good_sizes (joined_sizes x.count x.shapes dim)) ShapeLimits _ (rest (good_join x.count x.shapes dim j) Attribute _ e1) in
    record {
      some = s.0;
      inside = s.1.0;
      dimension = s.1.1;
      by = omega (arith, joined-up x.count x.shapes dim j (omega (arith, s.1.0)), joined_small x.count x.shapes dim s.1.1 z);
    }

pub joined-good : (x : Operands) (dim j by : ℕ) (y : Shape) → length x.shapes ≡ max_operands → Judged x dim j → by ≡ joined_before x.count x.shapes dim j → y ≡ get_or x.shapes j no_shape
    → (good_shape y ≡ true) × AllReady (Joined dim by) (sizes_of y) [] [] []
joined-good x dim j by y eight h e f =
    let g = ap good_shape f ∙ good-at x eight h.some j h.inside in
    (g, joined-ready (sizes_of y) (limited-of y g) dim by (omega (arith, e, h.by)) [] [] [])

pub joined_made : (x : Operands) (dim j by : ℕ) (y : Shape) (out : Bool) → length x.shapes ≡ max_operands → j < x.count → by ≡ joined_before x.count x.shapes dim j → y ≡ get_or x.shapes j no_shape
    → encoded (axes_raw out (Joined dim by) (sizes_of y) [] [] []) ≡ encoded (axes_raw out (Joined dim (joined_before x.count x.shapes dim j)) (operand_sizes x.count x.shapes j) [] [] [])
joined_made x dim j by y out eight h e f =
    ap₂ (λ (n : ℕ) (ns : List ℕ). encoded (axes_raw out (Joined dim n) ns [] [] [])) e (ap sizes_of f ∙ sym (sizes-is x eight j h))

pub concatenate-way : (way : Way) (b : Bool) → b ≡ is_out way → (x : Operands) (dim j : ℕ)
    → encoded (axes_raw b (Joined dim (joined_before x.count x.shapes dim j)) (operand_sizes x.count x.shapes j) [] [] []) ≡ encoded (raw_of way (Operation.concatenate x.count x.shapes dim j))
unfolding axes_out axes_in
concatenate-way OutputToInput b e x dim j = ap (λ (b : Bool). encoded (axes_raw b (Joined dim (joined_before x.count x.shapes dim j)) (operand_sizes x.count x.shapes j) [] [] [])) e
concatenate-way InputToOutput b e x dim j = ap (λ (b : Bool). encoded (axes_raw b (Joined dim (joined_before x.count x.shapes dim j)) (operand_sizes x.count x.shapes j) [] [] [])) e
