-- An operation whose own rules are kept is never refused by folding, either way: its rules alone decide. Assumes nothing.
use Rattle.std.specs.Prelude.{Ok, Err}
use mathlib.Core.Path.{◌≡◌, refl, sym, ◌∙◌}
use mathlib.Core.Bool.{Bool, true, false, ◌&&◌, cond}
use mathlib.Core.List.{List, [], ◌++◌}
use Prim.Native.Nat.{ℕ, ◌<◌, ◌≤◌}
use native.Mathlib.Omega.{arith}
use borrow.Author.Tests.{leb-true, ltb-true}
use lib.Dec.{leb, ltb, eqb}
use lib.ListN.{length, get_or}
use Rattle.refusal.specs.Judge.{judge}
use Rattle.refusal.specs.declared.Refusal.TheVariants.{ShapeLimits, Attribute}
use Rattle.refusal.specs.Judge.{Verdict}
use Rattle.refusal.proofs.Judged.{kept, rest, after-done, after-refused}
use Rattle.radix.specs.Radix.{max_size, Bounded}
use Rattle.radix.proofs.Tests.{and_left, and_right, every-at}
use Rattle.shape.specs.Shape.{max_rank, sizes_of, good_shape}
use Rattle.shape.specs.Dimensions.{in_range}
use Rattle.fold.specs.FoldMap.{fold_rules}
use Rattle.operation_maps.specs.declared.Axis.{Axis}
use Rattle.operation_maps.specs.declared.Axis.TheVariants.{Keep, Flip, Cut, Shift}
use Rattle.operation_maps.specs.declared.Way.{Way}
use Rattle.operation_maps.specs.declared.Way.TheVariants.{OutputToInput, InputToOutput}
use Rattle.map_builder.specs.Raw.{encoded}
use Rattle.operation_maps.specs.Lists.{select, is_listed}
use Rattle.operation_maps.specs.Selection.{select_map, spread_map, Choice}
use Rattle.operation_maps.specs.Operation.{Operation, rank_of, kept_dims, operand_sizes, joined_before, max_stride, good_cut, good_cuts, good_broadcast, operation_rules, output_to_input, input_to_output, raw_of}
use Rattle.operation_maps.proofs.SelectionNamed.{select-at, select-length, others-choice}
use Rattle.operation_maps.proofs.Fitted.{choice-few}
use Rattle.operation_maps.proofs.Meaning.{Limited, limited-of, limited-positive, choice-of, no-choice, list-good, operand, right}
use Rattle.operation_maps.proofs.Limits.{Keeps, not-refused}
use Rattle.operation_maps.proofs.LimitsSelection.{select-keeps, spread-keeps}
use Rattle.operation_maps.proofs.LimitsReshape.{reshape-keeps}
use Rattle.operation_maps.proofs.LimitsAxes.{Sized, axes-keep}

-- ---- both maps of each family keep folding's limits

sized : (ns : List ℕ) → Limited ns → (k : ℕ) → k < length ns → get_or ns k 0 ≤ max_size
unfolding Bounded
sized ns g k l = (g.sized k l).1

either : (b : Bool) (x y : Axis) → Sized x → Sized y → Sized (cond b x y)
either true x y h k = h
either false x y h k = k

module _ (ns : List ℕ) (g : Limited ns) where
  kept-sized : (k : ℕ) → k < length ns → Sized (Keep (get_or ns k 0))
  kept-sized k l = sized ns g k l

  reversed-sized : (js : List ℕ) (k : ℕ) → k < length ns → Sized (cond (is_listed js k) (Flip (get_or ns k 0)) (Keep (get_or ns k 0)))
  reversed-sized js k l = either (is_listed js k) (Flip (get_or ns k 0)) (Keep (get_or ns k 0)) (sized ns g k l) (sized ns g k l)

  joined-sized : (dim by : ℕ) → by ≤ max_size → (k : ℕ) → k < length ns → Sized (cond (eqb k dim) (Shift by (get_or ns k 0)) (Keep (get_or ns k 0)))
  joined-sized dim by m k l = either (eqb k dim) (Shift by (get_or ns k 0)) (Keep (get_or ns k 0)) (m, sized ns g k l) (sized ns g k l)

  cut-sized : (n start lim stride : ℕ) → n ≤ max_size → good_cut n start lim stride ≡ true → Sized (Cut start lim stride)
  cut-sized n start lim stride m e =
      let a = ltb-true start lim (and_left (ltb start lim) _ e) in
      let e1 = and_right (ltb start lim) _ e in
      let b = leb-true lim n (and_left (leb lim n) _ e1) in
      let e2 = and_right (leb lim n) _ e1 in
      (a, (omega arith, (leb-true 1 stride (and_left (leb 1 stride) _ e2), leb-true stride max_stride (and_right (leb 1 stride) _ e2))))

  sliced-sized : (starts limits strides : List ℕ) → good_cuts ns starts limits strides ≡ true
      → (k : ℕ) → k < length ns → Sized (Cut (get_or starts k 0) (get_or limits k 0) (get_or strides k 0))
  sliced-sized starts limits strides e k l =
      cut-sized (get_or ns k 0) (get_or starts k 0) (get_or limits k 0) (get_or strides k 0) (sized ns g k l)
      (every-at (λ (k : ℕ). good_cut (get_or ns k 0) (get_or starts k 0) (get_or limits k 0) (get_or strides k 0)) (length ns)
      (and_right (eqb (length starts) (length ns) && (eqb (length limits) (length ns) && eqb (length strides) (length ns))) _ e) k l)

  -- the map to the smaller point and the one to the larger
  selects : (l : List ℕ) → Choice l (length ns) → Keeps (select_map l ns) × Keeps (spread_map l ns)
  selects l c = (select-keeps l ns g.few (sized ns g) c, spread-keeps l ns g.few (sized ns g) c)

-- ---- one operation after another

abbrev Both : Operation → Type 0
Both op = Keeps (output_to_input op) × Keeps (input_to_output op)

keep-both : (op : Operation) → judge (operation_rules op) ≡ Ok tt → Both op
keep-both (Operation.elementwise x) e =
    let g = limited-of x (kept (good_shape x) ShapeLimits _ e) in
    axes-keep (λ (k : ℕ). Keep (get_or (sizes_of x) k 0)) (rank_of x) g.few (kept-sized (sizes_of x) g)
keep-both (Operation.broadcast x y l) e =
    let h = list-good (good_shape x && good_shape y) (good_broadcast (sizes_of x) (sizes_of y) l) l e in
    let r = and_left (in_range (rank_of y) l) _ (and_right (eqb (length l) (rank_of x)) _ h.1.0) in
    selects (sizes_of y) (limited-of y (and_right (good_shape x) (good_shape y) h.0)) l (choice-of l (rank_of y) r h.1.1)
keep-both (Operation.transpose x l) e =
    let h = list-good (good_shape x) (eqb (length l) (rank_of x) && in_range (rank_of x) l) l e in
    let w = selects (sizes_of x) (limited-of x h.0) l (choice-of l (rank_of x) (and_right (eqb (length l) (rank_of x)) _ h.1.0) h.1.1) in
    (w.1, w.0)
keep-both (Operation.reverse x l) e =
    let g = limited-of x (kept (good_shape x) ShapeLimits _ e) in
    axes-keep (λ (k : ℕ). cond (is_listed l k) (Flip (get_or (sizes_of x) k 0)) (Keep (get_or (sizes_of x) k 0))) (rank_of x) g.few (reversed-sized (sizes_of x) g l)
keep-both (Operation.concatenate count held dim j) e =
    let h = operand count held dim j e in
    let ns = operand_sizes count held j in
    let by = joined_before count held dim j in
    axes-keep (λ (k : ℕ). cond (eqb k dim) (Shift by (get_or ns k 0)) (Keep (get_or ns k 0))) (length ns) h.sizes.few (joined-sized ns h.sizes dim by h.by)
keep-both (Operation.reduce x l) e =
    let g = limited-of x (kept (good_shape x) ShapeLimits _ e) in
    let w = selects (sizes_of x) g (kept_dims x l) (others-choice l (rank_of x)) in
    (w.1, w.0)
keep-both (Operation.reduce_init x l) e =
    let g = limited-of x (kept (good_shape x) ShapeLimits _ e) in
    let c = others-choice l (rank_of x) in
    let js = kept_dims x l in
    let ns = select js (sizes_of x) in
    let n : length ns ≡ length js = select-length js (sizes_of x) in
    let few : length ns ≤ max_rank = omega (arith, choice-few js (rank_of x) c, g.few) in
    let h : (k : ℕ) → k < length ns → get_or ns k 0 ≤ max_size =
    λ k i. let j : k < length js = omega arith in omega (arith, select-at js (sizes_of x) k j, sized (sizes_of x) g (get_or js k 0) (c.inside k j)) in
    (select-keeps [] ns few h (no-choice (length ns)), spread-keeps [] ns few h (no-choice (length ns)))
keep-both (Operation.slice x starts limits strides) e =
    let g = limited-of x (kept (good_shape x) ShapeLimits _ e) in
    let c = kept (good_cuts (sizes_of x) starts limits strides) Attribute _ (rest (good_shape x) ShapeLimits _ e) in
    axes-keep (λ (k : ℕ). Cut (get_or starts k 0) (get_or limits k 0) (get_or strides k 0)) (rank_of x) g.few (sliced-sized (sizes_of x) g starts limits strides c)
keep-both (Operation.reshape x y) e =
    let b = kept (good_shape x && good_shape y) ShapeLimits _ e in
    let gx = limited-of x (and_left (good_shape x) (good_shape y) b) in
    let gy = limited-of y (and_right (good_shape x) (good_shape y) b) in
    let px = limited-positive (sizes_of x) gx in
    let py = limited-positive (sizes_of y) gy in (
      reshape-keeps (sizes_of y) (sizes_of x) gy.few gx.few py px (sized (sizes_of y) gy) gy.counted gx.counted,
      reshape-keeps (sizes_of x) (sizes_of y) gx.few gy.few px py (sized (sizes_of x) gx) gx.counted gy.counted,
    )

-- ---- the rules of folding

-- Neither map of an operation whose rules are kept breaks a rule of folding: 2, 7 or 8.
pub folds-kept : (way : Way) (op : Operation) → judge (operation_rules op) ≡ Ok tt → judge (fold_rules (encoded (raw_of way op))) ≡ Ok tt
folds-kept OutputToInput op e = not-refused (output_to_input op) (right op e).out-fits (keep-both op e).0
folds-kept InputToOutput op e = not-refused (input_to_output op) (right op e).in-fits (keep-both op e).1

-- so its own rules and those of folding are judged as its own rules are
pub rules-alone : (way : Way) (op : Operation) → judge (operation_rules op ++ fold_rules (encoded (raw_of way op))) ≡ judge (operation_rules op)
rules-alone way op = go (judge (operation_rules op)) refl
  where
    go : (v : Verdict) → judge (operation_rules op) ≡ v → judge (operation_rules op ++ fold_rules (encoded (raw_of way op))) ≡ judge (operation_rules op)
    go (Ok tt) e = after-done (operation_rules op) (fold_rules (encoded (raw_of way op))) e ∙ folds-kept way op e ∙ sym e
    go (Err r) e = after-refused (operation_rules op) (fold_rules (encoded (raw_of way op))) r e ∙ sym e
