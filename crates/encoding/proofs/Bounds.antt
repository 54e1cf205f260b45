-- The bounds that a record keeps, and the ranges by them. Assumes nothing.
use mathlib.Core.Path.{◌≡◌, refl, sym, ap, ap₂, ◌∙◌}
use mathlib.Core.Bool.{Bool, ◌&&◌}
use mathlib.Core.List.{List, ◌++◌}
use Prim.Native.Nat.{ℕ, ◌+◌, ◌<◌, ◌≤◌}
use native.Mathlib.Omega.{arith}
use lib.IntN.{ℤ, pos}
use lib.ListN.{get_or, take, drop, replicate, get_or-append, length, length-take, get_or-replicate, get_or-eq_default, length-append, length-replicate}
use lib.Seq.{get_or-append-add, get_or-take, get_or-drop}
use Rattle.expression.specs.Expression.{Kind, d, s, rt, Expr, Range, add_range, mul_range, op_range, range_of, small_range, small_ranges, every_node}
use Rattle.expression.specs.Node.{max_variables, max_places}
use Rattle.encoding.specs.Postfix.{Encodable}
use Rattle.encoding.specs.Encode.{filled, bounds_of}
use Rattle.encoding.proofs.Filled.{filled-length, filled_at}

-- ---- the bounds of a record, by place

module _ (dims ranges : ℕ) (l : List ℤ) where
  abbrev dimensions : List ℤ
  dimensions = filled max_variables (pos 0) (take dims l)

  abbrev others : List ℤ
  others = filled max_variables (pos 0) (take ranges (drop max_variables l)) ++ replicate max_variables (pos 0)

  pub bounds-length : length (bounds_of dims ranges l) ≡ max_places
  bounds-length =
      let a = filled-length max_variables (pos 0) (take dims l) in
      let b = filled-length max_variables (pos 0) (take ranges (drop max_variables l)) in
      omega (
        arith,
        length-append dimensions others,
        length-append (filled max_variables (pos 0) (take ranges (drop max_variables l))) (replicate max_variables (pos 0)),
        length-replicate max_variables (pos 0),
      )

  at_others : (k : ℕ) → get_or (bounds_of dims ranges l) (max_variables + k) (pos 0) ≡ get_or others k (pos 0)
  at_others k =
      ap (λ (i : ℕ). get_or (bounds_of dims ranges l) (i + k) (pos 0)) (sym (filled-length max_variables (pos 0) (take dims l)))
      ∙ get_or-append-add dimensions others k (pos 0)

  -- the bounds below the counts
  pub bound-dimension : (k : ℕ) → k < dims → dims ≤ max_variables → get_or (bounds_of dims ranges l) k (pos 0) ≡ get_or l k (pos 0)
  bound-dimension k h m =
      let n = filled-length max_variables (pos 0) (take dims l) in
      get_or-append dimensions others (pos 0) k (omega arith)
      ∙ filled_at max_variables (pos 0) (take dims l) k (omega arith)
      ∙ get_or-take dims l k (pos 0) h

  pub bound-range : (k : ℕ) → k < ranges → ranges ≤ max_variables → get_or (bounds_of dims ranges l) (max_variables + k) (pos 0) ≡ get_or l (max_variables + k) (pos 0)
  bound-range k h m =
      let b = filled-length max_variables (pos 0) (take ranges (drop max_variables l)) in
      at_others k
      ∙ get_or-append (filled max_variables (pos 0) (take ranges (drop max_variables l))) (replicate max_variables (pos 0)) (pos 0) k (omega arith)
      ∙ filled_at max_variables (pos 0) (take ranges (drop max_variables l)) k (omega arith)
      ∙ get_or-take ranges (drop max_variables l) k (pos 0) h
      ∙ get_or-drop max_variables l k (pos 0)

  -- and 0 past the counts
  pub bound-no-dimension : (k : ℕ) → dims ≤ k → k < max_variables → get_or (bounds_of dims ranges l) k (pos 0) ≡ pos 0
  bound-no-dimension k h m =
      let n = filled-length max_variables (pos 0) (take dims l) in
      get_or-append dimensions others (pos 0) k (omega arith)
      ∙ filled_at max_variables (pos 0) (take dims l) k m
      ∙ get_or-eq_default (take dims l) (pos 0) (omega (arith, length-take dims l))

  pub bound-no-range : (k : ℕ) → ranges ≤ k → k < max_variables → get_or (bounds_of dims ranges l) (max_variables + k) (pos 0) ≡ pos 0
  bound-no-range k h m =
      let b = filled-length max_variables (pos 0) (take ranges (drop max_variables l)) in
      at_others k
      ∙ get_or-append (filled max_variables (pos 0) (take ranges (drop max_variables l))) (replicate max_variables (pos 0)) (pos 0) k (omega arith)
      ∙ filled_at max_variables (pos 0) (take ranges (drop max_variables l)) k m
      ∙ get_or-eq_default (take ranges (drop max_variables l)) (pos 0) (omega (arith, length-take ranges (drop max_variables l)))

  pub bound-no-runtime : (k : ℕ) → k < max_variables → get_or (bounds_of dims ranges l) (max_variables + (max_variables + k)) (pos 0) ≡ pos 0
  bound-no-runtime k h =
      at_others (max_variables + k)
      ∙ ap (λ (i : ℕ). get_or others (i + k) (pos 0)) (sym (filled-length max_variables (pos 0) (take ranges (drop max_variables l))))
      ∙ get_or-append-add (filled max_variables (pos 0) (take ranges (drop max_variables l))) (replicate max_variables (pos 0)) k (pos 0)
      ∙ get_or-replicate max_variables k (pos 0) (pos 0) h

-- ---- the range of a tree depends on the bounds of its variables only
module _ (dims ranges : ℕ) (β γ : Kind → ℕ → Range) (hd : (k : ℕ) → k < dims → β d k ≡ γ d k) (hs : (k : ℕ) → k < ranges → β s k ≡ γ s k) where
  range_same : (e : Expr) → Encodable dims ranges e → range_of β e ≡ range_of γ e
  unfolding Encodable range_of
  range_same (Expr.var d k) h = hd k h
  range_same (Expr.var s k) h = hs k h
  range_same (Expr.var rt k) h = absurd h
  range_same (Expr.const z) h = refl
  range_same (Expr.add x y) h = ap₂ add_range (range_same x h.0) (range_same y h.1)
  range_same (Expr.mul z x) h = ap (mul_range z) (range_same x h.1)
  range_same (Expr.op o x c) h = ap (λ (r : Range). op_range o r c) (range_same x h.1.1)

  node-same : (e : Expr) → Encodable dims ranges e → small_range (range_of β e) ≡ small_range (range_of γ e)
  node-same e h = ap small_range (range_same e h)

  pub small_same : (e : Expr) → Encodable dims ranges e → small_ranges β e ≡ small_ranges γ e
  unfolding Encodable small_ranges every_node
  small_same (Expr.var k n) h = node-same (Expr.var k n) h
  small_same (Expr.const z) h = node-same (Expr.const z) h
  small_same (Expr.add x y) h =
      ap₂ (λ (a b : Bool). a && b) (ap₂ (λ (a b : Bool). a && b) (small_same x h.0) (small_same y h.1)) (node-same (Expr.add x y) h)
  small_same (Expr.mul z x) h = ap₂ (λ (a b : Bool). a && b) (small_same x h.1) (node-same (Expr.mul z x) h)
  small_same (Expr.op o x c) h = ap₂ (λ (a b : Bool). a && b) (small_same x h.1.1) (node-same (Expr.op o x c) h)
