-- Bounds below the counts: what is made of them, and what reads them, depends on no others. Assumes nothing.
use mathlib.Core.Path.{◌≡◌, sym, ap₂, ◌∙◌}
use mathlib.Core.List.{List, ◌++◌}
use Prim.Native.Nat.{ℕ, ◌+◌, ◌<◌, ◌≤◌}
use native.Mathlib.Omega.{arith}
use native.Mathlib.Decide.{dec_lt}
use lib.IntN.{ℤ, pos}
use lib.ListN.{length, get_or, take, drop, replicate, length-take, get_or-eq_default}
use lib.Seq.{ext_get_or, get_or-take, get_or-drop}
use Rattle.expression.specs.Expression.{Kind, d, s, rt, Expr, span}
use Rattle.expression.specs.Node.{max_variables}
use Rattle.expression.specs.Value.{point_of, bounds}
use Rattle.expression.proofs.Within.{Proper}
use Rattle.indexing.specs.Map.{SameAt}
use Rattle.folding.specs.Map.{Constraint}
use Rattle.encoding.specs.Encode.{filled, bounds_of, encode_map}
use Rattle.encoding.proofs.Filled.{filled-length, filled_at}

-- two lists with the same entries below n
filled-same : (size n : ℕ) (l k : List ℤ) → ((i : ℕ) → i < n → get_or l i (pos 0) ≡ get_or k i (pos 0))
    → filled size (pos 0) (take n l) ≡ filled size (pos 0) (take n k)
filled-same size n l k h =
    ext_get_or (pos 0) (filled size (pos 0) (take n l)) (filled size (pos 0) (take n k)) (filled-length size (pos 0) (take n l) ∙ sym (filled-length size (pos 0) (take n k))) each
  where
    past : (x : List ℤ) (i : ℕ) → n ≤ i → get_or (take n x) i (pos 0) ≡ pos 0
    past x i w = get_or-eq_default (take n x) (pos 0) (omega (arith, length-take n x))

    entry : (i : ℕ) → Dec (i < n) → get_or (take n l) i (pos 0) ≡ get_or (take n k) i (pos 0)
    entry i (yes w) = get_or-take n l i (pos 0) w ∙ h i w ∙ sym (get_or-take n k i (pos 0) w)
    entry i (no w) = past l i (omega arith) ∙ sym (past k i (omega arith))

    each : (i : ℕ) → i < length (filled size (pos 0) (take n l)) → get_or (filled size (pos 0) (take n l)) i (pos 0) ≡ get_or (filled size (pos 0) (take n k)) i (pos 0)
    each i w =
        let v : i < size = omega (arith, filled-length size (pos 0) (take n l)) in
        filled_at size (pos 0) (take n l) i v ∙ entry i (dec_lt i n) ∙ sym (filled_at size (pos 0) (take n k) i v)

-- two lists with the same entries at the variables below the counts
bounds-of-same : (dims ranges : ℕ) (l k : List ℤ) → ((i : ℕ) → i < dims → get_or l i (pos 0) ≡ get_or k i (pos 0))
    → ((i : ℕ) → i < ranges → get_or l (max_variables + i) (pos 0) ≡ get_or k (max_variables + i) (pos 0)) → bounds_of dims ranges l ≡ bounds_of dims ranges k
bounds-of-same dims ranges l k h g =
    ap₂ (λ (x y : List ℤ). x ++ (y ++ replicate max_variables (pos 0)))
    (filled-same max_variables dims l k h)
    (filled-same max_variables ranges (drop max_variables l) (drop max_variables k)
    (λ i w. get_or-drop max_variables l i (pos 0) ∙ g i w ∙ sym (get_or-drop max_variables k i (pos 0))))

-- two pairs of lists with the same bounds of the variables below the counts
module _ (dims ranges : ℕ) (los his los' his' : List ℤ)
    (hd : (k : ℕ) → k < dims → SameAt los his los' his' k) (hs : (k : ℕ) → k < ranges → SameAt los his los' his' (max_variables + k)) where
  lower-same : bounds_of dims ranges los ≡ bounds_of dims ranges los'
  lower-same = bounds-of-same dims ranges los los' (λ i w. (hd i w).0) (λ i w. (hs i w).0)

  upper-same : bounds_of dims ranges his ≡ bounds_of dims ranges his'
  upper-same = bounds-of-same dims ranges his his' (λ i w. (hd i w).1) (λ i w. (hs i w).1)

  -- the record made of the same trees
  pub record_same : (results : List Expr) (constraints : List Constraint)
      → encode_map dims ranges los his results constraints ≡ encode_map dims ranges los' his' results constraints
  unfolding encode_map
  record_same results constraints = rw (lower-same, upper-same)

  -- the bounds of a variable
  pub variable-same : (k : Kind) (n : ℕ) → Proper dims ranges (Expr.var k n) → bounds los his k n ≡ bounds los' his' k n
  unfolding Proper bounds point_of
  variable-same d n h = ap₂ span (hd n h).0 (hd n h).1
  variable-same s n h =
      ap₂ span
      (get_or-drop max_variables los n (pos 0) ∙ (hs n h).0 ∙ sym (get_or-drop max_variables los' n (pos 0)))
      (get_or-drop max_variables his n (pos 0) ∙ (hs n h).1 ∙ sym (get_or-drop max_variables his' n (pos 0)))
  variable-same rt n h = absurd h
