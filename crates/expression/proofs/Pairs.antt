-- Two stacks, of the low ends and the high ends, as one stack of ranges. Assumes nothing.
use Rattle.std.specs.Prelude.{None}
use mathlib.Core.Path.{◌≡◌, refl, sym, ap, ap₂, ◌∙◌}
use mathlib.Core.Bool.{Bool, true, false, cond}
use mathlib.Core.List.{List, [], ◌∷◌}
use Prim.Native.Nat.{ℕ, zero, suc, ◌+◌, ◌-◌, ◌<◌, ◌≤◌}
use native.Mathlib.Omega.{arith}
use borrow.Author.Tests.{leb-true, le-leb}
use Rattle.std.proofs.lemmas.Option.{some_pair_parts}
use lib.IntN.{ℤ, pos, nat_abs}
use lib.ListN.{length, get_or, set, drop, length-set, replicate}
use Rattle.radix.proofs.Tests.{and_left, and_right}
use Rattle.integer.specs.Exact.{limit}
use Rattle.expression.specs.Expression.{Range, span, add_range, is_small, small_range}
use Rattle.expression.specs.Node.{max_nodes}
use Rattle.expression.specs.Machine.{passed, stack, step, NotBroken, Fed, first}
use Rattle.expression.specs.Reckon.{reckon, placed_leaf, one_range, range_alg, zip_ranges}
use Rattle.expression.specs.Ready.{Small, Stacks, RangeStep}
use Rattle.expression.specs.declared.Node.{Node}
use Rattle.expression.specs.declared.Leaf.{Leaf}
use Rattle.expression.specs.declared.One.{One}
use Rattle.expression.specs.declared.Node.TheVariants as N
use Rattle.expression.proofs.Ends.{kept}
use Rattle.expression.proofs.Machines.{fed-left}
use Rattle.expression.proofs.Meaning.{reckoned}
use Rattle.expression.proofs.Stack.{leaf-fed, one-fed-room, one-fed, one-over, sum-fed-room, sum-fed, sum_over}

zip_length : (l h : List ℤ) → length l ≡ length h → length (zip_ranges l h) ≡ length l
zip_length [] h e = refl
zip_length (x ∷ l) [] e = absurd (omega arith)
zip_length (x ∷ l) (y ∷ h) e = ap suc (zip_length l h (omega arith))

zip-set : (l h : List ℤ) (i : ℕ) (a b : ℤ) → length l ≡ length h → zip_ranges (set l i a) (set h i b) ≡ set (zip_ranges l h) i (span a b)
zip-set [] h i a b e = refl
zip-set (x ∷ l) [] i a b e = absurd (omega arith)
zip-set (x ∷ l) (y ∷ h) zero a b e = refl
zip-set (x ∷ l) (y ∷ h) (suc i) a b e = ap (λ (z : List Range). span x y ∷ z) (zip-set l h i a b (omega arith))

zip_get : (l h : List ℤ) (t : ℕ) → length l ≡ length h → get_or (zip_ranges l h) t (span (pos 0) (pos 0)) ≡ span (get_or l t (pos 0)) (get_or h t (pos 0))
zip_get [] [] t e = refl
zip_get [] (y ∷ h) t e = absurd (omega arith)
zip_get (x ∷ l) [] t e = absurd (omega arith)
zip_get (x ∷ l) (y ∷ h) zero e = refl
zip_get (x ∷ l) (y ∷ h) (suc t) e = zip_get l h t (omega arith)

small-set : (l : List ℤ) (i : ℕ) (a : ℤ) → Small l → nat_abs a ≤ limit → Small (set l i a)
small-set [] i a s h k = s k
small-set (x ∷ l) zero a s h zero = h
small-set (x ∷ l) zero a s h (suc k) = s (suc k)
small-set (x ∷ l) (suc i) a s h zero = s zero
small-set (x ∷ l) (suc i) a s h (suc k) = small-set l i a (λ (j : ℕ). s (suc j)) h k

pub stacks-set : (l h : List ℤ) (i : ℕ) (a b : ℤ) → Stacks l h → nat_abs a ≤ limit → nat_abs b ≤ limit → Stacks (set l i a) (set h i b)
stacks-set l h i a b s p q = record {
  long-lows = length-set l i a ∙ s.long-lows;
  long-highs = length-set h i b ∙ s.long-highs;
  small-lows = small-set l i a s.small-lows p;
  small-highs = small-set h i b s.small-highs q;
}

-- what an answer tells
kept-by : (k : Bool) (r : Range) (a b : ℤ) → kept a b ≡ cond k (kept r.lo r.hi) None → (k ≡ true) × (span a b ≡ r)
kept-by true r a b e = let p = some_pair_parts a r.lo b r.hi e in (refl, ap₂ span p.0 p.1)
kept-by false r a b e = let z : ◌≡◌ {A = ℕ} 0 1 = cc in absurd (omega arith)

kept-is : (r : Range) (a b : ℤ) → kept a b ≡ reckon r → (small_range r ≡ true) × (span a b ≡ r)
unfolding reckon
kept-is r a b e = kept-by (small_range r) r a b e

keep-of : (r : Range) (a b : ℤ) → kept a b ≡ reckon r → small_range (span a b) ≡ true
keep-of r a b e = ap small_range (kept-is r a b e).1 ∙ (kept-is r a b e).0

over_by : (k : Bool) (r : Range) → None ≡ cond k (kept r.lo r.hi) None → k ≡ false
over_by true r e = let z : ◌≡◌ {A = ℕ} 0 1 = cc in absurd (omega arith)
over_by false r e = refl

over-is : (r : Range) → None ≡ reckon r → small_range r ≡ false
unfolding reckon
over-is r e = over_by (small_range r) r e

pub small_of : (r : Range) (a b : ℤ) → kept a b ≡ reckon r → (nat_abs a ≤ limit) × (nat_abs b ≤ limit)
small_of r a b e = let k = keep-of r a b e in (leb-true (nat_abs a) limit (and_left (is_small a) (is_small b) k), leb-true (nat_abs b) limit (and_right (is_small a) (is_small b) k))

module _ (lower upper l h : List ℤ) (t : ℕ) (s : Stacks l h) where
  pub level : length l ≡ length h
  level = s.long-lows ∙ sym s.long-highs

  pub long : length (zip_ranges l h) ≡ max_nodes
  long = zip_length l h level ∙ s.long-lows

  pub leaf_r : (x : Leaf) (a b : ℤ) → a ≡ placed_leaf lower x → b ≡ placed_leaf upper x → nat_abs a ≤ limit → nat_abs b ≤ limit → 0 < t → t ≤ max_nodes
      → stack (drop (t - 1) (zip_ranges (set l (t - 1) a) (set h (t - 1) b))) ≡ step (range_alg lower upper) (N.Leaf x) (drop t (zip_ranges l h))
  leaf_r x a b p q m n i j =
      rw (zip-set l h (t - 1) a b level)
      (leaf-fed (range_alg lower upper) (zip_ranges l h) t x (span a b) (ap₂ span p q) (rw (le-leb (nat_abs a) limit m, le-leb (nat_abs b) limit n)) i (omega (arith, long)))

  pub one_r-room : (o : One) → NotBroken (step (range_alg lower upper) (N.One o) (drop t (zip_ranges l h))) → t < max_nodes
  one_r-room o r = omega (arith, long, one-fed-room (range_alg lower upper) (zip_ranges l h) t o r)

  pub one_r : (o : One) (a b : ℤ) → t < max_nodes → kept a b ≡ reckon (one_range o (span (get_or l t (pos 0)) (get_or h t (pos 0))))
      → stack (drop t (zip_ranges (set l t a) (set h t b))) ≡ step (range_alg lower upper) (N.One o) (drop t (zip_ranges l h))
  one_r o a b i e =
      rw (zip-set l h t a b level)
      (one-fed (range_alg lower upper) (zip_ranges l h) t o (span (pos 0) (pos 0)) (span a b) (omega (arith, long)) ((kept-is _ a b e).1 ∙ ap (λ (r : Range). one_range o r) (sym (zip_get l h t level))) (keep-of _ a b e))

  pub one_r-over : (o : One) → t < max_nodes → None ≡ reckon (one_range o (span (get_or l t (pos 0)) (get_or h t (pos 0))))
      → passed ≡ step (range_alg lower upper) (N.One o) (drop t (zip_ranges l h))
  one_r-over o i e =
      one-over (range_alg lower upper) (zip_ranges l h) t o (span (pos 0) (pos 0)) (omega (arith, long)) (ap (λ (r : Range). small_range (one_range o r)) (zip_get l h t level) ∙ over-is _ e)

  pub sum_r-room : NotBroken (step (range_alg lower upper) N.Sum (drop t (zip_ranges l h))) → t + 1 < max_nodes
  sum_r-room r = omega (arith, long, sum-fed-room (range_alg lower upper) (zip_ranges l h) t r)

  pub sum_r : (a b : ℤ) → t + 1 < max_nodes → kept a b ≡ reckon (add_range (span (get_or l (t + 1) (pos 0)) (get_or h (t + 1) (pos 0))) (span (get_or l t (pos 0)) (get_or h t (pos 0))))
      → stack (drop (t + 1) (zip_ranges (set l (t + 1) a) (set h (t + 1) b))) ≡ step (range_alg lower upper) N.Sum (drop t (zip_ranges l h))
  sum_r a b i e =
      rw (zip-set l h (t + 1) a b level)
      (sum-fed (range_alg lower upper) (zip_ranges l h) t (span (pos 0) (pos 0)) (span a b) (omega (arith, long)) ((kept-is _ a b e).1 ∙ ap₂ add_range (sym (zip_get l h (t + 1) level)) (sym (zip_get l h t level))) (keep-of _ a b e))

  pub sum_r-over : t + 1 < max_nodes → None ≡ reckon (add_range (span (get_or l (t + 1) (pos 0)) (get_or h (t + 1) (pos 0))) (span (get_or l t (pos 0)) (get_or h t (pos 0))))
      → passed ≡ step (range_alg lower upper) N.Sum (drop t (zip_ranges l h))
  sum_r-over i e =
      sum_over (range_alg lower upper) (zip_ranges l h) t (span (pos 0) (pos 0)) (omega (arith, long)) (ap₂ (λ (x y : Range). small_range (add_range x y)) (zip_get l h (t + 1) level) (zip_get l h t level) ∙ over-is _ e)

-- the walk has the things that a node takes
pub room-one : {lower upper l h : List ℤ} {node : Node} {t : ℕ} {o : One} → RangeStep lower upper node l h t → node ≡ N.One o → t < max_nodes
room-one {lower} {upper} {l} {h} {node} {t} {o} s e = one_r-room lower upper l h t s.stacks o (rw e at s.fed)

pub room-sum : {lower upper l h : List ℤ} {node : Node} {t : ℕ} → RangeStep lower upper node l h t → node ≡ N.Sum → t + 1 < max_nodes
room-sum {lower} {upper} {l} {h} {node} {t} s e = sum_r-room lower upper l h t s.stacks (rw e at s.fed)

pub small-zeros : (n : ℕ) → Small (replicate n (pos 0))
small-zeros zero k = omega arith
small-zeros (suc n) zero = omega arith
small-zeros (suc n) (suc k) = small-zeros n k

kept-first : (st : List Range) → Fed (stack st) → kept (first (span (pos 0) (pos 0)) (stack st)).lo (first (span (pos 0) (pos 0)) (stack st)).hi ≡ reckoned (stack st)
kept-first [] w = absurd w
kept-first (r ∷ []) w = refl
kept-first (r ∷ (q ∷ st)) w = absurd w

-- the end of a walk
pub ends : (l h : List ℤ) (t : ℕ) → Stacks l h → t ≤ max_nodes → Fed (stack (drop t (zip_ranges l h))) → (t < max_nodes) × (kept (get_or l t (pos 0)) (get_or h t (pos 0)) ≡ reckoned (stack (drop t (zip_ranges l h))))
ends l h t s k w =
    let n = long l h l h t s in
    let f = fed-left (zip_ranges l h) t (span (pos 0) (pos 0)) (omega arith) w in
    let e = sym (zip_get l h t (s.long-lows ∙ sym s.long-highs)) ∙ f.1 in
    (omega (arith, f.0), ap (λ (r : Range). kept r.lo r.hi) e ∙ kept-first (drop t (zip_ranges l h)) w)
