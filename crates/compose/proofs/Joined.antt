-- The bounds and the constraints of the composed map, by places. Assumes nothing.
use mathlib.Core.Path.{◌≡◌, sym, ap, ◌∙◌}
use mathlib.Core.Bool.{Bool, cond}
use mathlib.Core.List.{List, ◌++◌}
use Prim.Native.Nat.{ℕ, ◌+◌, ◌-◌, ◌<◌, ◌≤◌}
use native.Mathlib.Omega.{arith}
use native.Mathlib.Decide.{dec_lt}
use borrow.Author.Tests.{lt-ltb, le-ltb}
use lib.IntN.{ℤ, pos}
use lib.ListN.{length, get_or, length-append, length-map, get_or-append}
use lib.Seq.{get_or-append-add}
use Rattle.expression.specs.Expression.{Expr, span}
use Rattle.expression.specs.Node.{max_variables, max_places}
use Rattle.indexing.specs.Map.{runs}
use Rattle.indexing.specs.Ready.{Formed}
use Rattle.indexing.specs.declared.IndexingMap.{IndexingMap}
use Rattle.folding.specs.Map.{Constraint}
use Rattle.encoding.proofs.Lists.{map_at}
use Rattle.encoding.proofs.Listed.{listed-length, listed_at, listed-is}
use Rattle.encoding.proofs.Trees.{runs-all}
use Rattle.encoding.specs.Trees.{listed, constraint_at, map_constraints}
use Rattle.compose.specs.ComposeMap.{end_at, joined_ends, inside_at, substituted, inside_constraints, substituted_constraints, composed_constraints}
use Rattle.compose.specs.Ready.{Joinable, constraint_count, constraint_of}

-- ---- the ends at a place

pub joined_at : (r : ℕ) (fs gs : List ℤ) (p : ℕ) → p < max_places → get_or (joined_ends r fs gs) p (pos 0) ≡ end_at r fs gs p
joined_at r fs gs p h = listed_at (end_at r fs gs) max_places p (pos 0) h

pub joined-first : (r : ℕ) (fs gs : List ℤ) (p : ℕ) → p < max_places → p < max_variables + r → get_or (joined_ends r fs gs) p (pos 0) ≡ get_or fs p (pos 0)
joined-first r fs gs p h k =
    joined_at r fs gs p h ∙ ap (λ (b : Bool). cond b (get_or fs p (pos 0)) (get_or gs (p - r) (pos 0))) (lt-ltb p (max_variables + r) k)

pub joined-other : (r : ℕ) (fs gs : List ℤ) (p : ℕ) → p < max_places → max_variables + r ≤ p → get_or (joined_ends r fs gs) p (pos 0) ≡ get_or gs (p - r) (pos 0)
joined-other r fs gs p h k =
    joined_at r fs gs p h ∙ ap (λ (b : Bool). cond b (get_or fs p (pos 0)) (get_or gs (p - r) (pos 0))) (le-ltb p (max_variables + r) k)

-- ---- constraint k

module _ (f g : IndexingMap) (k : ℕ) where
  pub constraint-first : k < f.constraints → constraint_of f g k ≡ constraint_at f k
  constraint-first h = rw (lt-ltb k f.constraints h)

  pub constraint-inside : f.constraints ≤ k → k - f.constraints < f.results → constraint_of f g k ≡ inside_at f g (k - f.constraints)
  constraint-inside h l = rw (le-ltb k f.constraints h, lt-ltb (k - f.constraints) f.results l)

  pub constraint-other : f.constraints ≤ k → f.results ≤ k - f.constraints → constraint_of f g k ≡ substituted f (constraint_at g (k - f.constraints - f.results))
  constraint-other h l = rw (le-ltb k f.constraints h, le-ltb (k - f.constraints) f.results l)

-- the constraints of the composed map one by one
module _ (f g : IndexingMap) where
  abbrev pub none : Constraint
  none = record { expr = Expr.const (pos 0); interval = span (pos 0) (pos 0) }

  abbrev inner : List Constraint
  inner = inside_constraints f g

  abbrev others : List Constraint
  others = substituted_constraints f g

  first-long : length (map_constraints f) ≡ f.constraints
  first-long = listed-length (constraint_at f) f.constraints

  inner-long : length inner ≡ f.results
  inner-long = listed-length (inside_at f g) f.results

  others-long : length others ≡ g.constraints
  others-long = length-map (map_constraints g) (λ (c : Constraint). substituted f c) ∙ listed-length (constraint_at g) g.constraints

  past_first : (i : ℕ) → get_or (composed_constraints f g) (f.constraints + i) none ≡ get_or (inner ++ others) i none
  past_first i =
      ap (λ (n : ℕ). get_or (composed_constraints f g) (n + i) none) (sym first-long) ∙ get_or-append-add (map_constraints f) (inner ++ others) i none

  past-inner : (i : ℕ) → get_or (inner ++ others) (f.results + i) none ≡ get_or others i none
  past-inner i = ap (λ (n : ℕ). get_or (inner ++ others) (n + i) none) (sym inner-long) ∙ get_or-append-add inner others i none

  pub constraints-long : length (composed_constraints f g) ≡ constraint_count f g
  constraints-long =
      omega (arith, length-append (map_constraints f) (inner ++ others), length-append inner others, first-long, inner-long, others-long)

  pub constraint-at : (k : ℕ) → k < constraint_count f g → constraint_of f g k ≡ get_or (composed_constraints f g) k none
  constraint-at k h = go (dec_lt k f.constraints) (dec_lt (k - f.constraints) f.results)
    where
      go : Dec (k < f.constraints) → Dec (k - f.constraints < f.results) → constraint_of f g k ≡ get_or (composed_constraints f g) k none
      go (yes a) b =
          constraint-first f g k a
          ∙ sym (get_or-append (map_constraints f) (inner ++ others) none k (omega (arith, first-long)) ∙ listed_at (constraint_at f) f.constraints k none a)
      go (no a) (yes b) =
          let i = k - f.constraints in
          let e : f.constraints + i ≡ k = omega arith in
          constraint-inside f g k (omega arith) b
          ∙ sym (ap (λ (n : ℕ). get_or (composed_constraints f g) n none) (sym e) ∙ past_first i ∙ get_or-append inner others none i (omega (arith, inner-long)) ∙ listed_at (inside_at f g) f.results i none b)
      go (no a) (no b) =
          let i = k - f.constraints in
          let j = i - f.results in
          let e : f.constraints + i ≡ k = omega arith in
          let q : f.results + j ≡ i = omega arith in
          let l : j < g.constraints = omega arith in
          constraint-other f g k (omega arith) (omega arith)
          ∙ sym
          (ap (λ (n : ℕ). get_or (composed_constraints f g) n none) (sym e)
          ∙ past_first i
          ∙ ap (λ (n : ℕ). get_or (inner ++ others) n none) (sym q)
          ∙ past-inner j
          ∙ map_at (λ (c : Constraint). substituted f c) (map_constraints g) j none none (omega (arith, listed-length (constraint_at g) g.constraints))
          ∙ ap (λ (c : Constraint). substituted f c) (listed_at (constraint_at g) g.constraints j none l))

  pub constraints-listed : listed (constraint_of f g) (constraint_count f g) ≡ composed_constraints f g
  constraints-listed = listed-is (constraint_of f g) (constraint_count f g) (composed_constraints f g) none (sym constraints-long) constraint-at

-- ---- which run of which map

pub result-run : (m : IndexingMap) → Formed m → (n : ℕ) → n < m.results → n < runs m
result-run m w n h = omega (arith, runs-all m w)

module _ {f g : IndexingMap} (w : Joinable f g) (k : ℕ) (h : k < constraint_count f g) where
  pub run-first : k < f.constraints → f.results + k < runs f
  run-first l = omega (arith, runs-all f w.both.before)

  pub run_inside : k - f.constraints < f.results → k - f.constraints < runs f
  run_inside l = omega (arith, runs-all f w.both.before)

  pub run-other : f.constraints ≤ k → f.results ≤ k - f.constraints → g.results + (k - f.constraints - f.results) < runs g
  run-other l m = omega (arith, runs-all g w.both.after)
