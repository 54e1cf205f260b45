-- The two maps of an operation that treats each dimension by itself name its pairs. Assumes nothing.
use mathlib.Core.Path.{◌≡◌, refl, sym, ap₂, ◌∙◌, subst}
use mathlib.Core.List.{List, [], ◌∷◌, ◌++◌, map}
use Prim.Native.Nat.{ℕ, zero, suc, ◌≤◌}
use native.Mathlib.Omega.{arith}
use lib.IntN.{ℤ, pos, negsuc}
use lib.ListN.{get_or, drop}
use Rattle.integer.proofs.Linear.{≤-parts, parts-≤}
use Rattle.expression.specs.Expression.{Kind, d, Expr, Range, span, In, eval}
use Rattle.expression.specs.Value.{point_of}
use Rattle.folding.specs.Map.{Constraint, values_of, Holds}
use Rattle.operation_maps.specs.declared.Axis.{Axis}
use Rattle.operation_maps.specs.Points as points
use Rattle.operation_maps.specs.Points.{Inside, Names, Points, Means}
use Rattle.operation_maps.specs.Axes.{Side, side_trees, side_tests, side_map, Each, Sound, AllSound, none, more}

-- ---- whole numbers in a range

pub record Whole (z : ℤ) (lo hi : ℕ) : Type 0 where
  pub n : ℕ
  pub is : z ≡ pos n
  pub low : lo ≤ n
  pub high : n ≤ hi

pub in_whole : (z : ℤ) (lo hi : ℕ) → In z (span (pos lo) (pos hi)) → Whole z lo hi
in_whole (pos n) lo hi h = record { n = n; is = refl; low = omega (arith, ≤-parts (pos lo) (pos n) h.low); high = omega (arith, ≤-parts (pos n) (pos hi) h.high) }
in_whole (negsuc n) lo hi h = absurd (omega (arith, ≤-parts (pos lo) (negsuc n) h.low))

pub whole_in : (n lo hi : ℕ) → lo ≤ n → n ≤ hi → In (pos n) (span (pos lo) (pos hi))
whole_in n lo hi a b = record { low = parts-≤ (pos lo) (pos n) (omega arith); high = parts-≤ (pos n) (pos hi) (omega arith) }

-- ---- the point ρ has the values xs from dimension k on

abbrev pub At : (Kind → ℕ → ℤ) → ℕ → List ℤ → Type 0
At ρ k [] = Unit {0}
At ρ k (x ∷ xs) = (ρ d k ≡ x) × At ρ (suc k) xs

front : (k : ℕ) (ds : List ℤ) (x z : ℤ) (xs : List ℤ) → drop k ds ≡ x ∷ xs → (get_or ds k z ≡ x) × (drop (suc k) ds ≡ xs)
front zero [] x z xs e = let z : ◌≡◌ {A = ℕ} 0 1 = cc in absurd (omega arith)
front zero (y ∷ ds) x z xs e = (cc, cc)
front (suc k) [] x z xs e = let z : ◌≡◌ {A = ℕ} 0 1 = cc in absurd (omega arith)
front (suc k) (y ∷ ds) x z xs e = front k ds x z xs e

at_from : (ds ss : List ℤ) (k : ℕ) (xs : List ℤ) → drop k ds ≡ xs → At (point_of ds ss) k xs
unfolding point_of
at_from ds ss k [] e = tt
at_from ds ss k (x ∷ xs) e = let f = front k ds x (pos 0) xs e in (f.0, at_from ds ss (suc k) xs f.1)

pub at_all : (ds ss : List ℤ) → At (point_of ds ss) 0 ds
at_all ds ss = at_from ds ss 0 ds refl

-- ---- one dimension

pub record Step (ρ : Kind → ℕ → ℤ) (k : ℕ) (x : Side) (R : ℕ → ℕ → Type 0) : Type 0 where
  pub a : ℕ
  pub b : ℕ
  pub a-is : ρ d k ≡ pos a
  pub b-is : eval ρ (x.tree (Expr.var d k)) ≡ pos b
  pub related : R a b

pub record Back (ρ : Kind → ℕ → ℤ) (k a b : ℕ) (x : Side) : Type 0 where
  pub inside : In (pos a) x.bound
  pub holds : Holds ρ (x.tests (Expr.var d k))
  pub b-is : eval ρ (x.tree (Expr.var d k)) ≡ pos b

pub record Local (x : Side) (R : ℕ → ℕ → Type 0) : Type 0 where
  pub to : (ρ : Kind → ℕ → ℤ) (k : ℕ) → In (ρ d k) x.bound → Holds ρ (x.tests (Expr.var d k)) → Step ρ k x R
  pub from : (ρ : Kind → ℕ → ℤ) (k a b : ℕ) → R a b → ρ d k ≡ pos a → Back ρ k a b x

-- ---- all dimensions

module _ (ρ : Kind → ℕ → ℤ) where
  pub holds-join : (xs ys : List Constraint) → Holds ρ xs → Holds ρ ys → Holds ρ (xs ++ ys)
  unfolding Holds
  holds-join [] ys h k = k
  holds-join (x ∷ xs) ys h k = (h.0, holds-join xs ys h.1 k)

  pub holds-split : (xs ys : List Constraint) → Holds ρ (xs ++ ys) → Holds ρ xs × Holds ρ ys
  unfolding Holds
  holds-split [] ys h = (tt, h)
  holds-split (x ∷ xs) ys h = let w = holds-split xs ys h.1 in ((h.0, w.0), w.1)

module _ (f : Axis → Side) (R : Axis → ℕ → ℕ → Type 0) (local : (a : Axis) → Sound a → Local (f a) (R a)) where
  abbrev sides : List Axis → List Side
  sides axs = map f axs

  abbrev bounds : List Side → List Range
  bounds xs = map (λ (x : Side). x.bound) xs

  record Steps (ρ : Kind → ℕ → ℤ) (k : ℕ) (axs : List Axis) (xs : List ℤ) : Type 0 where
    from : List ℕ
    to : List ℕ
    from_is : xs ≡ map pos from
    to_is : values_of ρ (side_trees (sides axs) k) ≡ map pos to
    each : Each R axs from to

  steps : (ρ : Kind → ℕ → ℤ) (k : ℕ) (axs : List Axis) (xs : List ℤ) → AllSound axs → At ρ k xs → Inside xs (bounds (sides axs)) → Holds ρ (side_tests (sides axs) k) → Steps ρ k axs xs
  steps ρ k [] [] g p points.none h = record { from = []; to = []; from_is = refl; to_is = refl; each = none }
  steps ρ k [] (x ∷ xs) g p i h = elim i [ ]
  steps ρ k (a ∷ axs) [] g p i h = elim i [ ]
  steps ρ k (a ∷ axs) (x ∷ xs) g p (points.more i j) h =
      let w = holds-split ρ ((f a).tests (Expr.var d k)) (side_tests (sides axs) (suc k)) h in
      let r = steps ρ (suc k) axs xs g.1 p.1 j w.1 in
      let t = (local a g.0).to ρ k (subst (λ (z : ℤ). In z (f a).bound) (sym p.0) i) w.0 in
      record {
        from = t.a ∷ r.from;
        to = t.b ∷ r.to;
        from_is = ap₂ (λ (z : ℤ) (zs : List ℤ). z ∷ zs) (sym p.0 ∙ t.a-is) r.from_is;
        to_is = ap₂ (λ (z : ℤ) (zs : List ℤ). z ∷ zs) t.b-is r.to_is;
        each = more t.related r.each;
      }

  record Backs (ρ : Kind → ℕ → ℤ) (k : ℕ) (axs : List Axis) (from to : List ℕ) : Type 0 where
    inside : Inside (map pos from) (bounds (sides axs))
    holds : Holds ρ (side_tests (sides axs) k)
    to_is : values_of ρ (side_trees (sides axs) k) ≡ map pos to

  backs : (ρ : Kind → ℕ → ℤ) (k : ℕ) {axs : List Axis} {from to : List ℕ} → AllSound axs → Each R axs from to → At ρ k (map pos from) → Backs ρ k axs from to
  unfolding Holds
  backs ρ k g none p = record { inside = points.none; holds = tt; to_is = refl }
  backs ρ k g (more {a} {axs} {x} {y} {xs} {ys} r e) p =
      let w = backs ρ (suc k) g.1 e p.1 in
      let t = (local a g.0).from ρ k x y r p.0 in
      record {
        inside = points.more t.inside w.inside;
        holds = holds-join ρ ((f a).tests (Expr.var d k)) (side_tests (sides axs) (suc k)) t.holds w.holds;
        to_is = ap₂ (λ (z : ℤ) (zs : List ℤ). z ∷ zs) t.b-is w.to_is;
      }

  pub sides-mean : (axs : List Axis) → AllSound axs → Means (side_map (sides axs)) (Each R axs)
  sides-mean axs g x y = (to, back)
    where
      to : Names (side_map (sides axs)) x y → Points (Each R axs) x y
      to h =
          let w = steps (point_of x h.values) 0 axs x g (at_all x h.values) h.inside-dims h.holds in
          record { from = w.from; to = w.to; from_is = w.from_is; to_is = sym h.results ∙ w.to_is; related = w.each }

      back : Points (Each R axs) x y → Names (side_map (sides axs)) x y
      back p =
          let a = subst (λ (l : List ℤ). At (point_of x []) 0 l) p.from_is (at_all x []) in
          let w = backs (point_of x []) 0 g p.related a in
          record {
            values = [];
            inside-dims = subst (λ (l : List ℤ). Inside l (bounds (sides axs))) (sym p.from_is) w.inside;
            inside-ranges = points.none;
            holds = w.holds;
            results = w.to_is ∙ sym p.to_is;
          }
