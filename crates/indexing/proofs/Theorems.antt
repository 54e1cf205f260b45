-- What the crate's definitions mean, one theorem under each sentence. Assumes nothing.
use mathlib.Core.Path.{◌≡◌, ap, refl}
use mathlib.Core.Bool.{Bool, true, false, cond, ◌&&◌}
use mathlib.Core.Logic.{◌↔◌}
use mathlib.Core.List.{List}
use Prim.Native.Nat.{ℕ, ◌+◌, ◌<◌, ◌≤◌}
use native.Mathlib.Omega.{arith}
use borrow.Author.Tests.{eqb-true, eq-eqb}
use lib.Dec.{eqb}
use lib.IntN.{ℤ, nat_abs}
use lib.ListN.{length}
use lib.Signed.{le_z}
use mir.Syntax.{w64}
use mir.Val.{SFits}
use Rattle.integer.specs.Exact.{limit}
use Rattle.radix.proofs.Tests.{and-true, and_left, and_right, every-all, every-at}
use Rattle.expression.specs.Expression.{Expr, NodeOf, eval, span, In, range_of}
use Rattle.refusal.specs.Number.{verdict_answer}
use Rattle.expression.specs.Node.{max_variables}
use Rattle.expression.specs.Decode.{tree}
use Rattle.expression.specs.Value.{point_of, bounds}
use Rattle.expression.proofs.Order.{Le-order}
use Rattle.expression.proofs.Tests.{small-fits}
use Rattle.expression.proofs.Within.{LeIn, Inside}
use Rattle.expression.proofs.Theorems.{value-in-range, value-within}
use Rattle.indexing.specs.Map.{start_of, runs, count_of, tree_at, good_parts, good_counts, good_ranges, right_length, is_in, in_at, are_in, in_bounds, holds_at, all_hold, in_domain, Domain, Alike}
use Rattle.indexing.specs.Ready.{Bounded}
use Rattle.indexing.specs.Answers.{judged_map, result_ranges, result_values}
use Rattle.indexing.specs.declared.IndexingMap.{IndexingMap}
use Rattle.indexing.proofs.Comparisons.{le_test}
use Rattle.indexing.proofs.Unread.{judged-same, ranges-unread, values-unread}
use Rattle.indexing.proofs.Formed.{inside, small_at}

-- ---- judging

-- A map is refused with 2 where a part breaks its rule, else with 7 where a count passes its limit, else with 8 where a range does, and
-- in no other case.
pub judged-number : (m : IndexingMap) → (judged_map m).number ≡ cond (good_parts m) (cond (good_counts m) (cond (good_ranges m) 0 8) 7) 2
unfolding judged_map
judged-number m = go (good_parts m) (good_counts m) (good_ranges m) refl refl refl
  where
    go : (a b c : Bool) → good_parts m ≡ a → good_counts m ≡ b → good_ranges m ≡ c → (judged_map m).number ≡ cond (good_parts m) (cond (good_counts m) (cond (good_ranges m) 0 8) 7) 2
    go true true true p q r = rw (p, q, r)
    go true true false p q r = rw (p, q, r)
    go true false c p q r = rw (p, q)
    go false b c p q r = rw p

-- The ranges of a map's results are refused as the map is.
pub ranges-number : (m : IndexingMap) → (result_ranges m).number ≡ (judged_map m).number
unfolding judged_map result_ranges
ranges-number m = go (good_parts m) (good_counts m) (good_ranges m) refl refl refl
  where
    go : (a b c : Bool) → good_parts m ≡ a → good_counts m ≡ b → good_ranges m ≡ c → (result_ranges m).number ≡ (judged_map m).number
    go true true true p q r = rw (p, q, r)
    go true true false p q r = rw (p, q, r)
    go true false c p q r = rw (p, q)
    go false b c p q r = rw p

-- Values at a point are refused with 2, then 6 where the point has the wrong length, then 7, 8, and 5 where it lies outside the domain.
pub values-number : (m : IndexingMap) (ds ss : List ℤ)
    → (result_values m ds ss).number
    ≡ cond (good_parts m)
    (cond (eqb (length ds) m.dims && eqb (length ss) m.ranges)
    (cond (good_counts m) (cond (good_ranges m) (cond (in_domain m ds ss) 0 5) 8) 7)
    6)
    2
unfolding result_values
values-number m ds ss = go (good_parts m) (eqb (length ds) m.dims && eqb (length ss) m.ranges) (good_counts m) (good_ranges m) (in_domain m ds ss) refl refl refl refl refl
  where
    go : (a l b c e : Bool) → good_parts m ≡ a → (eqb (length ds) m.dims && eqb (length ss) m.ranges) ≡ l → good_counts m ≡ b → good_ranges m ≡ c → in_domain m ds ss ≡ e
        → (result_values m ds ss).number
        ≡ cond (good_parts m)
        (cond (eqb (length ds) m.dims && eqb (length ss) m.ranges)
        (cond (good_counts m) (cond (good_ranges m) (cond (in_domain m ds ss) 0 5) 8) 7)
        6)
        2
    go true true true true true p x q r t = rw (p, x, q, r, t)
    go true true true true false p x q r t = rw (p, x, q, r, t)
    go true true true false e p x q r t = rw (p, x, q, r)
    go true true false c e p x q r t = rw (p, x, q)
    go true false b c e p x q r t = rw (p, x)
    go false l b c e p x q r t = rw p

-- What a record holds past its counts alters no verdict, no range and no value.
pub past-counts : (m n : IndexingMap) → Alike m n
    → (judged_map m ≡ judged_map n)
    × ((result_ranges m ≡ result_ranges n) × ((ds ss : List ℤ) → result_values m ds ss ≡ result_values n ds ss))
unfolding judged_map
past-counts m n a = (ap verdict_answer (judged-same m n a), (ranges-unread m n a, values-unread m n a))

-- ---- the domain

in-fact : (z a b : ℤ) → is_in z a b ≡ true → In z (span a b)
in-fact z a b e = record { low = (le_test a z).0 (and_left (le_z a z) _ e); high = (le_test z b).0 (and_right (le_z a z) _ e) }

in-test : (z a b : ℤ) → In z (span a b) → is_in z a b ≡ true
in-test z a b h = and-true ((le_test a z).1 h.low) ((le_test z b).1 h.high)

-- A point is in the domain exactly where it has a value for each variable, inside its bounds, and every constraint holds.
pub domain-is : (m : IndexingMap) (ds ss : List ℤ) → (in_domain m ds ss ≡ true) ↔ Domain m ds ss
unfolding in_domain in_bounds are_in all_hold
domain-is m ds ss = (to, from)
  where
    low : (n : ℕ) → 0 + n ≡ n
    low n = omega arith

    to : in_domain m ds ss ≡ true → Domain m ds ss
    to e =
        let long = and_left (right_length m ds ss) _ e in
        let in_all = and_right (right_length m ds ss) _ e in
        let i = and_left (in_bounds m ds ss) _ in_all in
        let h = and_right (in_bounds m ds ss) _ in_all in
        let a = and_left (are_in ds m.lower m.upper 0 m.dims) _ i in
        let b = and_right (are_in ds m.lower m.upper 0 m.dims) _ i in
        record {
          long-dims = eqb-true _ _ (and_left (eqb (length ds) m.dims) _ long);
          long-ranges = eqb-true _ _ (and_right (eqb (length ds) m.dims) _ long);
          dims = λ n l. in-fact _ _ _ (rw (low n) at (every-at (in_at ds m.lower m.upper 0) m.dims a n l));
          ranges = λ n l. in-fact _ _ _ (every-at (in_at ss m.lower m.upper max_variables) m.ranges b n l);
          holds = λ k l. in-fact _ _ _ (every-at (holds_at m ds ss) m.constraints h k l);
        }

    from : Domain m ds ss → in_domain m ds ss ≡ true
    from h =
        and-true (and-true (eq-eqb _ _ h.long-dims) (eq-eqb _ _ h.long-ranges))
        (and-true
        (and-true
        (every-all (in_at ds m.lower m.upper 0) m.dims (λ n l. rw (low n) (in-test _ _ _ (h.dims n l))))
        (every-all (in_at ss m.lower m.upper max_variables) m.ranges (λ n l. in-test _ _ _ (h.ranges n l))))
        (every-all (holds_at m ds ss) m.constraints (λ k l. in-test _ _ _ (h.holds k l))))

-- ---- an accepted map at a point inside its bounds

module _ (m : IndexingMap) (ds ss : List ℤ) (p : Bounded m ds ss) (i : ℕ) (h : i < runs m) (e : Expr) (q : tree_at m i ≡ tree e) where
  point-in : Inside m.dims m.ranges (bounds m.lower m.upper) (point_of ds ss)
  point-in = rw (← p.measured.long-dims, ← p.measured.long-ranges) (inside m ds ss p)

  fact : {z : ℤ} {a b : ℤ} → LeIn z (span a b) → In z (span a b)
  fact l = record { low = Le-order l.low; high = Le-order l.high }

  -- The value of every node of every tree lies in its reckoned range.
  pub node-in-range : (x : Expr) → NodeOf x e → In (eval (point_of ds ss) x) (range_of (bounds m.lower m.upper) x)
  unfolding tree_at bounds
  node-in-range x n =
      value-in-range m.dims m.ranges (bounds m.lower m.upper) (point_of ds ss) (λ k l. fact (point-in.dims k l)) (λ k l. fact (point-in.ranges k l)) m.kinds m.values (start_of (count_of m) i) (count_of m i) e q x n

  -- It lies within +-2^62, so evaluation never passes 64 bits.
  pub node-fits : (x : Expr) → NodeOf x e → (nat_abs (eval (point_of ds ss) x) ≤ limit) × SFits w64 (eval (point_of ds ss) x)
  unfolding tree_at bounds
  node-fits x n =
      let w = value-within m.dims m.ranges (bounds m.lower m.upper) (point_of ds ss) (λ k l. fact (point-in.dims k l)) (λ k l. fact (point-in.ranges k l)) m.kinds m.values (start_of (count_of m) i) (count_of m i) e q (small_at m p.measured.accepted i h e q) x n in
      (w, small-fits (eval (point_of ds ss) x) w)
