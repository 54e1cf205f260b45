-- Constraints folded one after another: those that go, and those that stay. Assumes nothing.
use mathlib.Core.Path.{◌≡◌, refl, sym, ap, ap₂, ◌∙◌, subst}
use mathlib.Core.Bool.{Bool, true, false, cond, ◌&&◌}
use mathlib.Core.List.{List, [], ◌∷◌, ◌++◌, map, append-nil, append_assoc}
use Prim.Native.Nat.{ℕ, zero, suc, ◌+◌, ◌-◌, ◌<◌, ◌≤◌}
use native.Mathlib.Omega.{arith}
use lib.IntN.{ℤ, pos, +ℤ_idl}
use lib.ListN.{length, get_or, drop, set, length-append, length-map}
use lib.Signed.{le_z}
use Rattle.expression.specs.Expression.{Kind, Expr, Range, span, node_count}
use Rattle.expression.specs.Node.{max_nodes}
use Rattle.indexing.specs.Map.{max_constraints}
use Rattle.indexing.specs.declared.IndexingMap.{IndexingMap}
use Rattle.folding.specs.Sum.{sum_range}
use Rattle.folding.specs.Fold.{fold_sum}
use Rattle.folding.specs.Working.{small_sum, small_working}
use Rattle.folding.specs.Map.{Constraint, constraint_trees, fold_tree, fold_constraints, is_inside, small_trees}
use Rattle.folding.proofs.Judged.{fold_small}
use Rattle.words.specs.Promises.{Reckons}
use Rattle.encoding.specs.Written.{Room, EmitsSum}
use Rattle.encoding.specs.Encode.{filled, nodes_of, Holds, ConstraintZeros}
use Rattle.encoding.proofs.Lists.{map-append}
use Rattle.encoding.proofs.Filled.{filled_next}
use Rattle.encoding.proofs.Held.{holds-next, count_next}
use Rattle.encoding.specs.Trees.{listed, constraint_at, map_constraints, map_bounds}
use Rattle.fold.specs.Ready.{FoldsRun, is_gone, Goes, FoldsConstraint, ConstraintGoes, ConstraintStays, ConstraintsFolded}
use Rattle.tree_sum.specs.declared.TreeSum.{TreeSum}
use Rattle.fold.specs.declared.FoldedConstraint.TheVariants.{Passed}
use Rattle.fold.proofs.Results.{sum-stands, small-next, small-not}
use Rattle.encoding.proofs.Listed.{listed-map}

-- ---- the interval

pub inside-yes : (lo hi a b : ℤ) → le_z a lo ≡ true → le_z hi b ≡ is_inside (span lo hi) (span a b)
unfolding is_inside
inside-yes lo hi a b e = sym (ap (λ (x : Bool). x && le_z hi b) e)

pub inside-no : (lo hi a b : ℤ) → le_z a lo ≡ false → false ≡ is_inside (span lo hi) (span a b)
unfolding is_inside
inside-no lo hi a b e = sym (ap (λ (x : Bool). x && le_z hi b) e)

pub goes : (m : IndexingMap) (k : ℕ) (w : List ℤ) (n : ℕ) (ok gone : Bool) (lo hi : ℤ) → Reckons w 0 n (pos 0) (pos 0) ok lo hi
    → gone ≡ is_inside (span lo hi) (span (get_or m.constraint_lower k (pos 0)) (get_or m.constraint_upper k (pos 0))) → Goes m k w n gone
unfolding small_sum
goes m k w n ok gone lo hi r g =
    record {
      is = λ t x e f small.
          let E = r.ends (map_bounds m) t x e f (r.is (map_bounds m) t x e f ∙ small) in
          g ∙ ap₂ (λ (x y : ℤ). is_inside (span x y) (constraint_at m k).interval)
          (E.0 ∙ +ℤ_idl (sum_range t (map_bounds m)).lo) (E.1 ∙ +ℤ_idl (sum_range t (map_bounds m)).hi);
    }

-- ---- one constraint

module _ (m : IndexingMap) (k : ℕ) (w : List ℤ) (s : TreeSum) (f : FoldsRun m (m.results + k) w s) {ks : List ℕ} {vs : List ℤ} {at : ℕ} (room : Room ks vs at) where
  pub constraint-over : s.small ≡ false → FoldsConstraint m k ks ks vs vs at Passed
  constraint-over e = (sym f.judged ∙ e, record { kinds = refl; values = refl; most = room.most })

  module _ (e : s.small ≡ true) (gone : Bool) (g : Goes m k w s.terms gone) where
    gone-is : gone ≡ is_gone m k
    gone-is =
        g.is (fold_sum (map_bounds m) (constraint_at m k).expr) (drop s.end w) (f.counted e) (sum-stands m (m.results + k) w s f e)
        (fold_small (map_bounds m) (constraint_at m k).expr (sym f.judged ∙ e))

    pub constraint-gone : gone ≡ true → ConstraintGoes m k ks ks vs vs
    constraint-gone i = record { small = sym f.judged ∙ e; gone = sym gone-is ∙ i; kinds = refl; values = refl }

    pub constraint-stays : {ks' : List ℕ} {vs' : List ℤ} {r : ℕ} → gone ≡ false → EmitsSum w 0 s.terms ks ks' vs vs' at r
        → ConstraintStays m k ks ks' vs vs' at r
    unfolding fold_tree
    constraint-stays i w' =
        record {
          small = sym f.judged ∙ e;
          stays = sym gone-is ∙ i;
          kept = w'.kept;
          written = w'.is (map_bounds m) (fold_sum (map_bounds m) (constraint_at m k).expr) (drop s.end w) (f.counted e) (sum-stands m (m.results + k) w s f e);
        }

-- ---- lists of constraints

-- what a constraint becomes
abbrev pub folded_one : (Kind → ℕ → Range) → Constraint → Constraint
folded_one β x = record { expr = fold_tree β x.expr; interval = x.interval }

constraints-append : (β : Kind → ℕ → Range) (xs ys : List Constraint) → fold_constraints β (xs ++ ys) ≡ fold_constraints β xs ++ fold_constraints β ys
unfolding fold_constraints
constraints-append β [] ys = refl
constraints-append β (x ∷ xs) ys = go (is_inside (sum_range (fold_sum β x.expr) β) x.interval) (constraints-append β xs ys)
  where
    go : (b : Bool) → fold_constraints β (xs ++ ys) ≡ fold_constraints β xs ++ fold_constraints β ys
        → cond b (fold_constraints β (xs ++ ys)) (folded_one β x ∷ fold_constraints β (xs ++ ys))
        ≡ cond b (fold_constraints β xs) (folded_one β x ∷ fold_constraints β xs) ++ fold_constraints β ys
    go true ih = ih
    go false ih = ap (λ (l : List Constraint). folded_one β x ∷ l) ih

module _ (m : IndexingMap) where
  abbrev pub kept : ℕ → List Constraint
  kept k = fold_constraints (map_bounds m) (listed (constraint_at m) k)

  kept_more : (k : ℕ) → kept (suc k) ≡ kept k ++ cond (is_gone m k) [] (folded_one (map_bounds m) (constraint_at m k) ∷ [])
  unfolding listed fold_constraints
  kept_more k = constraints-append (map_bounds m) (listed (constraint_at m) k) (constraint_at m k ∷ [])

  kept-gone : (k : ℕ) → is_gone m k ≡ true → kept (suc k) ≡ kept k
  kept-gone k e = kept_more k ∙ ap (λ (b : Bool). kept k ++ cond b [] (folded_one (map_bounds m) (constraint_at m k) ∷ [])) e ∙ append-nil (kept k)

  kept-stays : (k : ℕ) → is_gone m k ≡ false → kept (suc k) ≡ kept k ++ (folded_one (map_bounds m) (constraint_at m k) ∷ [])
  kept-stays k e = kept_more k ∙ ap (λ (b : Bool). kept k ++ cond b [] (folded_one (map_bounds m) (constraint_at m k) ∷ [])) e

  trees-listed : (n : ℕ) → constraint_trees (listed (constraint_at m) n) ≡ listed (λ (k : ℕ). (constraint_at m k).expr) n
  trees-listed n = listed-map (λ (c : Constraint). c.expr) (constraint_at m) n

  kept-few : (k : ℕ) → length (kept k) ≤ k
  unfolding listed fold_constraints
  kept-few zero = omega arith
  kept-few (suc k) = go (is_gone m k) refl (kept-few k)
    where
      go : (b : Bool) → is_gone m k ≡ b → length (kept k) ≤ k → length (kept (suc k)) ≤ suc k
      go true e ih = omega (arith, ih, ap (λ (l : List Constraint). length l) (kept-gone k e))
      go false e ih = omega (arith, ih, ap (λ (l : List Constraint). length l) (kept-stays k e), length-append (kept k) (folded_one (map_bounds m) (constraint_at m k) ∷ []))

  -- the arrays that go with the constraints kept
  pub record Keeping (ks₀ : List ℕ) (vs₀ : List ℤ) (start k : ℕ) (counts : List ℕ) (lower upper : List ℤ) (ks : List ℕ) (vs : List ℤ) (at count : ℕ) : Type 0 where
    pub some : k ≤ m.constraints
    pub small : small_trees (map_bounds m) (listed (λ (k : ℕ). (constraint_at m k).expr) k) ≡ true
    pub room : Room ks vs at
    pub count-is : count ≡ length (kept k)
    pub lows : lower ≡ filled max_constraints (pos 0) (map (λ (c : Constraint). c.interval.lo) (kept k))
    pub highs : upper ≡ filled max_constraints (pos 0) (map (λ (c : Constraint). c.interval.hi) (kept k))
    pub holds : (es : List Expr) → Holds es ks₀ vs₀ start → Holds (es ++ constraint_trees (kept k)) ks vs at
    pub counted : (es : List Expr) → Holds es ks₀ vs₀ start → length (nodes_of (es ++ constraint_trees (kept k))) ≤ max_nodes
        → counts ≡ filled max_constraints 0 (map (λ (c : Constraint). node_count c.expr) (kept k))

  pub keeping_start : {counts : List ℕ} {lower upper : List ℤ} {ks : List ℕ} {vs : List ℤ} {start : ℕ} → ConstraintZeros counts lower upper → Room ks vs start
      → Keeping ks vs start 0 counts lower upper ks vs start 0
  unfolding listed fold_constraints small_trees
  keeping_start {counts} {lower} {upper} {ks} {vs} {start} z r =
      record {
        some = omega arith;
        small = refl;
        room = r;
        count-is = refl;
        lows = z.lower-zero;
        highs = z.upper-zero;
        holds = λ es h. subst (λ (l : List Expr). Holds l ks vs start) (sym (append-nil es)) h;
        counted = λ es h l. z.counts_zero;
      }

  module _ {ks₀ : List ℕ} {vs₀ : List ℤ} {start k : ℕ} {counts : List ℕ} {lower upper : List ℤ} {ks : List ℕ} {vs : List ℤ} {at count : ℕ}
      (f : Keeping ks₀ vs₀ start k counts lower upper ks vs at count) (more : k < m.constraints) where
    pub keeping-over : small_working (map_bounds m) (constraint_at m k).expr ≡ false → small_trees (map_bounds m) (constraint_trees (map_constraints m)) ≡ false
    keeping-over e =
        ap (small_trees (map_bounds m)) (trees-listed m.constraints)
        ∙ small-not (map_bounds m) (λ (k : ℕ). (constraint_at m k).expr) k m.constraints more e

    small-more : small_working (map_bounds m) (constraint_at m k).expr ≡ true → small_trees (map_bounds m) (listed (λ (k : ℕ). (constraint_at m k).expr) (suc k)) ≡ true
    small-more e = small-next (map_bounds m) (λ (k : ℕ). (constraint_at m k).expr) k f.small e

    pub keeping_gone : {ks' : List ℕ} {vs' : List ℤ} → ConstraintGoes m k ks ks' vs vs' → Keeping ks₀ vs₀ start (suc k) counts lower upper ks' vs' at count
    keeping_gone w =
        let q = kept-gone k w.gone in
        rw (w.kinds, w.values)
        (record {
          some = more;
          small = small-more w.small;
          room = f.room;
          count-is = f.count-is ∙ ap (λ (l : List Constraint). length l) (sym q);
          lows = f.lows ∙ ap (λ (l : List Constraint). filled max_constraints (pos 0) (map (λ (c : Constraint). c.interval.lo) l)) (sym q);
          highs = f.highs ∙ ap (λ (l : List Constraint). filled max_constraints (pos 0) (map (λ (c : Constraint). c.interval.hi) l)) (sym q);
          holds = λ es h. subst (λ (l : List Constraint). Holds (es ++ constraint_trees l) ks vs at) (sym q) (f.holds es h);
          counted = λ es h l.
              f.counted es h (subst (λ (x : List Constraint). length (nodes_of (es ++ constraint_trees x)) ≤ max_nodes) q l)
              ∙ ap (λ (x : List Constraint). filled max_constraints 0 (map (λ (c : Constraint). node_count c.expr) x)) (sym q);
        })

    module _ {ks' : List ℕ} {vs' : List ℤ} {r : ℕ} (w : ConstraintStays m k ks ks' vs vs' at r) where
      stays : kept (suc k) ≡ kept k ++ (folded_one (map_bounds m) (constraint_at m k) ∷ [])
      stays = kept-stays k w.stays

      trees-next : (es : List Expr) → es ++ constraint_trees (kept (suc k)) ≡ (es ++ constraint_trees (kept k)) ++ (fold_tree (map_bounds m) (constraint_at m k).expr ∷ [])
      trees-next es =
          ap (λ (l : List Constraint). es ++ constraint_trees l) stays
          ∙ ap (λ (l : List Expr). es ++ l) (map-append (λ (c : Constraint). c.expr) (kept k) (folded_one (map_bounds m) (constraint_at m k) ∷ []))
          ∙ sym (append_assoc es (constraint_trees (kept k)) (fold_tree (map_bounds m) (constraint_at m k).expr ∷ []))

      -- one entry more of an array
      entry : {A : Type 0} (h : Constraint → A) (z : A) (l : List A) → l ≡ filled max_constraints z (map h (kept k)) → (x : A) → x ≡ h (folded_one (map_bounds m) (constraint_at m k))
          → set l count x ≡ filled max_constraints z (map h (kept (suc k)))
      entry {A} h z l p x i =
          ap₂ (λ (a : List A) (b : A). set a count b) p i
          ∙ ap (λ (n : ℕ). set (filled max_constraints z (map h (kept k))) n (h (folded_one (map_bounds m) (constraint_at m k)))) (f.count-is ∙ sym (length-map (kept k) h))
          ∙ sym (filled_next max_constraints z (map h (kept k)) (h (folded_one (map_bounds m) (constraint_at m k))))
          ∙ ap (filled max_constraints z) (sym (ap (map h) stays ∙ map-append h (kept k) (folded_one (map_bounds m) (constraint_at m k) ∷ [])))

      pub place-next : at ≤ r
      place-next = omega (arith, w.written.nodes, f.room.most)

      pub keeping-stays : Keeping ks₀ vs₀ start (suc k) (set counts count (r - at))
          (set lower count (get_or m.constraint_lower k (pos 0))) (set upper count (get_or m.constraint_upper k (pos 0))) ks' vs' r (suc count)
      keeping-stays =
          record {
            some = more;
            small = small-more w.small;
            room =
                record {
                  kinds = omega (arith, w.kept.kinds, f.room.kinds);
                  values = omega (arith, w.kept.values, f.room.values);
                  most = w.kept.most;
                };
            count-is = omega (arith, f.count-is, ap (λ (l : List Constraint). length l) stays, length-append (kept k) (folded_one (map_bounds m) (constraint_at m k) ∷ []));
            lows = entry (λ (c : Constraint). c.interval.lo) (pos 0) lower f.lows (get_or m.constraint_lower k (pos 0)) refl;
            highs = entry (λ (c : Constraint). c.interval.hi) (pos 0) upper f.highs (get_or m.constraint_upper k (pos 0)) refl;
            holds = λ es h. subst (λ (l : List Expr). Holds l ks' vs' r) (sym (trees-next es)) (holds-next (f.holds es h) (fold_tree (map_bounds m) (constraint_at m k).expr) w.written);
            counted = λ es h l.
                let c = count_next (es ++ constraint_trees (kept k)) (fold_tree (map_bounds m) (constraint_at m k).expr) at r (f.holds es h) w.written
                (subst (λ (x : List Expr). length (nodes_of x) ≤ max_nodes) (trees-next es) l) in
                entry (λ (c : Constraint). node_count c.expr) 0 counts (f.counted es h c.0) (r - at) c.1;
          }

    pub count-below : count < m.constraints
    count-below = omega (arith, f.count-is, kept-few k)

  pub keeping-end : {ks₀ : List ℕ} {vs₀ : List ℤ} {start k : ℕ} {counts : List ℕ} {lower upper : List ℤ} {ks : List ℕ} {vs : List ℤ} {at count : ℕ}
      → Keeping ks₀ vs₀ start k counts lower upper ks vs at count → m.constraints ≤ k
      → ConstraintsFolded m counts lower upper ks₀ ks vs₀ vs start (record { at = at; count = count })
  keeping-end {ks₀} {vs₀} {start} {k} {counts} {lower} {upper} {ks} {vs} {at} {count} f h =
      let e : k ≡ m.constraints = omega (arith, f.some) in
      let F = subst (λ (n : ℕ). Keeping ks₀ vs₀ start n counts lower upper ks vs at count) e f in
      record {
        small = ap (small_trees (map_bounds m)) (trees-listed m.constraints) ∙ F.small;
        count = F.count-is;
        lows = F.lows;
        highs = F.highs;
        holds = λ es g. F.holds es g;
        counted = λ es g l. F.counted es g l;
      }
