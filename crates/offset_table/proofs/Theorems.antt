-- The theorems on tables of offsets: what is found in one, and which layout of a list makes it. Assumes nothing.
use Rattle.std.specs.Prelude.{Ok, Err}
use mathlib.Core.Path.{◌≡◌, ap, ◌∙◌}
use mathlib.Core.Logic.{◌↔◌, inl, inr}
use mathlib.Core.List.{List, [], ◌∷◌}
use Prim.Native.Nat.{ℕ, ◌<◌, ◌≤◌}
use native.Mathlib.Omega.{arith}
use lib.ListN.{length, get_or}
use borrow.Author.Tests.{le-leb}
use Rattle.radix.specs.Radix.{max_count}
use Rattle.radix.proofs.Radix.{is-tab}
use Rattle.refusal.specs.Number.{Answer, done, refusal}
use Rattle.refusal.specs.Judge.{judge}
use Rattle.refusal.specs.declared.Refusal.{Refusal}
use Rattle.refusal.specs.declared.Refusal.TheVariants.{NoLayout}
use Rattle.shape.specs.Shape.{max_rank, count_of}
use Rattle.shape.specs.declared.Shape.{Shape}
use Rattle.shape.proofs.Theorems.{pair-exactly, pair-nowhere}
use Rattle.layout.specs.Layout.{padded_of, offset_of, layout_rules}
use Rattle.layout.specs.declared.Layout.{Layout}
use Rattle.layout.proofs.Accepted.{Arrays, accepted}
use Rattle.layout.proofs.Rules.{done-shape, done-size}
use Rattle.offset_table.specs.Table.{first_outside, Found, sound, outside, shared, pair_found, found_in, AllInside, AllDifferent, FirstOutside, FirstShared}
use Rattle.offset_table.specs.Makes.{table_of, Makes, layout_at, first_maker, FirstMaker, NoMaker, ListsAgree}
use Rattle.offset_table.specs.Answers.{max_elements, max_listed, found_values, table_judged, question_rules, breaks_no_rule, layout_named}
use Rattle.offset_table.proofs.Found.{outside-is, outside-first, all-passed, all-inside, found-outside, found-pair, Went, out, pair, clean, went, only-earlier}
use Rattle.offset_table.proofs.Rules.{unbroken, unbroken-list}
use Rattle.offset_table.proofs.Naming.{named-refused, named-found, maker-before, named-is, is-named, missed-all, all-missed}
use Rattle.offset_table.proofs.OwnTables.{own-makes, own-table, own-inside, own-apart}
use Rattle.offset_table.proofs.PastCounts.{named-agree}

-- ---- what is found in a table

module _ (xs : List ℕ) (padded : ℕ) where
  -- A table is sound exactly when every offset is inside and no two are the same.
  pub sound-exactly : (found_in xs padded ≡ sound) ↔ (AllInside xs padded × AllDifferent xs)
  sound-exactly = (
    λ e. go (found_in xs padded) (went xs padded) e,
    λ p. found-pair xs padded (all-passed xs padded p.0) ∙ ap pair_found ((pair-nowhere xs).1 p.1),
  )
    where
      go : (f : Found) → Went xs padded f → f ≡ sound → AllInside xs padded × AllDifferent xs
      go _ (out h) e = let z : ◌≡◌ {A = ℕ} 0 1 = cc in absurd (omega arith)
      go _ (pair h i k q) e = let z : ◌≡◌ {A = ℕ} 0 1 = cc in absurd (omega arith)
      go _ (clean h q) e = (all-inside xs padded h, (pair-nowhere xs).0 q)

  -- The element named as outside is the first that is, whatever else is wrong with the table.
  pub outside-exactly : (k : ℕ) → (found_in xs padded ≡ outside k) ↔ FirstOutside xs padded k
  outside-exactly k = (
    λ e. go (found_in xs padded) (went xs padded) e,
    λ p. let q = outside-is xs padded k p in found-outside xs padded (omega (arith, p.inside)) ∙ ap outside q,
  )
    where
      go : (f : Found) → Went xs padded f → f ≡ outside k → FirstOutside xs padded k
      go _ (out h) e = let q : first_outside xs padded ≡ k = cc in rw (← q) (outside-first xs padded h)
      go _ (pair h i j q) e = let z : ◌≡◌ {A = ℕ} 0 1 = cc in absurd (omega arith)
      go _ (clean h q) e = let z : ◌≡◌ {A = ℕ} 0 1 = cc in absurd (omega arith)

  -- The pair named is the first that shares a cell, the later one searched from the front; every offset is inside.
  pub shared-exactly : (e l : ℕ) → (found_in xs padded ≡ shared e l) ↔ (AllInside xs padded × FirstShared xs e l)
  shared-exactly e l = (
    λ q. go (found_in xs padded) (went xs padded) q,
    λ p. found-pair xs padded (all-passed xs padded p.0) ∙ ap pair_found ((pair-exactly xs e l).1 p.1),
  )
    where
      go : (f : Found) → Went xs padded f → f ≡ shared e l → AllInside xs padded × FirstShared xs e l
      go _ (out h) q = let z : ◌≡◌ {A = ℕ} 0 1 = cc in absurd (omega arith)
      go _ (pair h i k f) q =
          let a : i ≡ e = cc in
          let b : k ≡ l = cc in
          (all-inside xs padded h, rw (← a, ← b) ((pair-exactly xs i k).0 f))
      go _ (clean h f) q = let z : ◌≡◌ {A = ℕ} 0 1 = cc in absurd (omega arith)

-- No other element before the later one shares that cell.
pub shared-only : (xs : List ℕ) (e l i : ℕ) → FirstShared xs e l → i < l → get_or xs i 0 ≡ get_or xs l 0 → i ≡ e
shared-only = only-earlier

-- ---- which layout makes a table

module _ (s : Shape) (xs : List ℕ) (padded : ℕ) (ys : List Layout) (count : ℕ) where
  -- Where one of the rules 1 to 4 is broken, the answer is the refusal of the first.
  pub rule-refused :
      (r : Refusal) →
      judge (question_rules s xs padded ys count) ≡ Err r →
      layout_named s xs padded ys count ≡ refusal (0 ∷ []) r
  rule-refused = named-refused s xs padded ys count

  -- The layout answered makes the table, and none before it does.
  pub named-first :
      (i : ℕ) →
      (layout_named s xs padded ys count ≡ done (i ∷ []))
      ↔ (breaks_no_rule s xs padded ys count × FirstMaker s xs padded ys count i)
  named-first i = (
    λ e. (unbroken s xs padded ys count (inl (ap (λ (a : Answer ℕ). a.number) e)), named-is s xs padded ys count i e),
    λ p. is-named s xs padded ys count p.0 i p.1,
  )

  -- 12 exactly when no rule is broken and no layout of the list makes the table.
  pub named_none :
      (layout_named s xs padded ys count ≡ refusal (0 ∷ []) NoLayout)
      ↔ (breaks_no_rule s xs padded ys count × NoMaker s xs padded ys count)
  named_none = (
    λ e.
        let u = unbroken s xs padded ys count (inr (ap (λ (a : Answer ℕ). a.number) e)) in
        (u, missed-all s xs padded ys count u e),
    λ p. all-missed s xs padded ys count p.0 p.1,
  )

-- A table of the shape's length that a layout makes is that layout's own.
pub makes-own :
    (s : Shape) (xs : List ℕ) (padded : ℕ) (l : Layout) →
    length xs ≡ count_of s →
    Makes s xs padded l →
    xs ≡ table_of s l
makes-own s xs padded l e m = is-tab (offset_of s l) xs (count_of s) e m.offsets

-- What stands past the list's count, or past the counts of its layouts, alters no answer and no refusal.
pub past-counts-alter-nothing :
    (s : Shape) (xs : List ℕ) (padded : ℕ) (ys zs : List Layout) (count : ℕ) →
    ListsAgree ys zs count →
    layout_named s xs padded ys count ≡ layout_named s xs padded zs count
past-counts-alter-nothing = named-agree

-- ---- the tables of our own layouts

module _ (s : Shape) (l : Layout) where
  module _ (six : length s.sizes ≡ max_rank) (arrays : Arrays l) (e : judge (layout_rules s l) ≡ Ok tt) where
    -- The table of an accepted shape and layout is sound.
    pub own-sound : found_in (table_of s l) (padded_of s l) ≡ sound
    own-sound =
        let good = accepted s l six arrays e in
        (sound-exactly (table_of s l) (padded_of s l)).1 (own-inside s l good, own-apart s l good)

    -- With at most 4,096 elements it is judged so.
    pub own-judged :
        count_of s ≤ max_elements → table_judged s (table_of s l) (padded_of s l) ≡ done (found_values sound)
    unfolding table_judged
    own-judged h =
        rw (done-shape s l e, own-table s l h, le-leb (padded_of s l) max_count (done-size s l e), own-sound)

    -- Asked with 1 to 64 accepted layouts of which one is its own, it is answered: with that place or an earlier one.
    pub own-named :
        (ys : List Layout) (count i : ℕ) →
        count_of s ≤ max_elements →
        count ≤ max_listed →
        ((k : ℕ) → k < count → judge (layout_rules s (layout_at ys k)) ≡ Ok tt) →
        i < count →
        layout_at ys i ≡ l →
        (first_maker s (table_of s l) (padded_of s l) ys count ≤ i)
        × (layout_named s (table_of s l) (padded_of s l) ys count
        ≡ done (first_maker s (table_of s l) (padded_of s l) ys count ∷ []))
    own-named ys count i h few each g q =
        let m : Makes s (table_of s l) (padded_of s l) (layout_at ys i) = rw q (own-makes s l) in
        let b = maker-before s (table_of s l) (padded_of s l) ys count i m in
        let u =
        unbroken-list s ys count each (table_of s l) (padded_of s l) few (own-table s l h) own-sound
        (done-shape s l e) (omega arith) (done-size s l e)
        in
        (b, named-found s (table_of s l) (padded_of s l) ys count u (omega arith))

  -- Asked with a list that holds its layout it is never 12, whatever else the list holds.
  pub own-never-12 :
      (ys : List Layout) (count i : ℕ) →
      i < count →
      layout_at ys i ≡ l →
      layout_named s (table_of s l) (padded_of s l) ys count ≡ refusal (0 ∷ []) NoLayout →
      ⊥
  own-never-12 ys count i h q e =
      ((named_none s (table_of s l) (padded_of s l) ys count).0 e).1 i h (rw q (own-makes s l))
