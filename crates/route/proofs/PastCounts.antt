-- What a record holds past its counts alters nothing, nor does the first station's parent: lists of stations that agree
-- up to these have one answer. Assumes nothing.
use Rattle.std.specs.Prelude.{Ok, Err}
use mathlib.Core.Path.{◌≡◌, refl, sym, ap, ap₂, ◌∙◌}
use mathlib.Core.Bool.{Bool, ◌&&◌, cond}
use mathlib.Core.List.{List, ◌∷◌}
use Prim.Native.Nat.{ℕ, zero, suc, ◌<◌, min}
use native.Mathlib.Omega.{arith}
use lib.Dec.{leb, ltb}
use lib.ListN.{length}
use Rattle.radix.specs.Radix.{max_count, every}
use Rattle.radix.proofs.Tests.{every-agree}
use Rattle.refusal.specs.Judge.{Rule, unless, judge}
use Rattle.refusal.specs.declared.Refusal.TheVariants.{ShapeLimits, Attribute, LayoutRule}
use Rattle.refusal.specs.Judge.{Verdict}
use Rattle.shape.specs.Shape.{good_shape}
use Rattle.shape.specs.declared.Shape.{Shape}
use Rattle.layout.specs.Layout.{good_layout, padded_of}
use Rattle.layout.specs.Agree.{LayoutsAgree}
use Rattle.layout.specs.declared.Layout.{Layout}
use Rattle.layout.proofs.Agree.{good-agree, padded-agree}
use Rattle.tree_plan.specs.Answer.{tree_answer}
use Rattle.tree_plan.proofs.Alike.{Alike, answer-alike}
use Rattle.route.specs.Same.{same_list, same_tiles, same_layout, move_of}
use Rattle.route.specs.Stations.{station_at, layout_at, good_count, good_parent, good_layouts, good_sizes, counts_kept, parents_kept, layouts_kept, sizes_kept, tree_of}
use Rattle.route.specs.LayoutRepeats.{repeat_rule}
use Rattle.route.specs.Route.{good_limits, records_read, numbers_kept, route_rules, breaks_no_rule, route_of}
use Rattle.route.specs.Loading.{first_refusal, size_rules}
use Rattle.route.specs.declared.Station.{Station}
use Rattle.route.proofs.LayoutRepeats.{rule-alike}
use Rattle.route.proofs.Judging.{rule-first, unbroken}
use Rattle.route.proofs.Answering.{answer-refused, answer-planned, tree-formed, tree-small}

-- two lists of stations that agree up to their counts; the first station's parent may be any
pub record StationsAgree (xs ys : List Station) : Type 0 where
  pub long : length xs ≡ length ys
  pub parent : (i : ℕ) → (station_at xs (suc i)).parent ≡ (station_at ys (suc i)).parent
  pub count : (i : ℕ) → (station_at xs i).count ≡ (station_at ys i).count
  pub layouts : (i a : ℕ) → a < (station_at xs i).count → LayoutsAgree (layout_at (station_at xs i) a) (layout_at (station_at ys i) a)

same-agree : (a b c d : Layout) → LayoutsAgree a b → LayoutsAgree c d → same_layout a c ≡ same_layout b d
unfolding same_layout
same-agree a b c d A C = ap₂ ◌&&◌ (ap₂ same_list A.order C.order) (ap₂ same_tiles A.entries C.entries)

move-agree : (a b c d : Layout) → LayoutsAgree a b → LayoutsAgree c d → move_of a c ≡ move_of b d
move-agree a b c d A C = ap (λ (t : Bool). cond {A = ℕ} t 0 1) (same-agree a b c d A C)

module _ (s : Shape) (xs ys : List Station) (A : StationsAgree xs ys) where
  layouts-agree : (i : ℕ) → good_layouts s.rank (station_at xs i) ≡ good_layouts s.rank (station_at ys i)
  layouts-agree i =
      every-agree _ _ (station_at xs i).count (λ a l. good-agree s.rank _ _ (A.layouts i a l))
      ∙ ap (every (λ (a : ℕ). good_layout s.rank (layout_at (station_at ys i) a))) (A.count i)

  sizes-agree : (i : ℕ) → good_sizes s (station_at xs i) ≡ good_sizes s (station_at ys i)
  sizes-agree i =
      every-agree _ _ (station_at xs i).count (λ a l. ap (λ (p : ℕ). leb p max_count) (padded-agree s _ _ (A.layouts i a l)))
      ∙ ap (every (λ (a : ℕ). leb (padded_of s (layout_at (station_at ys i) a)) max_count)) (A.count i)

  parent-agree : (i : ℕ) → good_parent i (station_at xs i) ≡ good_parent i (station_at ys i)
  parent-agree zero = refl
  parent-agree (suc i) = ap (λ (p : ℕ). ltb p (suc i)) (A.parent i)

  numbers-agree : (n : ℕ) → numbers_kept xs n ≡ numbers_kept ys n
  unfolding numbers_kept counts_kept parents_kept
  numbers-agree n =
      ap₂ ◌&&◌
      (every-agree (λ (i : ℕ). good_count (station_at xs i)) (λ (i : ℕ). good_count (station_at ys i)) n (λ i l. ap (λ (c : ℕ). leb 1 c && leb c 8) (A.count i)))
      (every-agree (λ (i : ℕ). good_parent i (station_at xs i)) (λ (i : ℕ). good_parent i (station_at ys i)) n (λ i l. parent-agree i))

  repeats-agree : (n : ℕ) (zs : List Rule) → judge (repeat_rule xs n ∷ zs) ≡ judge (repeat_rule ys n ∷ zs)
  repeats-agree n zs =
      sym (rule-first (repeat_rule xs n) zs)
      ∙ ap (λ (v : Verdict). first_refusal v (judge zs))
      (rule-alike xs ys n (λ i l. A.count i) (λ i a b l g f. same-agree _ _ _ _ (A.layouts i a (omega arith)) (A.layouts i b f)))
      ∙ rule-first (repeat_rule ys n) zs

  module _ (number cells moves : ℕ) where
    rules-agree : judge (route_rules s xs number cells moves) ≡ judge (route_rules s ys number cells moves)
    unfolding layouts_kept sizes_kept
    rules-agree =
        rw (
          A.long,
          numbers-agree (min number (length ys)),
          every-agree (λ (i : ℕ). good_layouts s.rank (station_at xs i)) (λ (i : ℕ). good_layouts s.rank (station_at ys i)) (min number (length ys)) (λ i l. layouts-agree i),
          every-agree (λ (i : ℕ). good_sizes s (station_at xs i)) (λ (i : ℕ). good_sizes s (station_at ys i)) (min number (length ys)) (λ i l. sizes-agree i),
        )
        (ap (λ (v : Verdict). unless (good_shape s) ShapeLimits (unless (good_limits number cells moves && numbers_kept ys (records_read ys number)) Attribute (unless (layouts_kept s ys (records_read ys number)) LayoutRule v)))
        (repeats-agree (records_read ys number) (size_rules (sizes_kept s ys (records_read ys number)) (length ys) number)))

    module _ (clean : breaks_no_rule s xs number cells moves) where
      clean2 : breaks_no_rule s ys number cells moves
      clean2 = sym rules-agree ∙ clean

      alike : Alike (tree_of s xs number cells) (tree_of s ys number cells)
      alike =
          record {
            stations = refl;
            cells = refl;
            parent = λ i l. A.parent i;
            count = λ i l. A.count i;
            size = λ i a l g. padded-agree s _ _ (A.layouts i a g);
            moved =
                λ i a b l g f.
                move-agree _ _ _ _ (A.layouts (station_at xs (suc i)).parent a g) (A.layouts (suc i) b f)
                ∙ ap (λ (k : ℕ). move_of (layout_at (station_at ys k) a) (layout_at (station_at ys (suc i)) b)) (A.parent i);
          }

      same : tree_answer (tree_of s xs number cells) moves ≡ tree_answer (tree_of s ys number cells) moves
      same =
          let U = unbroken s xs number cells moves clean in
          let U2 = unbroken s ys number cells moves clean2 in
          answer-alike _ _ (tree-formed s xs number cells moves U) (tree-formed s ys number cells moves U2) alike
          (tree-small s xs number cells moves U)
          (tree-small s ys number cells moves U2)
          moves

      done-agree : route_of s xs number cells moves ≡ route_of s ys number cells moves
      done-agree =
          sym (answer-planned s xs number cells moves clean _ refl) ∙ answer-planned s ys number cells moves clean2 _ same

    -- one answer, refused or not
    pub past-counts : route_of s xs number cells moves ≡ route_of s ys number cells moves
    past-counts = go (judge (route_rules s xs number cells moves)) refl
      where
        go : (v : Verdict) → judge (route_rules s xs number cells moves) ≡ v → route_of s xs number cells moves ≡ route_of s ys number cells moves
        go (Ok tt) e = done-agree e
        go (Err r) e = sym (answer-refused s xs number cells moves r e) ∙ answer-refused s ys number cells moves r (sym rules-agree ∙ e)
