-- The answer to a list that holds a layout twice: given where it is due, and only there. Assumes nothing.
use Rattle.std.specs.Prelude.{Ok, Err}
use mathlib.Core.Path.{◌≡◌, refl, sym, ap, ◌∙◌, subst}
use mathlib.Core.Bool.{Bool, true, false, ◌&&◌}
use mathlib.Core.List.{List, [], ◌∷◌, head-eq_of_cons-eq, tail-eq_of_cons-eq}
use Prim.Native.Nat.{ℕ}
use native.Mathlib.Omega.{arith}
use lib.Dec.{leb}
use lib.ListN.{length}
use Rattle.radix.proofs.Tests.{and_left, and_right}
use Rattle.refusal.specs.Number.{places_of, refusal, answered}
use Rattle.refusal.specs.Judge.{unless, judge}
use Rattle.refusal.specs.declared.Refusal.{Refusal}
use Rattle.refusal.specs.declared.Refusal.TheVariants.{ShapeLimits, Attribute, RepeatedLayout, LayoutRule, PaddedSize, ShortBuffer, NoPlan}
use Rattle.refusal.specs.Judge.{Verdict}
use Rattle.shape.specs.Shape.{good_shape}
use Rattle.shape.specs.declared.Shape.{Shape}
use Rattle.shape.specs.Repeats.{earlier_in}
use Rattle.tree_plan.specs.Weight.{has_plan}
use Rattle.route.specs.Stations.{station_at, layouts_kept, sizes_kept, tree_of}
use Rattle.route.specs.LayoutRepeats.{same_at, repeat_station, repeat_rule, FirstLayoutRepeat}
use Rattle.route.specs.Route.{good_limits, records_read, numbers_kept, route_rules, route_zeros, route_values, route_of}
use Rattle.route.specs.Loading.{first_refusal, size_rules}
use Rattle.route.specs.declared.Station.{Station}
use Rattle.route.proofs.LayoutRepeats.{rule-named, named-first}
use Rattle.route.proofs.Judging.{rule-first}
use Rattle.route.proofs.Answering.{answer-refused}

module _ (s : Shape) (ys : List Station) (number cells moves : ℕ) where
  -- as many records as are read
  abbrev n : ℕ
  n = records_read ys number

  pub answer-repeat :
      good_shape s ≡ true →
      good_limits number cells moves ≡ true →
      numbers_kept ys n ≡ true →
      layouts_kept s ys n ≡ true →
      {i e l : ℕ} →
      FirstLayoutRepeat ys n i e l →
      route_of s ys number cells moves ≡ refusal route_zeros (RepeatedLayout i e l)
  answer-repeat g m c k {i} {e} {l} F = sym (answer-refused s ys number cells moves (RepeatedLayout i e l) judged)
    where
      rest : judge (repeat_rule ys n ∷ size_rules (sizes_kept s ys n) (length ys) number) ≡ Err (RepeatedLayout i e l)
      rest =
          sym (rule-first (repeat_rule ys n) (size_rules (sizes_kept s ys n) (length ys) number))
          ∙ ap (λ (v : Verdict). first_refusal v (judge (size_rules (sizes_kept s ys n) (length ys) number))) (rule-named ys n F)

      judged : judge (route_rules s ys number cells moves) ≡ Err (RepeatedLayout i e l)
      judged = rw (g, m, c, k) rest

  module _ (i e l : ℕ) where
    -- an answer that names these three
    abbrev Names : Verdict → Type 0
    Names v = (answered route_zeros v (route_values s ys number cells moves)).places ≡ i ∷ e ∷ l ∷ []

    none_named : {A : Type 0} → ◌≡◌ {A = List ℕ} [] (i ∷ e ∷ l ∷ []) → A
    none_named q = absurd (let z : ◌≡◌ {A = ℕ} 0 3 = ap length q in omega arith)

    -- a rule without places is kept, and what is judged after it names them
    passed : (b : Bool) (r : Refusal) (v : Verdict) → places_of r ≡ [] → Names (unless b r v) → (b ≡ true) × Names v
    passed true r v p q = (refl, q)
    passed false r v p q = none_named (sym p ∙ q)

    -- what is judged after a repeat
    abbrev after : Verdict
    after =
        unless (sizes_kept s ys n) PaddedSize
        (unless (leb number (length ys)) ShortBuffer (unless (has_plan (tree_of s ys number cells) moves) NoPlan (Ok tt)))

    none_after : {A : Type 0} → Names after → A
    none_after p =
        let p2 = (passed (sizes_kept s ys n) PaddedSize _ refl p).1 in
        let p3 = (passed (leb number (length ys)) ShortBuffer _ refl p2).1 in
        none_named (passed (has_plan (tree_of s ys number cells) moves) NoPlan (Ok tt) refl p3).1

    named : Names (unless (repeat_rule ys n).kept (repeat_rule ys n).otherwise after) → FirstLayoutRepeat ys n i e l
    named q = go (repeat_rule ys n).kept refl q
      where
        x : Station
        x = station_at ys (repeat_station ys n)

        go : (b : Bool) → (repeat_rule ys n).kept ≡ b → Names (unless b (repeat_rule ys n).otherwise after) → FirstLayoutRepeat ys n i e l
        go true k p = none_after p
        go false k p =
            let t = tail-eq_of_cons-eq p in
            subst (λ (j : ℕ). FirstLayoutRepeat ys n j e l) (head-eq_of_cons-eq p)
            (subst (λ (j : ℕ). FirstLayoutRepeat ys n (repeat_station ys n) j l) (head-eq_of_cons-eq t)
            (subst (λ (j : ℕ). FirstLayoutRepeat ys n (repeat_station ys n) (earlier_in (same_at x) x.count) j) (head-eq_of_cons-eq (tail-eq_of_cons-eq t))
            (named-first ys n k)))

    pub repeat-of :
        (route_of s ys number cells moves).places ≡ i ∷ e ∷ l ∷ [] →
        (good_shape s ≡ true)
        × (good_limits number cells moves ≡ true)
        × (numbers_kept ys n ≡ true)
        × (layouts_kept s ys n ≡ true)
        × FirstLayoutRepeat ys n i e l
    unfolding route_of
    repeat-of q =
        let p1 = passed (good_shape s) ShapeLimits _ refl q in
        let p2 = passed (good_limits number cells moves && numbers_kept ys n) Attribute _ refl p1.1 in
        let p3 = passed (layouts_kept s ys n) LayoutRule _ refl p2.1 in (
          p1.0,
          and_left (good_limits number cells moves) (numbers_kept ys n) p2.0,
          and_right (good_limits number cells moves) (numbers_kept ys n) p2.0,
          p3.0,
          named p3.1,
        )
