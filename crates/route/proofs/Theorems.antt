-- The theorems on a route: refused exactly when no plan is admitted; else the plan is admitted, least, and first in
-- list order among equals. Assumes nothing.
use Rattle.std.specs.Prelude.{Err}
use mathlib.Core.Path.{◌≡◌, refl, sym, ap, ◌∙◌}
use mathlib.Core.Bool.{Bool, true, false, cond}
use mathlib.Core.Logic.{◌⊎◌}
use mathlib.Core.List.{List, [], ◌∷◌, ◌++◌}
use Prim.Native.Nat.{ℕ, suc, ◌*◌, ◌^◌, ◌<◌, ◌≤◌}
use native.Mathlib.Omega.{arith}
use lib.ListN.{get_or}
use borrow.Author.Tests.{ltb-true, ltb-false}
use Rattle.refusal.specs.Number.{Answer, done, refusal}
use Rattle.refusal.specs.Judge.{judge}
use Rattle.refusal.specs.declared.Refusal.{Refusal}
use Rattle.refusal.specs.declared.Refusal.TheVariants.{Attribute, RepeatedLayout, NoPlan}
use Rattle.shape.specs.Shape.{good_shape}
use Rattle.shape.specs.declared.Shape.{Shape}
use Rattle.layout.specs.declared.Layout.{Layout}
use Rattle.plan.specs.Net.{Before}
use Rattle.plan.specs.Answer.{spread}
use Rattle.tree_plan.specs.Tree.{Tree, Formed, plan_cost, Admitted, Best}
use Rattle.tree_plan.specs.Weight.{has_plan}
use Rattle.tree_plan.proofs.Bounds.{Small}
use Rattle.tree_plan.proofs.Theorems.{best-found, none_found, cost-at-most, best-one}
use Rattle.route.specs.Same.{same_layout, move_of}
use Rattle.route.specs.Stations.{station_at, layout_at, layouts_kept, IsPlan, tree_of}
use Rattle.route.specs.LayoutRepeats.{FirstLayoutRepeat}
use Rattle.route.specs.Route.{good_limits, records_read, numbers_kept, route_rules, breaks_no_rule, route_zeros, route_plan, route_values, route_of}
use Rattle.route.specs.Chain.{chain_of, Unforked}
use Rattle.route.specs.declared.Station.{Station}
use Rattle.route.proofs.Written.{Written, written_same, same-written}
use Rattle.route.proofs.LayoutRepeats.{named-first, kept-different, twice-broken}
use Rattle.route.proofs.Judging.{unbroken, late-parent}
use Rattle.route.proofs.Answering.{answer-refused, answer-none, answer-values, tree-formed, tree-small}
use Rattle.route.proofs.Forks.{unforked-same}
use Rattle.route.proofs.PastCounts.{StationsAgree, past-counts}
use Rattle.route.proofs.RepeatAnswers.{answer-repeat, repeat-of}
use Rattle.route.proofs.Plans.{admitted-plan, same-plan}

-- A station and its parent do not move exactly when their layouts have the same order and the same tiles, up to their
-- counts.
pub no_move : (a b : Layout) → move_of a b ≡ 0 → Written a b
no_move a b e = written_same a b (go (same_layout a b) e)
  where
    go : (t : Bool) → ◌≡◌ {A = ℕ} (cond t 0 1) 0 → t ≡ true
    go true e = refl
    go false e = absurd (omega arith)

pub same-no-move : (a b : Layout) → Written a b → move_of a b ≡ 0
same-no-move a b w = ap (λ (t : Bool). cond {A = ℕ} t 0 1) (same-written a b w)

-- What a record holds past its counts alters no answer and no refusal; nor does what stands in the place of the first
-- station's parent.
pub past-counts-alter-nothing :
    (s : Shape) (xs ys : List Station) →
    StationsAgree xs ys →
    (number cells moves : ℕ) →
    route_of s xs number cells moves ≡ route_of s ys number cells moves
past-counts-alter-nothing = past-counts

-- Where one of the rules 1 to 9 is broken, the answer is the refusal of the first, with zeros for all values.
pub rule-refused :
    (s : Shape) (ys : List Station) (number cells moves : ℕ) (r : Refusal) →
    judge (route_rules s ys number cells moves) ≡ Err r →
    route_of s ys number cells moves ≡ refusal route_zeros r
rule-refused s ys number cells moves r e = sym (answer-refused s ys number cells moves r e)

-- A station other than the first whose parent is not an earlier station is refused with 2, on the records read.
pub parent-refused :
    (s : Shape) (ys : List Station) (number cells moves i : ℕ) →
    good_shape s ≡ true →
    suc i < records_read ys number →
    suc i ≤ (station_at ys (suc i)).parent →
    route_of s ys number cells moves ≡ refusal route_zeros Attribute
parent-refused s ys number cells moves i g l h =
    sym (answer-refused s ys number cells moves Attribute (late-parent s ys number cells moves i g l h))

-- On a tree without forks the answer, plan, total and refusal, is the old one, of the stations in a row.
pub unforked-as-before :
    (s : Shape) (ys : List Station) (number cells moves : ℕ) →
    Unforked ys (records_read ys number) →
    route_of s ys number cells moves ≡ chain_of s ys number cells moves
unforked-as-before = unforked-same

-- A list that holds a layout twice is refused with 3, naming the first such station and the first repeat of its list,
-- wherever 1, 2 and every other cause of 3 do not apply: before 4, 9 and 10.
pub repeat-refused :
    (s : Shape) (ys : List Station) (number cells moves : ℕ) →
    good_shape s ≡ true →
    good_limits number cells moves ≡ true →
    numbers_kept ys (records_read ys number) ≡ true →
    layouts_kept s ys (records_read ys number) ≡ true →
    (i e l : ℕ) →
    FirstLayoutRepeat ys (records_read ys number) i e l →
    route_of s ys number cells moves ≡ refusal route_zeros (RepeatedLayout i e l)
repeat-refused s ys number cells moves g m c k i e l F = answer-repeat s ys number cells moves g m c k F

-- And only then: where an answer names three places, none of these applies, and the places are the first station, of
-- those read, whose list holds a layout twice, and the first repeat of that list.
pub refused-repeat :
    (s : Shape) (ys : List Station) (number cells moves i e l : ℕ) →
    (route_of s ys number cells moves).places ≡ i ∷ e ∷ l ∷ [] →
    (good_shape s ≡ true)
    × (good_limits number cells moves ≡ true)
    × (numbers_kept ys (records_read ys number) ≡ true)
    × (layouts_kept s ys (records_read ys number) ≡ true)
    × FirstLayoutRepeat ys (records_read ys number) i e l
refused-repeat s ys number cells moves i e l q = repeat-of s ys number cells moves i e l q

-- There is such a first repeat as soon as one list holds two layouts equal as written.
pub first-repeat-exists :
    (ys : List Station) (n i a b : ℕ) →
    i < n →
    a < b →
    b < (station_at ys i).count →
    Written (layout_at (station_at ys i) a) (layout_at (station_at ys i) b) →
    (j : ℕ) × (e : ℕ) × (l : ℕ) × FirstLayoutRepeat ys n j e l
first-repeat-exists ys n i a b h l g w = (_, _, _, named-first ys n (twice-broken ys n i a b h l g (same-written _ _ w)))

module _ (s : Shape) (ys : List Station) (number cells moves : ℕ) (clean : breaks_no_rule s ys number cells moves) where
  abbrev tree : Tree
  tree = tree_of s ys number cells

  abbrev plan : List ℕ
  plan = route_plan s ys number cells moves

  formed : Formed tree
  formed = tree-formed s ys number cells moves (unbroken s ys number cells moves clean)

  small : Small tree
  small = tree-small s ys number cells moves (unbroken s ys number cells moves clean)

  -- Of an input that breaks no rule: two plans with the same layouts at every station, as written, are the same plan.
  pub same-layouts-same-plan :
      (p q : List ℕ) →
      IsPlan ys number p →
      IsPlan ys number q →
      ((i : ℕ) →
      i < number →
      Written (layout_at (station_at ys i) (get_or p i 0)) (layout_at (station_at ys i) (get_or q i 0))) →
      p ≡ q
  same-layouts-same-plan =
      same-plan ys number (kept-different ys number (unbroken s ys number cells moves clean).lists)

  -- Admitted plans are such plans.
  pub admitted-is-plan : (p : List ℕ) → Admitted tree moves p → IsPlan ys number p
  admitted-is-plan = admitted-plan s ys number cells moves

  abbrev Refused10 : Type 0
  Refused10 = (route_of s ys number cells moves).number ≡ 10

  has-plan : (Refused10 → ⊥) → has_plan tree moves ≡ true
  has-plan n = go (has_plan tree moves) refl
    where
      go : (b : Bool) → has_plan tree moves ≡ b → b ≡ true
      go true e = refl
      go false e = absurd (n (ap (λ (a : Answer ℕ). a.number) (sym (answer-none s ys number cells moves clean e))))

  -- Of an input that breaks no rule: where a plan is admitted, the answer is done, with the best plan and its cost.
  pub answered-best :
      (p : List ℕ) →
      Admitted tree moves p →
      (route_of s ys number cells moves ≡ done (route_values s ys number cells moves)) × Best tree moves (plan_cost tree plan) plan
  answered-best p a = go (has_plan tree moves) refl
    where
      go :
          (b : Bool) →
          has_plan tree moves ≡ b →
          (route_of s ys number cells moves ≡ done (route_values s ys number cells moves)) × Best tree moves (plan_cost tree plan) plan
      go true e =
          let B = best-found tree formed moves (ltb-true _ _ e) in (
            sym (answer-values s ys number cells moves clean e),
            record { admitted = B.admitted; total = refl; least = B.least; first = B.first },
          )
      go false e =
          absurd (none_found tree formed small moves (ltb-false _ _ e) p a)

  -- It is refused with 10 exactly when no plan is admitted.
  pub refused-when-none : ((p : List ℕ) → Admitted tree moves p → ⊥) → route_of s ys number cells moves ≡ refusal route_zeros NoPlan
  refused-when-none none = go (has_plan tree moves) refl
    where
      go : (b : Bool) → has_plan tree moves ≡ b → route_of s ys number cells moves ≡ refusal route_zeros NoPlan
      go true e = absurd (none plan (best-found tree formed moves (ltb-true _ _ e)).admitted)
      go false e = sym (answer-none s ys number cells moves clean e)

  pub none-when-refused : (route_of s ys number cells moves).number ≡ 10 → (p : List ℕ) → Admitted tree moves p → ⊥
  none-when-refused e p a =
      let z : ◌≡◌ {A = ℕ} 0 10 = sym (ap (λ (x : Answer ℕ). x.number) (answered-best p a).0) ∙ e in
      omega arith

  module _ (not10 : (route_of s ys number cells moves).number ≡ 10 → ⊥) where
    best : Best tree moves (plan_cost tree plan) plan
    best =
        let B = best-found tree formed moves (ltb-true _ _ (has-plan not10)) in
        record { admitted = B.admitted; total = refl; least = B.least; first = B.first }

    -- Otherwise the values are the plan, one place a station and zeros in the unused ones, and its cost.
    pub plan-and-total : route_of s ys number cells moves ≡ done (spread number plan ++ (plan_cost tree plan ∷ []))
    plan-and-total = sym (answer-values s ys number cells moves clean (has-plan not10))

    -- The plan keeps both limits.
    pub plan-admitted : Admitted tree moves plan
    plan-admitted = best.admitted

    -- Every admitted plan costs at least as much.
    pub plan-least : (q : List ℕ) → Admitted tree moves q → plan_cost tree plan ≤ plan_cost tree q
    plan-least = best.least

    -- Every other admitted plan of equal cost comes later in list order.
    pub plan-first : (q : List ℕ) → Admitted tree moves q → plan_cost tree q ≡ plan_cost tree plan → (q ≡ plan) ⊎ Before plan q
    plan-first = best.first

    -- So the answer is the only one that the rules allow.
    pub only-answer : (q : List ℕ) (total : ℕ) → Best tree moves total q → (q ≡ plan) × (total ≡ plan_cost tree plan)
    only-answer q total b = best-one tree moves total (plan_cost tree plan) q plan b best

    -- The total is at most 190 * 2^40: 2^40 for each of 64 stations, twice that for each of 63 moves.
    pub total_at_most : plan_cost tree plan ≤ 190 * 2 ^ 40
    total_at_most = cost-at-most tree formed small moves plan plan-admitted
