-- From the planner's answer to the answer of the call. Assumes nothing.
use Rattle.std.specs.Prelude.{Ok, Err, Option, Some, None}
use Rattle.std.specs.Option.{ok_or}
use mathlib.Core.Path.{◌≡◌, refl, sym, ap, ◌∙◌, subst}
use mathlib.Core.Bool.{Bool, true, false, cond}
use mathlib.Core.List.{List, [], ◌∷◌, ◌++◌}
use Prim.Native.Nat.{ℕ, suc, ◌+◌, ◌*◌, ◌<◌, ◌≤◌}
use native.Mathlib.Numerals.{add-one}
use native.Mathlib.Omega.{arith}
use borrow.Author.Tests.{leb-true, ltb-true}
use lib.Dec.{leb}
use lib.ListN.{length, get_or}
use Rattle.radix.specs.Radix.{max_count}
use Rattle.radix.proofs.Tests.{every-at}
use Rattle.refusal.specs.Judge.{Rule, rule, judge, unless}
use Rattle.refusal.specs.Number.{Answer, answered, done, refusal}
use Rattle.refusal.specs.declared.Refusal.{Refusal}
use Rattle.refusal.specs.declared.Refusal.TheVariants.{NoPlan}
use Rattle.refusal.specs.Judge.{Verdict}
use Rattle.refusal.proofs.Judged.{kept, after-done, after-refused}
use Rattle.shape.specs.Shape.{good_shape}
use Rattle.shape.specs.declared.Shape.{Shape}
use Rattle.layout.specs.Layout.{padded_of}
use Rattle.plan.specs.Answer.{spread}
use Rattle.plan.specs.declared.Plan.{Plan}
use Rattle.tree_plan.specs.Tree.{Earlier, Formed}
use Rattle.tree_plan.specs.Weight.{best_plan, has_plan}
use Rattle.tree_plan.specs.Answer.{tree_answer}
use Rattle.tree_plan.proofs.Bounds.{Small}
use Rattle.tree_plan.proofs.Alike.{Alike, answer-alike}
use Rattle.tree_plan.proofs.Theorems.{best-found}
use Rattle.tree_planner.specs.Words.{tabled, Usable}
use Rattle.tree_planner.proofs.Theorems.{tabled-formed, tabled-small}
use Rattle.route.specs.Same.{move_of}
use Rattle.route.specs.Stations.{station_at, layout_at, good_sizes, sizes_kept, tree_of}
use Rattle.route.specs.Route.{route_rules, plan_rule, route_zeros, route_values, route_of, route_answer, breaks_no_rule}
use Rattle.route.specs.Loading.{Reads, feeding, Sound, Holds, Entered, Judges, Answers}
use Rattle.route.specs.declared.Station.{Station}
use Rattle.route.specs.declared.load.Loaded.{Loaded}
use Rattle.route.proofs.Entering.{counts-low, parents-low, feeding-is, move-low}
use Rattle.route.proofs.Judging.{Limited, Unbroken, unbroken}

-- the tables are what the planner asks for
pub usable :
    (h : Loaded) (number cells moves : ℕ) →
    length h.parents ≡ 64 →
    length h.counts ≡ 64 →
    length h.sizes ≡ 512 →
    length h.moved ≡ 4096 →
    Sound h →
    Limited number cells moves →
    Usable h.parents h.counts h.sizes h.moved number cells
usable h number cells moves p a b c S L =
    record {
      some = L.some;
      few = L.few;
      parents-in = p;
      counts-in = a;
      sizes-in = b;
      moved_in = c;
      cells_in = L.cells_in;
      parent = λ i l. S.parents i;
      count = S.counts;
      low = λ k. omega (arith, S.sizes k);
      ones = S.ones;
    }

-- padded sizes within 2^40 are exact
sizes-low : (s : Shape) (ys : List Station) (n : ℕ) → sizes_kept s ys n ≡ true → (i a : ℕ) → i < n → a < (station_at ys i).count → padded_of s (layout_at (station_at ys i) a) ≤ max_count
unfolding sizes_kept
sizes-low s ys n e i a l g =
    leb-true _ _
    (every-at (λ (b : ℕ). leb (padded_of s (layout_at (station_at ys i) b)) max_count) (station_at ys i).count
    (every-at (λ (k : ℕ). good_sizes s (station_at ys k)) n e i l)
    a
    g)

-- the tree of an input that breaks no rule is one that the planner takes
module _ (s : Shape) (ys : List Station) (number cells moves : ℕ) (U : Unbroken s ys number cells moves) where
  pub tree-formed : Formed (tree_of s ys number cells)
  unfolding Earlier
  tree-formed =
      record {
        some = U.limits.some;
        few = U.limits.few;
        places = λ i l. (counts-low ys number U.numbers i l).1;
        earlier = parents-low ys number U.numbers;
      }

  pub tree-small : Small (tree_of s ys number cells)
  tree-small = record { cells = U.limits.cells_in; moved = λ i a b. move-low _ _ }

-- the tables hold the tree of the stations
pub tables-alike :
    (s : Shape) (ys : List Station) (h : Loaded) (number cells moves : ℕ) →
    Unbroken s ys number cells moves →
    Entered s ys number h →
    Alike (tabled h.parents h.counts h.sizes h.moved number cells) (tree_of s ys number cells)
tables-alike s ys h number cells moves U E =
    record {
      stations = refl;
      cells = refl;
      parent = λ i l. rw (← add-one i) (E.parents i (omega arith));
      count = E.counts;
      size =
          λ i a l g.
          let f : a < (station_at ys i).count = omega (arith, E.counts i l) in
          omega (arith, E.sizes i a l f, sizes-low s ys number U.sizes i a l f);
      moved = moved;
    }
  where
    moved :
        (i a b : ℕ) →
        suc i < number →
        a < get_or h.counts (get_or h.parents (suc i) 0) 0 →
        b < get_or h.counts (suc i) 0 →
        get_or h.moved ((suc i * 8 + a) * 8 + b) 0
        ≡ move_of (layout_at (station_at ys (station_at ys (suc i)).parent) a) (layout_at (station_at ys (suc i)) b)
    moved i a b l g f =
        let p : get_or h.parents (suc i) 0 ≡ (station_at ys (suc i)).parent = rw (← add-one i) (E.parents i (omega arith)) in
        let q : (station_at ys (suc i)).parent < suc i = omega (arith, rw add-one at (parents-low ys number U.numbers i (omega arith))) in
        let e : feeding (suc i) (station_at ys (suc i)) ≡ (station_at ys (suc i)).parent = feeding-is (suc i) (station_at ys (suc i)) q in
        let g' : a < (station_at ys (feeding (suc i) (station_at ys (suc i)))).count =
        omega (arith, ap (λ (k : ℕ). get_or h.counts k 0) p, E.counts (station_at ys (suc i)).parent (omega arith), ap (λ (k : ℕ). (station_at ys k).count) e)
        in
        E.moved (suc i) a b l g' (omega (arith, E.counts (suc i) l))
        ∙ ap (λ (k : ℕ). move_of (layout_at (station_at ys k) a) (layout_at (station_at ys (suc i)) b)) e

-- the answer to a plan that is found, or not
abbrev pub planned : Option Plan → Answer ℕ
planned (Some p) = done (p.places ++ (p.total ∷ []))
planned None = refusal route_zeros NoPlan

-- a planner's answer: these places and this total, or none
abbrev pub picked : List ℕ → ℕ → Bool → Option Plan
picked places total b = cond {A = Option Plan} b (Some (record { places = places; total = total })) None

-- behind rules that are kept it is the answer, or rule 10
pub after-rules :
    (places : List ℕ) (total : ℕ) (b : Bool) (rules : List Rule) →
    judge rules ≡ Ok tt →
    (p : Option Plan) →
    p ≡ picked places total b →
    (values : List ℕ) →
    (b ≡ true → values ≡ places ++ (total ∷ [])) →
    planned p ≡ answered route_zeros (judge (rules ++ (rule b NoPlan ∷ []))) values
after-rules places total b rules k p q values v =
    ap planned q
    ∙ go b v
    ∙ ap (λ (w : Verdict). answered route_zeros w values) (sym (after-done rules (rule b NoPlan ∷ []) k))
  where
    go :
        (t : Bool) →
        (t ≡ true → values ≡ places ++ (total ∷ [])) →
        planned (picked places total t) ≡ answered route_zeros (unless t NoPlan (Ok tt)) values
    go true w = ap done (sym (w refl))
    go false w = refl

-- a plan that was asked for, or a refusal for want of one
pub some-of : (o : Option Plan) (e : Refusal) (p : Plan) → ok_or o e ≡ Ok p → o ≡ Some p
some-of None e p q = cc
some-of (Some x) e p q = cc

pub none-of : (o : Option Plan) (e r : Refusal) → ok_or o e ≡ Err r → (o ≡ None) × (r ≡ e)
none-of None e r q = (refl, cc)
none-of (Some x) e r q = (cc, cc)

module _ (s : Shape) (ys : List Station) (number cells moves : ℕ) where
  pub answer-refused :
      (r : Refusal) → judge (route_rules s ys number cells moves) ≡ Err r → route_answer (Err r) ≡ route_of s ys number cells moves
  unfolding route_of
  answer-refused r e =
      sym
      (ap (λ v. answered route_zeros v (route_values s ys number cells moves))
      (after-refused (route_rules s ys number cells moves) (plan_rule s ys number cells moves ∷ []) r e))

  module _ (e : breaks_no_rule s ys number cells moves) where
    -- the answer from the planner's
    pub answer-planned :
        (p : Option Plan) → p ≡ tree_answer (tree_of s ys number cells) moves → planned p ≡ route_of s ys number cells moves
    unfolding route_of tree_answer
    answer-planned p q =
        let F = tree-formed s ys number cells moves (unbroken s ys number cells moves e) in
        after-rules _ _ (has_plan (tree_of s ys number cells) moves) (route_rules s ys number cells moves) e p q
        (route_values s ys number cells moves)
        (λ h.
        ap (λ (t : ℕ). spread number (best_plan (tree_of s ys number cells) moves) ++ (t ∷ []))
        (sym (best-found (tree_of s ys number cells) F moves (ltb-true _ _ h)).total))

    pub answer-none : has_plan (tree_of s ys number cells) moves ≡ false → route_answer (Err NoPlan) ≡ route_of s ys number cells moves
    unfolding route_of
    answer-none f =
        sym
        (ap (λ v. answered route_zeros v (route_values s ys number cells moves))
        (after-done (route_rules s ys number cells moves) (plan_rule s ys number cells moves ∷ []) e ∙ ap (λ (b : Bool). unless b NoPlan (Ok tt)) f))

    pub answer-values : has_plan (tree_of s ys number cells) moves ≡ true → done (route_values s ys number cells moves) ≡ route_of s ys number cells moves
    unfolding route_of
    answer-values f =
        sym
        (ap (λ v. answered route_zeros v (route_values s ys number cells moves))
        (after-done (route_rules s ys number cells moves) (plan_rule s ys number cells moves ∷ []) e ∙ ap (λ (b : Bool). unless b NoPlan (Ok tt)) f))

-- the answer from what was read
module _ (s : Shape) (h : Loaded) (len number cells moves : ℕ) where
  pub finish-refused : (r : Refusal) → Judges s h len number cells moves (Err r) → Answers s h len number cells moves (Err r)
  finish-refused r J =
      record { answer = λ ys n e R H. answer-refused s ys number cells moves r (sym (J.judged ys n e R H)) }

  module _ (J : Judges s h len number cells moves (Ok tt)) (p : Option Plan)
      (q : p ≡ tree_answer (tabled h.parents h.counts h.sizes h.moved number cells) moves)
      (u : Usable h.parents h.counts h.sizes h.moved number cells) where
    module _ (ys : List Station) (n : ℕ) (e : length ys ≡ len) (R : Reads s number len n) (H : Holds s ys n h) where
      clean : breaks_no_rule s ys number cells moves
      clean = sym (J.judged ys n e R H)

      facts : Unbroken s ys number cells moves
      facts = unbroken s ys number cells moves clean

      -- the planner's answer is that of the tree of the stations
      made : p ≡ tree_answer (tree_of s ys number cells) moves
      made =
          let U = facts in
          let m : n ≡ number = omega (arith, R.all (kept (good_shape s) _ _ clean) U.limits.few, U.long) in
          let K : Holds s ys number h = subst (λ (k : ℕ). Holds s ys k h) m H in
          q
          ∙ answer-alike _ _ (tabled-formed _ _ _ _ _ _ u) (tree-formed s ys number cells moves U)
          (tables-alike s ys h number cells moves U (K.entered U.numbers U.layouts))
          (tabled-small _ _ _ _ _ _ u)
          (tree-small s ys number cells moves U)
          moves

    pub finish-none : p ≡ None → Answers s h len number cells moves (Err NoPlan)
    finish-none f =
        record {
          answer =
              λ ys n e R H.
              ap planned (sym f) ∙ answer-planned s ys number cells moves (clean ys n e R H) p (made ys n e R H);
        }

    pub finish-some :
        (v : Plan) → p ≡ Some v → Answers s h len number cells moves (Ok (record { places = v.places; total = v.total }))
    finish-some v f =
        record {
          answer =
              λ ys n e R H.
              ap planned (sym f) ∙ answer-planned s ys number cells moves (clean ys n e R H) p (made ys n e R H);
        }
