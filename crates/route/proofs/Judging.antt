-- Judging what was read: each rule from its mark, and what an input that breaks no rule gives. Assumes nothing.
use Rattle.std.specs.Prelude.{Ok, Err}
use mathlib.Core.Path.{◌≡◌, refl, sym, ap₂, ◌∙◌, subst}
use mathlib.Core.Bool.{Bool, true, false, ◌&&◌}
use mathlib.Core.List.{List, [], ◌∷◌}
use Prim.Native.Nat.{ℕ, suc, ◌≤◌, ◌<◌}
use native.Mathlib.Omega.{arith}
use borrow.Author.Tests.{leb-true, le-ltb}
use lib.Dec.{leb}
use lib.ListN.{length}
use Rattle.radix.specs.Radix.{max_count}
use Rattle.radix.proofs.Tests.{and-false, and_left, and_right, every-not}
use Rattle.refusal.specs.Judge.{Rule, unless, judge}
use Rattle.refusal.specs.declared.Refusal.{Refusal}
use Rattle.refusal.specs.declared.Refusal.TheVariants.{ShapeLimits, Attribute, LayoutRule}
use Rattle.refusal.specs.Judge.{Verdict}
use Rattle.refusal.proofs.Judged.{kept, rest}
use Rattle.shape.specs.Shape.{good_shape}
use Rattle.shape.specs.declared.Shape.{Shape}
use Rattle.plan.specs.Answer.{max_stations}
use Rattle.route.specs.Stations.{station_at, good_parent, counts_kept, parents_kept, layouts_kept, sizes_kept}
use Rattle.route.specs.Route.{max_moves, good_limits, records_read, numbers_kept, route_rules, breaks_no_rule}
use Rattle.route.specs.LayoutRepeats.{repeat_rule}
use Rattle.route.specs.Loading.{Reads, Holds, first_refusal, size_rules, Judges}
use Rattle.route.specs.declared.Station.{Station}
use Rattle.route.specs.declared.load.Loaded.{Loaded}

-- a refusal is not done
pub not_done : {A : Type 0} (r : Refusal) → ◌≡◌ {A = Verdict} (Err r) (Ok tt) → A
not_done r e = absurd (let z : ◌≡◌ {A = ℕ} 0 1 = cc in omega arith)

-- the limits as facts
pub record Limited (number cells moves : ℕ) : Type 0 where
  pub some : 1 ≤ number
  pub few : number ≤ max_stations
  pub cells_in : cells ≤ max_count
  pub moves-in : moves ≤ max_moves

pub limited : (number cells moves : ℕ) → good_limits number cells moves ≡ true → Limited number cells moves
unfolding good_limits
limited number cells moves e =
    let a = leb 1 number && leb number max_stations in
    let b = leb 1 cells && leb cells max_count in
    let p = and_left a (b && leb moves max_moves) e in
    let q = and_right a (b && leb moves max_moves) e in
    record {
      some = leb-true 1 number (and_left (leb 1 number) (leb number max_stations) p);
      few = leb-true number max_stations (and_right (leb 1 number) (leb number max_stations) p);
      cells_in = leb-true cells max_count (and_right (leb 1 cells) (leb cells max_count) (and_left b (leb moves max_moves) q));
      moves-in = leb-true moves max_moves (and_right b (leb moves max_moves) q);
    }

-- none of the rules 1 to 9 applies, as facts
pub record Unbroken (s : Shape) (ys : List Station) (number cells moves : ℕ) : Type 0 where
  pub limits : Limited number cells moves
  pub numbers : numbers_kept ys number ≡ true
  pub layouts : layouts_kept s ys number ≡ true
  pub lists : (repeat_rule ys number).kept ≡ true
  pub sizes : sizes_kept s ys number ≡ true
  pub long : number ≤ length ys

pub unbroken : (s : Shape) (ys : List Station) (number cells moves : ℕ) → breaks_no_rule s ys number cells moves → Unbroken s ys number cells moves
unbroken s ys number cells moves e =
    let e2 = rest (good_shape s) _ _ e in
    let c = kept (good_limits number cells moves && numbers_kept ys (records_read ys number)) _ _ e2 in
    let e3 = rest (good_limits number cells moves && numbers_kept ys (records_read ys number)) _ _ e2 in
    let e4 = rest (layouts_kept s ys (records_read ys number)) _ _ e3 in
    let e5 = rest (repeat_rule ys (records_read ys number)).kept _ _ e4 in
    let e6 = rest (sizes_kept s ys (records_read ys number)) _ _ e5 in
    let l : number ≤ length ys = leb-true _ _ (kept (leb number (length ys)) _ _ e6) in
    let n : records_read ys number ≡ number = omega arith in
    record {
      limits = limited number cells moves (and_left (good_limits number cells moves) (numbers_kept ys (records_read ys number)) c);
      numbers = subst (λ (k : ℕ). numbers_kept ys k ≡ true) n (and_right (good_limits number cells moves) (numbers_kept ys (records_read ys number)) c);
      layouts = subst (λ (k : ℕ). layouts_kept s ys k ≡ true) n (kept (layouts_kept s ys (records_read ys number)) _ _ e3);
      lists = subst (λ (k : ℕ). (repeat_rule ys k).kept ≡ true) n (kept (repeat_rule ys (records_read ys number)).kept _ _ e4);
      sizes = subst (λ (k : ℕ). sizes_kept s ys k ≡ true) n (kept (sizes_kept s ys (records_read ys number)) _ _ e5);
      long = l;
    }

-- a parent that is not earlier, of a record that is read
pub late-parent :
    (s : Shape) (ys : List Station) (number cells moves i : ℕ) →
    good_shape s ≡ true →
    suc i < records_read ys number →
    suc i ≤ (station_at ys (suc i)).parent →
    judge (route_rules s ys number cells moves) ≡ Err Attribute
unfolding numbers_kept parents_kept
late-parent s ys number cells moves i g l h =
    let p : parents_kept ys (records_read ys number) ≡ false =
    every-not (λ (k : ℕ). good_parent k (station_at ys k)) (records_read ys number) (suc i) l (le-ltb _ _ h)
    in
    let q : numbers_kept ys (records_read ys number) ≡ false = and-false (counts_kept ys (records_read ys number)) p in
    rw (g, and-false (good_limits number cells moves) q)

-- a rule and the rules after it, judged apart
pub rule-first : (x : Rule) (xs : List Rule) → first_refusal (judge (x ∷ [])) (judge xs) ≡ judge (x ∷ xs)
rule-first x xs = go x.kept
  where
    go : (b : Bool) → first_refusal (unless b x.otherwise (Ok tt)) (judge xs) ≡ unless b x.otherwise (judge xs)
    go true = refl
    go false = refl

-- what was read is what the rules ask for
module _ (s : Shape) (h : Loaded) (len number cells moves : ℕ) where
  pub no-shape : good_shape s ≡ false → Judges s h len number cells moves (Err ShapeLimits)
  no-shape f = record { limits = λ q. not_done ShapeLimits q; judged = λ ys n e R H. rw f }

  module _ (g : good_shape s ≡ true) where
    pub no-limits : good_limits number cells moves ≡ false → Judges s h len number cells moves (Err Attribute)
    no-limits f = record { limits = λ q. not_done Attribute q; judged = λ ys n e R H. rw (g, f) }

    module _ (m : good_limits number cells moves ≡ true) where
      held : (ys : List Station) (n : ℕ) → length ys ≡ len → Reads s number len n → Holds s ys n h → Holds s ys (records_read ys number) h
      held ys n e R H =
          let few = (limited number cells moves m).few in
          let q : n ≡ records_read ys number = omega (arith, R.all g few) in
          subst (λ (k : ℕ). Holds s ys k h) q H

      pub no-numbers : h.numbers_kept ≡ false → Judges s h len number cells moves (Err Attribute)
      no-numbers f =
          record {
            limits = λ q. not_done Attribute q;
            judged = λ ys n e R H. rw (g, m, sym (held ys n e R H).numbers ∙ f);
          }

      module _ (c : h.numbers_kept ≡ true) where
        pub no-layouts : h.layouts_kept ≡ false → Judges s h len number cells moves (Err LayoutRule)
        no-layouts f =
            record {
              limits = λ q. not_done LayoutRule q;
              judged =
                  λ ys n e R H.
                  let K = held ys n e R H in
                  let c' = sym K.numbers ∙ c in
                  rw (g, m, c', sym (K.layouts c') ∙ f);
            }

        -- the repeat, then the rules 4 and 9
        pub after-layouts :
            h.layouts_kept ≡ true →
            (v w : Verdict) →
            w ≡ judge (size_rules h.sizes_kept len number) →
            v ≡ first_refusal h.repeat w →
            Judges s h len number cells moves v
        after-layouts l v w p q =
            record {
              limits = λ _. m;
              judged =
                  λ ys n e R H.
                  let K = held ys n e R H in
                  let c' = sym K.numbers ∙ c in
                  let l' = sym (K.layouts c') ∙ l in
                  q
                  ∙ ap₂ first_refusal (K.repeat c' l')
                  (p
                  ∙ ap₂ (λ (b : Bool) (k : ℕ). judge (size_rules b k number)) (K.sizes c' l') (sym e))
                  ∙ rw (g, m, c', l') (rule-first (repeat_rule ys (records_read ys number)) (size_rules (sizes_kept s ys (records_read ys number)) (length ys) number));
            }
