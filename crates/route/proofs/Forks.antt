-- A tree without forks: its answer is that of the stations in a row. Assumes nothing.
use Rattle.std.specs.Prelude.{Ok, Err}
use mathlib.Core.Path.{◌≡◌, refl, sym, ap, ap₂, ◌∙◌}
use mathlib.Core.Bool.{Bool, ◌&&◌}
use mathlib.Core.List.{List, [], ◌∷◌, ◌++◌}
use Prim.Native.Nat.{ℕ}
use native.Mathlib.Numerals.{add-one}
use native.Mathlib.Omega.{arith}
use borrow.Author.Tests.{ltb-true}
use Rattle.refusal.specs.Number.{answered}
use Rattle.refusal.specs.Judge.{judge}
use Rattle.refusal.specs.Judge.{Verdict}
use Rattle.refusal.proofs.Judged.{after-refused}
use Rattle.shape.specs.declared.Shape.{Shape}
use Rattle.plan.specs.Value.{best_plan, has_plan}
use Rattle.plan.specs.Answer.{spread, plan_answer}
use Rattle.plan.proofs.Alike.{Alike, answer-alike}
use Rattle.plan.proofs.Theorems.{best-found}
use Rattle.tree_plan.specs.Answer.{tree_answer, in_row}
use Rattle.tree_plan.specs.Answer as Fork
use Rattle.tree_plan.proofs.Chain.{before}
use Rattle.tree_plan.proofs.Theorems.{row-answer}
use Rattle.route.specs.Same.{move_of}
use Rattle.route.specs.Stations.{station_at, layout_at, counts_kept, tree_of}
use Rattle.route.specs.Route.{records_read, numbers_kept, route_rules, breaks_no_rule, route_zeros, route_of}
use Rattle.route.specs.Chain.{net_of, chain_rules, chain_plan_rule, chain_values, chain_of, Unforked}
use Rattle.route.specs.declared.Station.{Station}
use Rattle.route.proofs.Tables.{and-keep}
use Rattle.route.proofs.Entering.{counts-low}
use Rattle.route.proofs.Judging.{Unbroken, unbroken}
use Rattle.route.proofs.Answering.{after-rules, answer-refused, answer-planned, planned, tree-formed, tree-small}

module _ (s : Shape) (ys : List Station) (number cells moves : ℕ) (U : Unforked ys (records_read ys number)) where
  -- every parent keeps its rule, so the rules are the old ones
  numbers-same : numbers_kept ys (records_read ys number) ≡ counts_kept ys (records_read ys number)
  unfolding numbers_kept
  numbers-same =
      ap (λ (b : Bool). counts_kept ys (records_read ys number) && b) U.earlier ∙ and-keep (counts_kept ys (records_read ys number))

  rules-same : judge (route_rules s ys number cells moves) ≡ judge (chain_rules s ys number cells moves)
  rules-same = rw numbers-same refl

  module _ (clean : breaks_no_rule s ys number cells moves) where
    facts : Unbroken s ys number cells moves
    facts = unbroken s ys number cells moves clean

    unforked : Fork.Unforked (tree_of s ys number cells)
    unfolding Fork.Unforked
    unforked i j l m e = let q = facts.long in U.once i j (omega arith) (omega arith) e

    -- the tree with its stations in a row
    row-alike : Alike (in_row (tree_of s ys number cells)) (net_of s ys number cells)
    row-alike =
        record {
          stations = refl;
          cells = refl;
          some = λ i l. (counts-low ys number facts.numbers i l).0;
          count = λ i l. refl;
          size = λ i a l g. refl;
          moved =
              λ i a b l g f.
              ap₂ (λ (u v : ℕ). move_of (layout_at (station_at ys u) a) (layout_at (station_at ys v) b))
              (before (tree_of s ys number cells) (tree-formed s ys number cells moves facts) unforked i (omega arith))
              (sym (add-one i));
        }

    same-plan : tree_answer (tree_of s ys number cells) moves ≡ plan_answer (net_of s ys number cells) moves
    same-plan =
        row-answer (tree_of s ys number cells) (tree-formed s ys number cells moves facts) unforked (tree-small s ys number cells moves facts) moves
        ∙ answer-alike _ _ row-alike moves

    chain-planned :
        planned (plan_answer (net_of s ys number cells) moves)
        ≡ chain_of s ys number cells moves
    unfolding chain_of plan_answer
    chain-planned =
        after-rules _ _ (has_plan (net_of s ys number cells) moves) (chain_rules s ys number cells moves) (sym rules-same ∙ clean) _ refl
        (chain_values s ys number cells moves)
        (λ h.
        ap (λ (t : ℕ). spread number (best_plan (net_of s ys number cells) moves) ++ (t ∷ []))
        (sym (best-found (net_of s ys number cells) moves (ltb-true _ _ h)).total))

    clean-same : route_of s ys number cells moves ≡ chain_of s ys number cells moves
    clean-same = sym (answer-planned s ys number cells moves clean _ (sym same-plan)) ∙ chain-planned

  pub unforked-same : route_of s ys number cells moves ≡ chain_of s ys number cells moves
  unfolding chain_of
  unforked-same = go (judge (route_rules s ys number cells moves)) refl
    where
      go : (v : Verdict) → judge (route_rules s ys number cells moves) ≡ v → route_of s ys number cells moves ≡ chain_of s ys number cells moves
      go (Ok tt) e = clean-same e
      go (Err r) e =
          sym (answer-refused s ys number cells moves r e)
          ∙ sym
          (ap (λ w. answered route_zeros w (chain_values s ys number cells moves))
          (after-refused (chain_rules s ys number cells moves) (chain_plan_rule s ys number cells moves ∷ []) r (sym rules-same ∙ e)))
