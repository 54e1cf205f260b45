-- Answers by rules: of a map at a point, and of calls that make a map. Assumes nothing.
use Rattle.std.specs.Prelude.{Ok, Err}
use mathlib.Core.Path.{◌≡◌, refl, sym, ap, ◌∙◌}
use mathlib.Core.Logic.{◌↔◌}
use mathlib.Core.Bool.{Bool}
use mathlib.Core.List.{List, [], ◌∷◌, ◌++◌}
use native.Mathlib.Omega.{arith}
use lib.IntN.{ℤ}
use Rattle.refusal.specs.Number.{answered, done, refusal}
use Rattle.refusal.specs.Judge.{Rule, unless, judge}
use Rattle.refusal.specs.declared.Refusal.{Refusal}
use Rattle.refusal.specs.declared.Refusal.TheVariants.{Outside, WrongLength}
use Rattle.refusal.specs.Judge.{Verdict}
use Rattle.refusal.proofs.Judged.{after-done, after-refused}
use Rattle.refusal.proofs.Theorems.{number-positive}
use Rattle.indexing.specs.Map.{right_length, in_domain}
use Rattle.indexing.specs.Ready.{Accepted}
use Rattle.indexing.specs.Answers.{point_rules, no_map, map_answer, answered_map, map_by}
use Rattle.indexing.specs.declared.IndexingMap.{IndexingMap}

-- the verdict by the two rules of evaluating that an accepted map leaves
abbrev pub point_verdict : Bool → Bool → Verdict
point_verdict long inside = unless long WrongLength (unless inside Outside (Ok tt))

pub point-judged : (m : IndexingMap) → Accepted m → (ds ss : List ℤ) → judge (point_rules m ds ss) ≡ point_verdict (right_length m ds ss) (in_domain m ds ss)
point-judged m a ds ss = rw (a.formed.parts, a.formed.counts, a.ranges)

module _ (m : IndexingMap) where
  -- the answer on paper of a verdict and a map
  pub verdict-answer : (v : Verdict) → map_answer (answered_map v m) ≡ answered (no_map ∷ []) v (m ∷ [])
  verdict-answer (Ok tt) = refl
  verdict-answer (Err r) = refl

  module _ (rules : List Rule) where
    pub map-done : judge rules ≡ Ok tt → map_by rules m ≡ done (m ∷ [])
    map-done e = ap (λ (v : Verdict). answered (no_map ∷ []) v (m ∷ [])) e

    pub map-refused : (r : Refusal) → judge rules ≡ Err r → map_by rules m ≡ refusal (no_map ∷ []) r
    map-refused r e = ap (λ (v : Verdict). answered (no_map ∷ []) v (m ∷ [])) e

    -- the number is 0 exactly where every rule is kept
    pub map-number-zero : ((map_by rules m).number ≡ 0) ↔ (judge rules ≡ Ok tt)
    map-number-zero = (to (judge rules), λ e. ap (λ (v : Verdict). (answered (no_map ∷ []) v (m ∷ [])).number) e)
      where
        to : (v : Verdict) → (answered (no_map ∷ []) v (m ∷ [])).number ≡ 0 → v ≡ Ok tt
        to (Ok tt) e = refl
        to (Err r) e = absurd (omega (arith, number-positive r))

    -- rules judged after others
    pub map-after-done : (others : List Rule) → judge others ≡ Ok tt → map_answer (answered_map (judge rules) m) ≡ map_by (others ++ rules) m
    map-after-done others e = verdict-answer (judge rules) ∙ ap (λ (v : Verdict). answered (no_map ∷ []) v (m ∷ [])) (sym (after-done others rules e))

    pub map-after-refused : (others : List Rule) (r : Refusal) → judge others ≡ Err r → map_answer (Err r) ≡ map_by (others ++ rules) m
    map-after-refused others r e = ap (λ (v : Verdict). answered (no_map ∷ []) v (m ∷ [])) (sym (after-refused others rules r e))
