-- Laws of judging: a call that is judged done keeps its first rule and the rest. Assumes nothing.
use Rattle.std.specs.Prelude.{Ok, Err}
use mathlib.Core.Path.{◌≡◌, refl}
use mathlib.Core.Bool.{Bool, true, false}
use mathlib.Core.List.{List, [], ◌∷◌, ◌++◌}
use Rattle.refusal.specs.Judge.{Rule, Verdict, unless, judge}
use Rattle.refusal.specs.declared.Refusal.{Refusal}

pub kept : (b : Bool) (r : Refusal) (v : Verdict) → unless b r v ≡ Ok tt → b ≡ true
kept true r v e = refl
kept false r v e = cc

pub rest : (b : Bool) (r : Refusal) (v : Verdict) → unless b r v ≡ Ok tt → v ≡ Ok tt
rest true r v e = e
rest false r v e = cc

-- a verdict that is a refusal is not done
pub never_done : {A : Type 0} (v : Verdict) (r : Refusal) → v ≡ Err r → v ≡ Ok tt → A
never_done v r e f = cc

-- rules judged after others
pub after-done : (xs ys : List Rule) → judge xs ≡ Ok tt → judge (xs ++ ys) ≡ judge ys
after-done [] ys e = refl
after-done (x ∷ xs) ys e = rw (kept x.kept x.otherwise (judge xs) e) (after-done xs ys (rest x.kept x.otherwise (judge xs) e))

pub after-refused : (xs ys : List Rule) (r : Refusal) → judge xs ≡ Err r → judge (xs ++ ys) ≡ Err r
after-refused [] ys r e = cc
after-refused (x ∷ xs) ys r e = go (after-refused xs ys r) x.kept e
  where
    go : (judge xs ≡ Err r → judge (xs ++ ys) ≡ Err r) → (b : Bool) → unless b x.otherwise (judge xs) ≡ Err r → unless b x.otherwise (judge (xs ++ ys)) ≡ Err r
    go ih true e = ih e
    go ih false e = e

-- and what is judged done together is judged done apart
pub before-done : (xs ys : List Rule) → judge (xs ++ ys) ≡ Ok tt → judge xs ≡ Ok tt
before-done [] ys e = refl
before-done (x ∷ xs) ys e =
    rw (kept x.kept x.otherwise (judge (xs ++ ys)) e) (before-done xs ys (rest x.kept x.otherwise (judge (xs ++ ys)) e))
