-- Judging: the rules of a call in the order of their numbers, and the refusal of the first that is broken. Assumes nothing.
use Rattle.std.specs.Prelude.{Bool, true, false, List, [], ◌∷◌, Result, Ok, Err}
use Rattle.refusal.specs.declared.Refusal.{Refusal}

-- the verdict of a call: done, or refused
abbrev pub Verdict : Type 0
Verdict = Result (Unit {0}) Refusal

-- a rule: whether it is kept, and the refusal where it is broken
pub record Rule : Type 0 where
  pub kept : Bool
  pub otherwise : Refusal

abbrev pub rule : Bool → Refusal → Rule
rule b r = record { kept = b; otherwise = r }

abbrev pub unless : Bool → Refusal → Verdict → Verdict
unless true r v = v
unless false r v = Err r

-- the first rule that is broken decides
abbrev pub judge : List Rule → Verdict
judge [] = Ok tt
judge (x ∷ xs) = unless x.kept x.otherwise (judge xs)
