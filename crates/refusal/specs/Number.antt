-- The table of refusals: the number of each case, and the values that an answer carries. Assumes nothing.
use Rattle.std.specs.Prelude.{ℕ, List, [], ◌∷◌, Ok, Err}
use Rattle.refusal.specs.declared.Refusal.{Refusal}
use Rattle.refusal.specs.declared.Refusal.TheVariants.{ShapeLimits, Attribute, Repeat, LayoutRule, RepeatedLayout, PaddedSize, Outside, WrongLength, CountLimit, WorkingLimit, ShortBuffer, NoPlan, NoLayout}
use Rattle.refusal.specs.Judge.{Verdict}

-- the number in the table
abbrev pub number_of : Refusal → ℕ
number_of ShapeLimits = 1
number_of Attribute = 2
number_of (Repeat e l) = 2
number_of LayoutRule = 3
number_of (RepeatedLayout s e l) = 3
number_of PaddedSize = 4
number_of Outside = 5
number_of WrongLength = 6
number_of CountLimit = 7
number_of WorkingLimit = 8
number_of ShortBuffer = 9
number_of NoPlan = 10
number_of NoLayout = 12

-- what a refusal itself carries: a repeat its two places, a repeated layout its station and the two places
abbrev pub places_of : Refusal → List ℕ
places_of ShapeLimits = []
places_of Attribute = []
places_of (Repeat e l) = e ∷ l ∷ []
places_of LayoutRule = []
places_of (RepeatedLayout s e l) = s ∷ e ∷ l ∷ []
places_of PaddedSize = []
places_of Outside = []
places_of WrongLength = []
places_of CountLimit = []
places_of WorkingLimit = []
places_of ShortBuffer = []
places_of NoPlan = []
places_of NoLayout = []

-- an answer on paper: the number (0 for done), the values, and the places of a repeat
pub record Answer (A : Type 0) : Type 0 where
  pub number : ℕ
  pub values : List A
  pub places : List ℕ

-- done, with these values
abbrev pub done : {A : Type 0} → List A → Answer A
done xs = record { number = 0; values = xs; places = [] }

-- refused: zeros for all values
abbrev pub refusal : {A : Type 0} → List A → Refusal → Answer A
refusal zeros r = record { number = number_of r; values = zeros; places = places_of r }

-- the answer that a verdict makes: these values, or zeros
abbrev pub answered : {A : Type 0} → List A → Verdict → List A → Answer A
answered zeros (Ok _) xs = done xs
answered zeros (Err r) xs = refusal zeros r

-- a call that hands back nothing else has no values
abbrev pub verdict_answer : Verdict → Answer ℕ
verdict_answer (Ok _) = done []
verdict_answer (Err r) = refusal [] r
