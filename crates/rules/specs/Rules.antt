-- What the functions that apply one rule promise over words. Assumes nothing.
use Rattle.std.specs.Prelude.{◌≡◌, Bool, true, cond, List, [], ◌∷◌, ℕ, ◌+◌, ◌*◌, ◌<◌, ◌≤◌, leb, ltb, ℤ, pos, nat_abs, ◌+ℤ◌, ◌*ℤ◌, neg_ℤ, length, drop, take, ◌<ℤ◌}
use Rattle.integer.specs.Gcd.{gcd_of}
use Rattle.integer.specs.Floor.{floor_mod}
use Rattle.integer.specs.Exact.{limit}
use Rattle.expression.specs.Expression.{Kind, Op, floordiv, modulo, Range, span, eqℤ, op_range}
use Rattle.expression.specs.Node.{max_divisor, is_divisor}
use Rattle.folding.specs.Sum.{Atom, Sum, term_count, sum_size, op_number}
use Rattle.folding.specs.Fold.{Step, is, again, part_r, one_quotient, quotient_of, divisors_tried, keeps_all}
use Rattle.folding.specs.Working.{small_sum}
use Rattle.folding.specs.Folded.{FoldedS}
use Rattle.words.specs.Words.{sum_words}
use Rattle.words.specs.Saturated.{saturate_sum, shifted}
use Rattle.rules.specs.Outcome.{outcome_room, Safe}
use Rattle.rules.specs.declared.Applied.{Applied}
use Rattle.rules.specs.declared.Applied.TheVariants as A
use Rattle.rules.specs.declared.applying.Found.{Found}
use Rattle.rules.specs.declared.applying.Found.TheVariants as F

-- ---- the search of rule 2

-- g where it is below b and above r, else r
unfoldable pub larger_below : ℕ → ℕ → ℕ → ℕ
larger_below b g r = cond (ltb g b) (cond (ltb r g) g r) r

-- the largest gcd of c with a coefficient's size that is below b, or 1
unfoldable pub next_divisor : ℕ → ℕ → Sum → ℕ
next_divisor c b (Sum.const k) = 1
next_divisor c b (Sum.term e a t) = larger_below b (gcd_of c (nat_abs e)) (next_divisor c b t)

-- the next gcd below b, for the sum of n terms at p
pub record Nexts (w : List ℤ) (p n c b r : ℕ) : Type 0 where
  pub low : 1 ≤ r
  pub high : 1 < b → r < b
  pub is : (β : Kind → ℕ → Range) (t : Sum) (x : List ℤ) → n ≡ term_count t → drop p w ≡ sum_words β t x → r ≡ next_divisor c b t

-- the first of the numbers tried at which rule 2 fits, with its q, where no R tried before passes a limit
unfoldable pub fitting_of : (Kind → ℕ → Range) → Sum → List ℕ → Found
fitting_of β t [] = F.None
fitting_of β t (g ∷ gs) =
    let r = part_r g t in
    cond (small_sum β r) (cond (one_quotient β g r) (F.At (pos g) (quotient_of β g r)) (fitting_of β t gs)) F.Passed

-- a g found is from 1 to c
abbrev pub InSearch : ℕ → Found → Type 0
InSearch c F.Passed = Unit {0}
InSearch c (F.At g q) = (pos 0 <ℤ g) × (nat_abs g ≤ c)
InSearch c F.None = Unit {0}

-- the search, for the sum of n terms at p; room is the length of the scratch
pub record Searches (w : List ℤ) (p n c room : ℕ) (r : Found) : Type 0 where
  pub safe : InSearch c r
  pub is : (β : Kind → ℕ → Range) (t : Sum) (x : List ℤ) → n ≡ term_count t → drop p w ≡ sum_words β t x → 7 * sum_size t + 1 ≤ room
      → r ≡ fitting_of β t (divisors_tried c t)

-- ---- what rules 3 and 4 test

-- whether nothing leaves the sum of n terms at p
pub record Keeps (w : List ℤ) (p n c : ℕ) (r : Bool) : Type 0 where
  pub is : (β : Kind → ℕ → Range) (t : Sum) (x : List ℤ) → n ≡ term_count t → drop p w ≡ sum_words β t x → r ≡ keeps_all c t

-- a number that is a divisor, from 1 to 2^40, else 0
unfoldable pub kept_divisor : ℤ → ℤ
kept_divisor z = cond (is_divisor z) z (pos 0)

-- the divisor a * c of rule 4, or 0 where it does not fit
unfoldable pub nested_divisor : Op → ℕ → Sum → ℕ
nested_divisor modulo c t = 0
nested_divisor floordiv c (Sum.const k) = 0
nested_divisor floordiv c (Sum.term e (Atom.var k n) t) = 0
nested_divisor floordiv c (Sum.term e (Atom.op modulo x a) t) = 0
nested_divisor floordiv c (Sum.term e (Atom.op floordiv x a) (Sum.term f b t)) = 0
nested_divisor floordiv c (Sum.term e (Atom.op floordiv x a) (Sum.const k)) =
    cond (eqℤ e (pos 1)) (cond (eqℤ k (pos 0)) (cond (leb (a * c) max_divisor) (a * c) 0) 0) 0

-- rule 4's divisor, for the sum of n terms at p
pub record Nests (op : ℕ) (w : List ℤ) (p n c : ℕ) (r : ℤ) : Type 0 where
  pub safe : (r ≡ pos 0 → ⊥) → (pos 0 <ℤ r) × (nat_abs r ≤ max_divisor)
  pub is : (β : Kind → ℕ → Range) (o : Op) (t : Sum) (x : List ℤ) → op ≡ op_number o → n ≡ term_count t → drop p w ≡ sum_words β t x → FoldedS β t
      → r ≡ pos (nested_divisor o c t)

-- ---- numbers

-- the ends of a floordiv or mod
pub record OpEnds (op : ℕ) (lo hi : ℤ) (c : ℕ) (l h : ℤ) : Type 0 where
  pub is : (o : Op) → op ≡ op_number o → span l h ≡ op_range o (span lo hi) c

-- q * g for an R that keeps the limits is at most this, since the range's end lies less than g away
abbrev pub max_multiple : ℕ
max_multiple = limit + max_divisor

-- the constant of R - q * g
pub record Leaves (k q g r : ℤ) : Type 0 where
  pub is : nat_abs (q *ℤ g) ≤ max_multiple → r ≡ neg_ℤ (q *ℤ g) +ℤ floor_mod k (nat_abs g)

-- z more in the constant of the last sum that stands before end
pub record Shifts (out out' : List ℤ) (end : ℕ) (z : ℤ) (r : ℕ) : Type 0 where
  pub same : length out' ≡ length out
  pub high : r ≤ length out
  pub is : (β : Kind → ℕ → Range) (t : Sum) → take end out ≡ sum_words β t [] → take r out' ≡ sum_words β (shifted z t) []

-- ---- what a step makes stands as words

-- the step is a sum
pub record SumStands (β : Kind → ℕ → Range) (step : Step) (out : List ℤ) (terms end : ℕ) : Type 0 where
  pub u : Sum
  pub applied : step ≡ is u
  pub standing : take end out ≡ sum_words β u []
  pub counted : terms ≡ term_count u

-- the step is a new floordiv or mod, and the sum that is added stands behind it; u's constant is kept or passes the limit
pub record OpStands (β : Kind → ℕ → Range) (step : Step) (out : List ℤ) (factor divisor : ℤ) (terms end restTerms restEnd : ℕ) : Type 0 where
  pub u : Sum
  pub a : Sum
  pub applied : step ≡ again factor u (nat_abs divisor) a
  pub standing : take end out ≡ sum_words β (saturate_sum u) []
  pub counted : terms ≡ term_count u
  pub behind : drop end (take restEnd out) ≡ sum_words β a []
  pub rest-counted : restTerms ≡ term_count a

-- whichever the step is
abbrev pub StepStands : (Kind → ℕ → Range) → Step → List ℤ → Applied → Type 0
StepStands β step out A.Passed = ⊥
StepStands β step out (A.Sum terms end) = SumStands β step out terms end
StepStands β step out (A.Again g) = OpStands β step out g.factor g.divisor g.terms g.end g.rest_terms g.rest_end

-- a new floordiv or mod
abbrev pub new_op : ℤ → ℤ → ℕ → ℕ → ℕ → ℕ → Applied
new_op factor divisor terms end restTerms restEnd =
    A.Again (record { factor = factor; divisor = divisor; terms = terms; end = end; rest_terms = restTerms; rest_end = restEnd })

-- nothing more is given of the sum
abbrev pub Always : (Kind → ℕ → Range) → Sum → Type 0
Always β t = Unit {0}

-- R at g keeps the limits, and q is its quotient
abbrev pub Trial : ℕ → ℤ → (Kind → ℕ → Range) → Sum → Type 0
Trial g q β t = (small_sum β (part_r g t) ≡ true) × (q ≡ quotient_of β g (part_r g t))

-- the sum of n terms at p, where what is given of it holds: the step stands as words
pub record Takes (Given : (Kind → ℕ → Range) → Sum → Type 0) (step : Op → Sum → Step) (op : ℕ) (w : List ℤ) (p n : ℕ) (out out' : List ℤ) (r : Applied) : Type 0 where
  pub same : length out' ≡ length out
  pub safe : Safe (length out) r
  pub outcome : (β : Kind → ℕ → Range) (o : Op) (t : Sum) (x : List ℤ) → op ≡ op_number o → n ≡ term_count t → drop p w ≡ sum_words β t x
      → FoldedS β t → small_sum β t ≡ true → outcome_room t ≤ length out → Given β t → StepStands β (step o t) out' r
