-- What the rules promise over words: one rule applied, and all of them. Assumes nothing.
use Rattle.std.specs.Prelude.{◌≡◌, Bool, true, false, cond, List, [], ℕ, ◌+◌, ◌*◌, ◌^◌, ◌<◌, ◌≤◌, eqb, ℤ, pos, nat_abs, length, drop, take, ◌<ℤ◌}
use Rattle.expression.specs.Expression.{Kind, Op, Range}
use Rattle.expression.specs.Node.{max_divisor}
use Rattle.folding.specs.Sum.{Sum, term_count, sum_size, op_number}
use Rattle.folding.specs.Fold.{is, again, divisors_tried, keeps_all, apply_rule, apply_rules}
use Rattle.folding.specs.Working.{small_sum, small_sums, rests_tried, sums_formed}
use Rattle.folding.specs.Folded.{FoldedS, weight, flag}
use Rattle.words.specs.Words.{sum_words}
use Rattle.words.specs.Saturated.{saturate_sum}
use Rattle.rules.specs.declared.Applied.{Applied}
use Rattle.rules.specs.declared.Applied.TheVariants as A

-- the most terms that the functions on words take
abbrev pub max_terms : ℕ
max_terms = 65536

-- words that one rule needs for its outcome: both parts, or an atom more
abbrev pub outcome_room : Sum → ℕ
outcome_room t = 7 * sum_size t + 8

-- the R of each g tried, none where c is 1
unfoldable pub rests_of : (Kind → ℕ → Range) → Sum → ℕ → List Sum
rests_of β t c = cond (eqb c 1) [] (rests_tried β t (divisors_tried c t))

-- a sum u and a rest a that stand one after the other, as the rule applied makes them; u's constant is kept or passes the limit
pub record NewOp (β : Kind → ℕ → Range) (o : Op) (t : Sum) (c : ℕ) (out : List ℤ) (factor divisor : ℤ) (terms end restTerms restEnd : ℕ) : Type 0 where
  pub u : Sum
  pub a : Sum
  pub applied : apply_rule β o t c ≡ again factor u (nat_abs divisor) a
  pub standing : take end out ≡ sum_words β (saturate_sum u) []
  pub counted : terms ≡ term_count u
  pub behind : drop end (take restEnd out) ≡ sum_words β a []
  pub rest-counted : restTerms ≡ term_count a

-- a sum u that stands, as the rule applied makes it
pub record NewSum (β : Kind → ℕ → Range) (o : Op) (t : Sum) (c : ℕ) (out : List ℤ) (terms end : ℕ) : Type 0 where
  pub u : Sum
  pub applied : apply_rule β o t c ≡ is u
  pub standing : take end out ≡ sum_words β u []
  pub counted : terms ≡ term_count u

-- what the first rule that fits makes of S floordiv c or S mod c
abbrev pub Outcome : (Kind → ℕ → Range) → Op → Sum → ℕ → List ℤ → Applied → Type 0
Outcome β o t c out A.Passed = small_sums β (rests_of β t c) ≡ false
Outcome β o t c out (A.Sum terms end) = (small_sums β (rests_of β t c) ≡ true) × NewSum β o t c out terms end
Outcome β o t c out (A.Again g) =
    (small_sums β (rests_of β t c) ≡ true)
    × NewOp β o t c out g.factor g.divisor g.terms g.end g.rest_terms g.rest_end

-- whatever the words are: places in order, few terms, a divisor in its range
abbrev pub Safe : ℕ → Applied → Type 0
Safe room A.Passed = Unit {0}
Safe room (A.Sum terms end) = (terms ≤ max_terms) × (end ≤ room)
Safe room (A.Again g) =
    (g.terms ≤ max_terms) × (g.rest_terms ≤ max_terms) × (g.end ≤ g.rest_end) × (g.rest_end ≤ room)
    × (pos 0 <ℤ g.divisor) × (nat_abs g.divisor ≤ max_divisor)

-- the sum of n terms at p, op c: one rule applied to it
pub record Applies (op : ℕ) (w : List ℤ) (p n : ℕ) (c : ℤ) (out out' : List ℤ) (r : Applied) : Type 0 where
  pub same : length out' ≡ length out
  pub safe : Safe (length out) r
  pub outcome : (β : Kind → ℕ → Range) (o : Op) (t : Sum) (x : List ℤ) → op ≡ op_number o → n ≡ term_count t → drop p w ≡ sum_words β t x
      → FoldedS β t → small_sum β t ≡ true → outcome_room t ≤ length out → Outcome β o t (nat_abs c) out' r

-- words that all rules need, where c is at most 2^j: what leaves is held until the rest is done
abbrev pub rules_room : Sum → ℕ → ℕ → ℕ
rules_room t c j = 91 * sum_size t + (2 * j + flag (keeps_all c t)) + 8

-- the sum of n terms at p, op c: all rules applied to it, in its place
pub record Rewrites (op p n : ℕ) (c : ℤ) (fuel : ℕ) (w w' : List ℤ) (scratch : ℕ) (small : Bool) (terms end : ℕ) : Type 0 where
  pub same : length w' ≡ length w
  pub below : take p w' ≡ take p w
  pub low : p ≤ end
  pub high : end ≤ length w
  pub few : terms ≤ max_terms
  pub judged : (β : Kind → ℕ → Range) (t : Sum) (x : List ℤ) → n ≡ term_count t → drop p w ≡ sum_words β t x → small_sum β t ≡ false → small ≡ false
  pub outcome : (β : Kind → ℕ → Range) (o : Op) (t : Sum) (x : List ℤ) (j : ℕ) → op ≡ op_number o → n ≡ term_count t → drop p w ≡ sum_words β t x
      → FoldedS β t → weight t (nat_abs c) < fuel → nat_abs c ≤ 2 ^ j → p + rules_room t (nat_abs c) j ≤ length w → outcome_room t ≤ scratch
      → small ≡ small_sums β (sums_formed fuel β o t (nat_abs c))
  pub standing : (β : Kind → ℕ → Range) (o : Op) (t : Sum) (x : List ℤ) (j : ℕ) → op ≡ op_number o → n ≡ term_count t → drop p w ≡ sum_words β t x
      → FoldedS β t → weight t (nat_abs c) < fuel → nat_abs c ≤ 2 ^ j → p + rules_room t (nat_abs c) j ≤ length w → outcome_room t ≤ scratch
      → small ≡ true
      → (drop p (take end w') ≡ sum_words β (apply_rules fuel β o t (nat_abs c)) []) × (terms ≡ term_count (apply_rules fuel β o t (nat_abs c)))
