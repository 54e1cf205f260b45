-- What the calls on indexing maps answer: the rules in the order of their numbers, and the values. Assumes nothing.
use Rattle.std.specs.Prelude.{List, [], ◌∷◌, ◌++◌, ℕ, zero, suc, ◌+◌, ℤ, pos, replicate, Ok, Err, Result}
use Rattle.refusal.specs.Number.{Answer, done, refusal, answered, verdict_answer}
use Rattle.refusal.specs.Judge.{Rule, rule, judge}
use Rattle.refusal.specs.declared.Refusal.{Refusal}
use Rattle.refusal.specs.declared.Refusal.TheVariants.{Attribute, Outside, WrongLength, CountLimit, WorkingLimit}
use Rattle.refusal.specs.Judge.{Verdict}
use Rattle.expression.specs.Node.{max_places, max_nodes}
use Rattle.expression.specs.Reckon.{low_end, high_end}
use Rattle.indexing.specs.Map.{max_results, max_constraints, good_parts, good_counts, good_ranges, range_at, value_at, right_length, in_domain}
use Rattle.indexing.specs.declared.IndexingMap.{IndexingMap}
use Rattle.indexing.specs.declared.ResultRanges.{ResultRanges}
use Rattle.indexing.specs.declared.ResultValues.{ResultValues}

-- n entries: f 0, f 1, .. for the first i, and 0 past them
unfoldable pub front : (ℕ → ℤ) → ℕ → ℕ → List ℤ
front f i zero = []
front f zero (suc n) = pos 0 ∷ front f zero n
front f (suc i) (suc n) = f 0 ∷ front (λ (k : ℕ). f (suc k)) i n

-- ---- judging a map

abbrev pub map_rules : IndexingMap → List Rule
map_rules m =
    rule (good_parts m) Attribute
    ∷ rule (good_counts m) CountLimit
    ∷ rule (good_ranges m) WorkingLimit
    ∷ []

unfoldable pub judged_map : IndexingMap → Answer ℕ
judged_map m = verdict_answer (judge (map_rules m))

-- ---- the reckoned ranges of the results: their number, eight lower ends and eight upper ends, 0 past the number

abbrev pub lows_of : IndexingMap → ℕ → List ℤ
lows_of m i = front (λ (k : ℕ). low_end (range_at m k)) i max_results

abbrev pub highs_of : IndexingMap → ℕ → List ℤ
highs_of m i = front (λ (k : ℕ). high_end (range_at m k)) i max_results

abbrev pub zero_ranges : List ℤ
zero_ranges = replicate (1 + (max_results + max_results)) (pos 0)

abbrev pub ranges_answer : Result ResultRanges Refusal → Answer ℤ
ranges_answer (Ok r) = done (pos r.results ∷ (r.lower ++ r.upper))
ranges_answer (Err r) = refusal zero_ranges r

abbrev pub ranged_of : IndexingMap → ResultRanges
ranged_of m =
    record {
      results = m.results;
      lower = lows_of m m.results;
      upper = highs_of m m.results;
    }

unfoldable pub result_ranges : IndexingMap → Answer ℤ
result_ranges m =
    answered zero_ranges (judge (map_rules m))
    (pos m.results ∷ (lows_of m m.results ++ highs_of m m.results))

-- ---- the values of the results at a point: their number and eight values, 0 past the number

abbrev pub values_of : IndexingMap → List ℤ → List ℤ → ℕ → List ℤ
values_of m ds ss i = front (value_at m ds ss) i max_results

abbrev pub zero_values : List ℤ
zero_values = replicate (1 + max_results) (pos 0)

abbrev pub values_answer : Result ResultValues Refusal → Answer ℤ
values_answer (Ok r) = done (pos r.results ∷ r.values)
values_answer (Err r) = refusal zero_values r

abbrev pub valued_of : IndexingMap → List ℤ → List ℤ → ResultValues
valued_of m ds ss = record { results = m.results; values = values_of m ds ss m.results }

abbrev pub point_rules : IndexingMap → List ℤ → List ℤ → List Rule
point_rules m ds ss =
    rule (good_parts m) Attribute
    ∷ rule (right_length m ds ss) WrongLength
    ∷ rule (good_counts m) CountLimit
    ∷ rule (good_ranges m) WorkingLimit
    ∷ rule (in_domain m ds ss) Outside
    ∷ []

unfoldable pub result_values : IndexingMap → List ℤ → List ℤ → Answer ℤ
result_values m ds ss =
    answered zero_values (judge (point_rules m ds ss))
    (pos m.results ∷ values_of m ds ss m.results)

-- ---- a call that makes a map answers it; on paper a map of zeros where it is refused

abbrev pub no_map : IndexingMap
no_map =
    record {
      dims = 0;
      ranges = 0;
      lower = replicate max_places (pos 0);
      upper = replicate max_places (pos 0);
      results = 0;
      result_nodes = replicate max_results 0;
      constraints = 0;
      constraint_nodes = replicate max_constraints 0;
      constraint_lower = replicate max_constraints (pos 0);
      constraint_upper = replicate max_constraints (pos 0);
      kinds = replicate max_nodes 0;
      values = replicate max_nodes (pos 0);
    }

abbrev pub map_answer : Result IndexingMap Refusal → Answer IndexingMap
map_answer (Ok m) = done (m ∷ [])
map_answer (Err r) = refusal (no_map ∷ []) r

-- the answer that a verdict and a map make
abbrev pub answered_map : Verdict → IndexingMap → Result IndexingMap Refusal
answered_map (Ok _) m = Ok m
answered_map (Err r) m = Err r

-- what a call answers that makes a map by rules: the map where they are kept
abbrev pub map_by : List Rule → IndexingMap → Answer IndexingMap
map_by rules m = answered (no_map ∷ []) (judge rules) (m ∷ [])
