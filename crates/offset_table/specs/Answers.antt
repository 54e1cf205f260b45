-- What the calls on tables of offsets answer: the rules in the order of their numbers, and the values. Assumes nothing.
use Rattle.std.specs.Prelude.{ℕ, ◌≡◌, Bool, ◌&&◌, List, [], ◌∷◌, ◌++◌, ltb, leb, eqb, length, Result, Ok, Err}
use Rattle.radix.specs.Radix.{max_count, every}
use Rattle.refusal.specs.Number.{Answer, done, refusal, answered}
use Rattle.refusal.specs.Judge.{Rule, rule, judge}
use Rattle.refusal.specs.declared.Refusal.{Refusal}
use Rattle.refusal.specs.declared.Refusal.TheVariants.{ShapeLimits, Attribute, LayoutRule, PaddedSize, NoLayout}
use Rattle.shape.specs.Shape.{count_of, good_shape}
use Rattle.shape.specs.declared.Shape.{Shape}
use Rattle.layout.specs.Layout.{good_layout, padded_of}
use Rattle.layout.specs.declared.Layout.{Layout}
use Rattle.offset_table.specs.declared.Finding.{Finding}
use Rattle.offset_table.specs.Table.{Found, sound, outside, shared, found_in, is_sound, found_of}
use Rattle.offset_table.specs.Makes.{layout_at, first_maker}

-- the most elements of a table, and layouts of a list
abbrev pub max_elements : ℕ
max_elements = 4096

abbrev pub max_listed : ℕ
max_listed = 64

-- the judge: zeros for sound, 1 and the element outside, 2 and the two elements that share a cell
abbrev pub found_values : Found → List ℕ
found_values sound = 0 ∷ 0 ∷ 0 ∷ []
found_values (outside k) = 1 ∷ k ∷ 0 ∷ []
found_values (shared e l) = 2 ∷ e ∷ l ∷ []

abbrev pub zero_found : List ℕ
zero_found = 0 ∷ 0 ∷ 0 ∷ []

abbrev pub judged_answer : Result Finding Refusal → Answer ℕ
judged_answer (Ok f) = done (found_values (found_of f))
judged_answer (Err r) = refusal zero_found r

-- at most 4,096 elements, and one offset for each
unfoldable pub is_table : Shape → List ℕ → Bool
is_table s xs = leb (count_of s) max_elements && eqb (length xs) (count_of s)

abbrev pub table_rules : Shape → List ℕ → ℕ → List Rule
table_rules s xs padded =
    rule (good_shape s) ShapeLimits
    ∷ rule (is_table s xs) Attribute
    ∷ rule (leb padded max_count) PaddedSize
    ∷ []

unfoldable pub table_judged : Shape → List ℕ → ℕ → Answer ℕ
table_judged s xs padded = answered zero_found (judge (table_rules s xs padded)) (found_values (found_in xs padded))

-- which layout of a list makes a table: its place
abbrev pub named_answer : Result ℕ Refusal → Answer ℕ
named_answer (Ok i) = done (i ∷ [])
named_answer (Err r) = refusal (0 ∷ []) r

-- a table of the shape, 1 to 64 layouts, and the table is sound, whatever its padded size
unfoldable pub good_question : Shape → List ℕ → ℕ → ℕ → Bool
good_question s xs padded count =
    (is_table s xs && (leb 1 count && leb count max_listed)) && is_sound (found_in xs padded)

-- every layout of the list keeps its rule
unfoldable pub layouts_kept : Shape → List Layout → ℕ → Bool
layouts_kept s ys count = every (λ (i : ℕ). good_layout s.rank (layout_at ys i)) count

-- every padded size of the list is at most 2^40
unfoldable pub sizes_kept : Shape → List Layout → ℕ → Bool
sizes_kept s ys count = every (λ (i : ℕ). leb (padded_of s (layout_at ys i)) max_count) count

-- the rules 1 to 4
abbrev pub question_rules : Shape → List ℕ → ℕ → List Layout → ℕ → List Rule
question_rules s xs padded ys count =
    rule (good_shape s) ShapeLimits
    ∷ rule (good_question s xs padded count) Attribute
    ∷ rule (layouts_kept s ys count) LayoutRule
    ∷ rule (leb padded max_count && sizes_kept s ys count) PaddedSize
    ∷ []

-- the question breaks none of them
abbrev pub breaks_no_rule : Shape → List ℕ → ℕ → List Layout → ℕ → Type 0
breaks_no_rule s xs padded ys count = judge (question_rules s xs padded ys count) ≡ Ok tt

-- rule 12: a layout of the list makes the table
abbrev pub maker_rule : Shape → List ℕ → ℕ → List Layout → ℕ → Rule
maker_rule s xs padded ys count = rule (ltb (first_maker s xs padded ys count) count) NoLayout

unfoldable pub layout_named : Shape → List ℕ → ℕ → List Layout → ℕ → Answer ℕ
layout_named s xs padded ys count =
    answered (0 ∷ [])
    (judge (question_rules s xs padded ys count ++ (maker_rule s xs padded ys count ∷ [])))
    (first_maker s xs padded ys count ∷ [])
