-- What the calls on layouts answer: the rules in the order of their numbers, and the values. Assumes nothing.
use Rattle.std.specs.Prelude.{ℕ, ◌&&◌, List, [], ◌∷◌, ◌++◌, ltb, leb, Float, Result, Ok, Err, Option, Some, None}
use Rattle.radix.specs.Radix.{max_count}
use Rattle.refusal.specs.Number.{Answer, done, refusal, answered}
use Rattle.refusal.specs.Judge.{Rule, rule, judge}
use Rattle.refusal.specs.declared.Refusal.{Refusal}
use Rattle.refusal.specs.declared.Refusal.TheVariants.{ShapeLimits, Attribute, LayoutRule, PaddedSize, Outside}
use Rattle.shape.specs.Shape.{count_of, good_shape}
use Rattle.shape.specs.Answers.{inside_rules}
use Rattle.shape.specs.declared.Element.{Element}
use Rattle.shape.specs.declared.Shape.{Shape}
use Rattle.tiling.specs.Cell.{Cell, holds, padding}
use Rattle.layout.specs.Layout.{good_layout, padded_of, offset_of, point_offset_of, cell_of, layout_rules}
use Rattle.layout.specs.Share.{share_of, card_of, fit_of}
use Rattle.layout.specs.declared.Layout.{Layout}
use Rattle.layout.specs.declared.Offset.{Offset}
use Rattle.layout.specs.declared.LayoutCard.{LayoutCard}
use Rattle.layout.specs.declared.Fit.{Fit}
use Rattle.layout.specs.declared.Fit.TheVariants.{Fits, Over}

-- padded size
abbrev pub padded_answer : Result ℕ Refusal → Answer ℕ
padded_answer (Ok n) = done (n ∷ [])
padded_answer (Err r) = refusal (0 ∷ []) r

unfoldable pub padded_size : Shape → Layout → Answer ℕ
padded_size s l = answered (0 ∷ []) (judge (layout_rules s l)) (padded_of s l ∷ [])

-- offset of an element
abbrev pub placed_answer : Result Offset Refusal → Answer ℕ
placed_answer (Ok o) = done (o.0 ∷ [])
placed_answer (Err r) = refusal (0 ∷ []) r

abbrev pub element_rules : Shape → Layout → ℕ → List Rule
element_rules s l n = layout_rules s l ++ (rule (ltb n (count_of s)) Outside ∷ [])

unfoldable pub element_offset : Shape → Layout → ℕ → Answer ℕ
element_offset s l n = answered (0 ∷ []) (judge (element_rules s l n)) (offset_of s l n ∷ [])

-- offset of a point
abbrev pub point_rules : Shape → Layout → List ℕ → List Rule
point_rules s l point = layout_rules s l ++ inside_rules s point

unfoldable pub point_offset : Shape → Layout → List ℕ → Answer ℕ
point_offset s l point = answered (0 ∷ []) (judge (point_rules s l point)) (point_offset_of s l point ∷ [])

-- what a cell holds: 1 and the element, or 0 and 0 for padding
abbrev pub held_answer : Result (Option Element) Refusal → Answer ℕ
held_answer (Ok (Some e)) = done (1 ∷ e.0 ∷ [])
held_answer (Ok None) = done (0 ∷ 0 ∷ [])
held_answer (Err r) = refusal (0 ∷ 0 ∷ []) r

abbrev pub cell_values : Cell → List ℕ
cell_values (holds n) = 1 ∷ n ∷ []
cell_values padding = 0 ∷ 0 ∷ []

abbrev pub cell_rules : Shape → Layout → ℕ → List Rule
cell_rules s l k = layout_rules s l ++ (rule (ltb k (padded_of s l)) Outside ∷ [])

unfoldable pub element_held : Shape → Layout → ℕ → Answer ℕ
element_held s l k = answered (0 ∷ 0 ∷ []) (judge (cell_rules s l k)) (cell_values (cell_of s l k))

-- layout card: fill and waste
abbrev pub zero_share : Float
zero_share = share_of 0 1

abbrev pub card_values : LayoutCard → List Float
card_values c = c.fill ∷ c.waste ∷ []

abbrev pub carded_answer : Result LayoutCard Refusal → Answer Float
carded_answer (Ok c) = done (card_values c)
carded_answer (Err r) = refusal (zero_share ∷ zero_share ∷ []) r

unfoldable pub layout_card : Shape → Layout → Answer Float
layout_card s l = answered (zero_share ∷ zero_share ∷ []) (judge (layout_rules s l)) (card_values (card_of s l))

-- fit verdict: 0 and the spare share where it fits, 1 and the factor where it is over
pub data FitValue : Type 0 where
  which : ℕ → FitValue
  share : Float → FitValue

abbrev pub fit_values : Fit → List FitValue
fit_values (Fits x) = which 0 ∷ share x ∷ []
fit_values (Over x) = which 1 ∷ share x ∷ []

abbrev pub zero_fit : List FitValue
zero_fit = which 0 ∷ share zero_share ∷ []

abbrev pub fitted_answer : Result Fit Refusal → Answer FitValue
fitted_answer (Ok f) = done (fit_values f)
fitted_answer (Err r) = refusal zero_fit r

abbrev pub fit_rules : Shape → Layout → ℕ → List Rule
fit_rules s l limit =
    rule (good_shape s) ShapeLimits
    ∷ rule (leb 1 limit && leb limit max_count) Attribute
    ∷ rule (good_layout s.rank l) LayoutRule
    ∷ rule (leb (padded_of s l) max_count) PaddedSize
    ∷ []

unfoldable pub fit_verdict : Shape → Layout → ℕ → Answer FitValue
fit_verdict s l limit = answered zero_fit (judge (fit_rules s l limit)) (fit_values (fit_of (padded_of s l) limit))
