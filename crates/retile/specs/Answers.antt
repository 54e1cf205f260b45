-- What a re-tiling answers and leaves in the lent destination and mark: the rules in their order. Assumes nothing.
use Rattle.std.specs.Prelude.{ℕ, ◌&&◌, List, [], ◌∷◌, leb, length, take, Result, Ok, Err}
use Rattle.radix.specs.Radix.{max_count}
use Rattle.refusal.specs.Number.{Answer, done, refusal, answered}
use Rattle.refusal.specs.Judge.{Rule, rule, judge, Verdict}
use Rattle.refusal.specs.declared.Refusal.{Refusal}
use Rattle.refusal.specs.declared.Refusal.TheVariants.{ShapeLimits, Attribute, LayoutRule, PaddedSize, ShortBuffer}
use Rattle.shape.specs.Shape.{good_shape}
use Rattle.shape.specs.declared.Shape.{Shape}
use Rattle.layout.specs.Layout.{good_layout, padded_of}
use Rattle.layout.specs.declared.Layout.{Layout}
use Rattle.retile.specs.Stores.{Memory, apply_all, settled, stores_of, stores_of_calls}
use Rattle.retile.specs.Retile.{value_of}

-- the number of cells settled
abbrev pub retiled_answer : Result ℕ Refusal → Answer ℕ
retiled_answer (Ok n) = done (n ∷ [])
retiled_answer (Err r) = refusal (0 ∷ []) r

-- 1; 3, then 4, of either layout; 2 for a mark above the destination's padded size; 9 for a buffer shorter than its layout's padded size
abbrev pub retile_rules : Shape → Layout → Layout → ℕ → ℕ → ℕ → List Rule
retile_rules s from to source cells m =
    rule (good_shape s) ShapeLimits
    ∷ rule (good_layout s.rank from && good_layout s.rank to) LayoutRule
    ∷ rule (leb (padded_of s from) max_count && leb (padded_of s to) max_count) PaddedSize
    ∷ rule (leb m (padded_of s to)) Attribute
    ∷ rule (leb (padded_of s from) source && leb (padded_of s to) cells) ShortBuffer
    ∷ []

-- the verdict on a call that finds this memory
abbrev pub verdict_of : Shape → Layout → Layout → List ℕ → Memory → Verdict
verdict_of s from to source M = judge (retile_rules s from to (length source) (length M.cells) M.mark)

-- the answer of a call with allowance n
unfoldable pub retile_answer : Shape → Layout → Layout → List ℕ → Memory → ℕ → Answer ℕ
retile_answer s from to source M n = answered (0 ∷ []) (verdict_of s from to source M) (settled (padded_of s to) M.mark n ∷ [])

-- a refused call leaves the memory as it was
abbrev pub when_done : Verdict → Memory → Memory → Memory
when_done (Ok _) new old = new
when_done (Err r) new old = old

-- what a call with allowance n leaves: the memory after its stores
unfoldable pub retile_left : Shape → Layout → Layout → List ℕ → Memory → ℕ → Memory
retile_left s from to source M n =
    when_done (verdict_of s from to source M) (apply_all (stores_of (value_of s from to source) (padded_of s to) M.mark n) M) M

-- what calls with these allowances leave, each on the memory that the one before it left
abbrev pub calls_left : Shape → Layout → Layout → List ℕ → Memory → List ℕ → Memory
calls_left s from to source M [] = M
calls_left s from to source M (n ∷ ns) = calls_left s from to source (retile_left s from to source M n) ns

-- and what a cut after the first k of their stores leaves
abbrev pub cut_after : Shape → Layout → Layout → List ℕ → Memory → List ℕ → ℕ → Memory
cut_after s from to source M ns k = apply_all (take k (stores_of_calls (value_of s from to source) (padded_of s to) M.mark ns)) M
