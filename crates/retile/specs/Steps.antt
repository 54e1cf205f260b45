-- What the inner functions of re-tiling require and answer. Assumes nothing.
use Rattle.std.specs.Prelude.{ℕ, ◌+◌, ◌-◌, ◌≤◌, ◌≡◌, ◌&&◌, cond, List, ltb, leb, length, get_or, Ok, Err, Result, [], ◌∷◌}
use Rattle.refusal.specs.Judge.{Rule, rule, judge, Verdict}
use Rattle.refusal.specs.Number.{number_of}
use Rattle.refusal.specs.declared.Refusal.{Refusal}
use Rattle.refusal.specs.declared.Refusal.TheVariants.{Attribute, ShortBuffer}
use Rattle.shape.specs.declared.Shape.{Shape}
use Rattle.tiling.specs.Tile.{tiles_from, padded, physical}
use Rattle.tiling.specs.Ready.{Ready}
use Rattle.layout.specs.Layout.{layout_rules}
use Rattle.layout.specs.Measured.{IsExtent}
use Rattle.layout.specs.declared.Layout.{Layout}
use Rattle.retile.specs.Stores.{Store, cell, mark}
use Rattle.retile.specs.declared.stores.Phase.{Phase}
use Rattle.retile.specs.declared.stores.Phase.TheVariants.{Cell, Mark}
use Rattle.retile.specs.declared.sides.Side.{Side}

-- the store of a step at mark m, where v is the value of cell m: the cell's or the mark's
abbrev pub next_store : ℕ → ℕ → Phase → Store
next_store v m Cell = cell m v
next_store v m Mark = mark (m + 1)

-- and whose turn it is after it
abbrev pub turned : Phase → Phase
turned Cell = Mark
turned Mark = Cell

-- the values of the cells from m on, as a list has them
abbrev pub listed : List ℕ → ℕ → ℕ → ℕ
listed values m o = get_or values (o - m) 0

-- one side of a re-tiling, as lists: a shape and a layout that break no rule, with the physical shape, and a buffer for its cells
pub record IsSide (sizes p lens flat dims buffer : List ℕ) : Type 0 where
  pub ready : Ready sizes p lens flat
  pub same : dims ≡ physical sizes p (tiles_from lens flat)
  pub room : padded sizes p (tiles_from lens flat) ≤ length buffer

-- the same as records: a shape and a layout that break no rule, and their measures
abbrev pub IsMeasured : Side → Shape → Layout → Type 0
IsMeasured x s l = (judge (layout_rules s l) ≡ Ok tt) × IsExtent x.extent s l x.order x.dims

-- the measures of a shape and a layout, or the refusal of their first broken rule
abbrev pub Measures : Result Side Refusal → Shape → Layout → Type 0
Measures (Ok x) s l = IsMeasured x s l
Measures (Err r) s l = judge (layout_rules s l) ≡ Err r

-- of two verdicts the one with the lower number
abbrev pub lower : Verdict → Verdict → Verdict
lower (Ok _) w = w
lower (Err r) (Ok _) = Err r
lower (Err r) (Err t) = cond (ltb (number_of t) (number_of r)) (Err t) (Err r)

-- the verdict on a side
abbrev pub verdict_on : Result Side Refusal → Verdict
verdict_on (Ok x) = Ok tt
verdict_on (Err r) = Err r

-- both sides, or of their refusals the one with the lower number
abbrev pub AreBoth : Result Side Refusal → Result Side Refusal → Result (Side × Side) Refusal → Type 0
AreBoth a b (Ok p) = (a ≡ Ok p.0) × (b ≡ Ok p.1)
AreBoth a b (Err r) = lower (verdict_on a) (verdict_on b) ≡ Err r

-- the rules of the mark and the buffers
abbrev pub mark_rules : ℕ → ℕ → ℕ → ℕ → ℕ → List Rule
mark_rules from to source cells m = rule (leb m to) Attribute ∷ rule (leb from source && leb to cells) ShortBuffer ∷ []

-- the verdict on the sides and, where it is done, on the mark and the buffers
abbrev pub with_mark : Verdict → ℕ → ℕ → ℕ → ℕ → ℕ → Verdict
with_mark (Ok _) from to source cells m = judge (mark_rules from to source cells m)
with_mark (Err r) from to source cells m = Err r
