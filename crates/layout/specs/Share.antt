-- Shares in binary64: one division of two exact counts, rounded once; the layout card and the fit verdict. Assumes nothing.
use Rattle.std.specs.Prelude.{ℕ, ◌-◌, Bool, true, false, leb, Float}
use Rattle.std.specs.Float.{binary64}
use Rattle.std.specs.Float.Ieee.{round}
use Rattle.shape.specs.Shape.{count_of}
use Rattle.shape.specs.declared.Shape.{Shape}
use Rattle.layout.specs.Layout.{padded_of}
use Rattle.layout.specs.declared.Layout.{Layout}
use Rattle.layout.specs.declared.LayoutCard.{LayoutCard}
use Rattle.layout.specs.declared.Fit.{Fit}
use Rattle.layout.specs.declared.Fit.TheVariants.{Fits, Over}

-- the exact fraction a / b, rounded once
unfoldable pub share_of : ℕ → ℕ → Float
share_of a b = round binary64 false a b

-- how many cells are padding
abbrev pub padding_of : Shape → Layout → ℕ
padding_of s l = padded_of s l - count_of s

-- elements/padded and padding/padded
abbrev pub card_of : Shape → Layout → LayoutCard
card_of s l = record { fill = share_of (count_of s) (padded_of s l); waste = share_of (padding_of s l) (padded_of s l) }

abbrev pub pick_fit : Bool → Fit → Fit → Fit
pick_fit true a b = a
pick_fit false a b = b

-- fits, with the spare share (L - padded)/L, or over, with the factor padded/L
abbrev pub fit_of : ℕ → ℕ → Fit
fit_of size limit = pick_fit (leb size limit) (Fits (share_of (limit - size) limit)) (Over (share_of size limit))
