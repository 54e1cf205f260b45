-- `retile::along::rows_of` meets its contract. Assumes nothing.
use Rattle.retile.proofs.Reach.{along-single}
use Rattle.retile.proofs.along.rows_of.Goals as goal

pub returns : goal.returns
returns c = let t = c.requires.ahead_nonzero in along-single _ _ _ _ _ _ _ t.1 t.3
