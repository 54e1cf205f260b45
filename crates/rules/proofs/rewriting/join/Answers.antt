-- `rules::rewriting::join` meets its contract. Assumes nothing.
use mir.Facts.{to_z-of_z}
use Rattle.rules.proofs.Settled.{joins}
use Rattle.rules.proofs.rewriting.join.Goals as goal

pub returns : goal.returns
returns c = joins _ _ _ _ _ _ _ _ _ _ _ _ _ _ (rw (to_z-of_z c.ranges.factor) at c.blend-m.ensures) c.settle.ensures
