-- `route::load::empty` meets its contract. Assumes nothing.
use Rattle.std.proofs.Common.{refl}
use Rattle.route.proofs.Entering.{started}
use Rattle.route.proofs.load.empty.Goals as goal

pub returns : goal.returns
returns c = started _ refl refl refl refl refl refl refl refl
