-- What each loop of `route::load::load` keeps.
use Rattle.route.specs.Loading.{Holds}
use Rattle.route.proofs.load.load.Given as goal

abbrev pub invariant-loop-i : goal.invariant-loop-i
invariant-loop-i l = Holds l.shape l.stations l.i l.loaded
