-- What each loop of `route::load::enter_moves` keeps.
use Rattle.route.specs.Loading.{Filled, move_at}
use Rattle.route.proofs.load.enter_moves.Given as goal

abbrev pub invariant-loop-t : goal.invariant-loop-t
invariant-loop-t l = Filled l.initial.moved l.moved l.at l.t (move_at l.from l.to)
