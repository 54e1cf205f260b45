-- `route::load::enter_moves` meets its contract. Assumes nothing.
use Rattle.std.proofs.Common.{◌≡◌, ℕ, subst, arith}
use Rattle.route.specs.Loading.{Filled, move_at}
use Rattle.route.proofs.Tables.{filled-start, filled_next}
use Rattle.route.proofs.load.enter_moves.Goals as goal

pub loop-t-init : goal.loop-t-init
loop-t-init c = filled-start _ _ _

pub loop-t-preserved : goal.loop-t-preserved
loop-t-preserved c = filled_next _ c.loop-t.invariant (omega (arith, c.loop-t.invariant.long)) c.move_at.ensures

pub returns : goal.returns
returns c =
    let e : c.loop-t.t ≡ 64 = omega arith in
    subst (λ (n : ℕ). Filled c.args.moved.now c.loop-t.moved c.args.at n (move_at c.args.from c.args.to)) e c.loop-t.invariant
