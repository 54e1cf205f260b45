-- `route::load::load` meets its contract. Assumes nothing.
use Rattle.std.proofs.Common.{ℕ, ◌≡◌, refl, sym, ap, subst, arith}
use Rattle.route.specs.Stations.{blank, station_at}
use Rattle.route.specs.Loading.{Fit, Holds}
use Rattle.route.proofs.Entering.{feeds-fit}
use Rattle.route.proofs.load.load.Goals as goal

pub loop-i-init : goal.loop-i-init
loop-i-init c = c.requires.none

pub add-requires : goal.add-requires
unfolding blank
add-requires c =
    let H = c.loop-i.invariant in
    record {
      shape = c.requires.shape (omega arith);
      few = omega (arith, c.requires.few);
      sound = H.sound;
      fit = λ n l F. subst (λ (j : ℕ). Fit c.args.shape.rank (station_at c.args.stations.now j)) (sym c.feeding_station-from.ensures)
          (feeds-fit c.args.shape c.args.stations.now c.loop-i.i c.loop-i.loaded H n l F);
    }

pub loop-i-preserved : goal.loop-i-preserved
unfolding blank
loop-i-preserved c =
    c.add.ensures.more c.args.stations.now c.loop-i.invariant refl
    (ap (station_at c.args.stations.now) (sym c.feeding_station-from.ensures))

pub returns : goal.returns
returns c =
    let e : c.loop-i.i ≡ c.args.n = omega arith in
    subst (λ (k : ℕ). Holds c.args.shape c.args.stations.now k c.loop-i.loaded) e c.loop-i.invariant
