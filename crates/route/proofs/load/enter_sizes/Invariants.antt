-- What each loop of `route::load::enter_sizes` keeps.
use Rattle.std.proofs.Common.{◌≡◌, ℕ, leb}
use Rattle.radix.specs.Radix.{max_count, every}
use Rattle.layout.specs.Layout.{padded_of}
use Rattle.route.specs.Stations.{layout_at}
use Rattle.route.specs.Loading.{Filled, capped_size}
use Rattle.route.proofs.load.enter_sizes.Given as goal

abbrev pub invariant-loop-a : goal.invariant-loop-a
invariant-loop-a l =
    record {
      kept_is : l.kept ≡ every (λ (k : ℕ). leb (padded_of l.shape (layout_at l.station k)) max_count) l.a;
      filled : Filled l.initial.sizes l.sizes l.at l.a (capped_size l.shape l.station);
    }
