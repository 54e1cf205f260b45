-- `route::best_route` meets its contract. Assumes nothing.
use Rattle.route.proofs.best_route.Goals as goal

pub load-loaded-requires : goal.load-loaded-requires
load-loaded-requires c =
    let r = c.records-n.ensures in
    record { few = r.few; held = r.held; shape = r.shape; none = c.empty.ensures.none c.args.shape c.args.stations.now }
