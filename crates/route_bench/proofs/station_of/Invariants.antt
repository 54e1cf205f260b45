-- The loop of `route_bench::station_of`: the next layout is one of the 16.
use Rattle.std.proofs.Common.{◌<◌}
use Rattle.route_bench.proofs.station_of.Given as goal

abbrev pub invariant-loop-layout : goal.invariant-loop-layout
invariant-loop-layout l = l.k < 16
