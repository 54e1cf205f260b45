-- What each loop of `route::repeats::station_repeat` keeps.
use Rattle.std.proofs.Common.{◌≡◌, ℕ, ◌<◌, false}
use Rattle.shape.specs.Repeats.{is_repeat}
use Rattle.route.specs.LayoutRepeats.{same_at}
use Rattle.route.proofs.repeats.station_repeat.Given as goal

abbrev pub invariant-loop-later : goal.invariant-loop-later
invariant-loop-later l = (k : ℕ) → k < l.later → is_repeat (same_at l.station) k ≡ false

abbrev pub invariant-loop-earlier : goal.invariant-loop-earlier
invariant-loop-earlier l = (a : ℕ) → a < l.earlier → same_at l.station a l.later ≡ false
