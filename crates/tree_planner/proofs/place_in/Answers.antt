-- `tree_planner::place_in` meets its contract. Assumes nothing.
use Rattle.std.proofs.Common.{arith}
use Rattle.tree_planner.proofs.Placing.{place-first, place-high, place-mid, place-low, power-some}
use Rattle.tree_planner.proofs.place_in.Goals.{then-i-eq0, else-i-eq0+then-i-lt22, else-i-eq0+else-i-lt22+then-i-lt43, else-i-eq0+else-i-lt22+else-i-lt43}
use Rattle.tree_planner.proofs.place_in.Goals as goal

pub nonzero_div-digits : goal.nonzero_div-digits
nonzero_div-digits c = power-some _ _ c.eights.ensures.value

pub nonzero_div-digits-then-i-lt43 : goal.nonzero_div-digits-then-i-lt43
nonzero_div-digits-then-i-lt43 c = power-some _ _ c.eights-then-i-lt43.ensures.value

pub nonzero_div-digits-else-i-lt43 : goal.nonzero_div-digits-else-i-lt43
nonzero_div-digits-else-i-lt43 c = power-some _ _ c.eights-else-i-lt43.ensures.value

pub returns : goal.returns
returns c =
    elim c.if-i-eq0.branch [
      | then-i-eq0 w ↦ rw w.digits-is (place-first _ c.requires.0 _ w.if-i-eq0.true)
      | else-i-eq0+then-i-lt22 w ↦ rw w.digits-is (place-high _ c.requires.0 _ _ (omega arith) w.if-i-lt22.true w.eights.ensures.value)
      | else-i-eq0+else-i-lt22+then-i-lt43 w ↦
          rw w.digits-is (place-mid _ c.requires.0 _ _ (omega arith) w.if-i-lt43.true w.eights-then-i-lt43.ensures.value)
      | else-i-eq0+else-i-lt22+else-i-lt43 w ↦
          rw w.digits-is (place-low _ c.requires.0 _ _ (omega arith) w.eights-else-i-lt43.ensures.value)
    ]
