-- `tree_planner::merge_all` meets its contract. Assumes nothing.
use Rattle.std.proofs.Common.{arith}
use Rattle.tree_planner.proofs.Linking.{shrink-start, shrink-next, shrink-end}
use Rattle.tree_planner.proofs.merge_all.Goals as goal

pub loop-v-init : goal.loop-v-init
loop-v-init c = (shrink-start _ _ _ _ _ _ c.requires.usable _ _ c.requires.space.0.long c.requires.space.0.sound, c.requires.space.1)

pub merge_one-requires : goal.merge_one-requires
merge_one-requires c =
    let i = c.loop-v.invariant in
    record {
      usable = c.requires.usable;
      space = (record { sound = i.0.sound; long = i.0.long }, i.1, omega arith, omega arith, c.requires.space.2);
    }

pub loop-v-preserved : goal.loop-v-preserved
loop-v-preserved c =
    let i = c.loop-v.invariant in (
      shrink-next _ _ _ _ _ _ c.requires.usable _ _ _ _ (omega arith) (omega arith) i.0 c.merge_one.ensures.0,
      record { sound = c.merge_one.ensures.1; long = omega (arith, i.1.long) },
    )

pub returns : goal.returns
returns c = shrink-end _ _ _ _ _ _ c.requires.usable _ _ _ (omega arith) c.loop-v.invariant.0
