-- `tree_planner::reach` meets its contract. Assumes nothing.
use Rattle.std.proofs.Common.{arith, refl, ◌∙◌}
use Rattle.tree_planner.proofs.Filling.{rows_start, rows_next, rows_end}
use Rattle.tree_planner.proofs.reach.Goals as goal

pub loop-a-init : goal.loop-a-init
loop-a-init c = rows_start _ _ _ _ c.requires.priced.2.sound

pub reach_row-requires : goal.reach_row-requires
reach_row-requires c =
    let i = c.loop-a.invariant in
    record {
      priced = (c.requires.priced.0, c.requires.priced.1, record { sound = i.sound; long = i.long ∙ c.requires.priced.2.long });
      u_bound = (c.requires.u_bound.0, c.requires.u_bound.1, c.requires.u_bound.3, omega (arith, c.requires.u_bound), c.requires.u_bound.4);
    }

pub loop-a-preserved : goal.loop-a-preserved
loop-a-preserved c =
    rows_next _ _ _ _ _ _ _ _ _ c.requires.u_bound.4.few (omega arith) (λ x l. refl) c.loop-a.invariant c.reach_row.ensures

pub returns : goal.returns
returns c = rows_end _ _ _ _ _ _ _ (omega arith) (omega arith) c.loop-a.invariant
