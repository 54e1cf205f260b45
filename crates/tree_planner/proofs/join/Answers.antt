-- `tree_planner::join` meets its contract. Assumes nothing.
use Rattle.std.proofs.Common.{arith, refl, ◌∙◌}
use Rattle.tree_planner.proofs.Filling.{kept_same, kept_then, rows_start, rows_next, rows_end}
use Rattle.tree_planner.proofs.Linking.{together-kept}
use Rattle.tree_planner.proofs.join.Goals as goal

pub loop-a-init : goal.loop-a-init
loop-a-init c = (rows_start _ _ _ _ c.requires.sizes_len.2.sound, kept_same _ c.requires.sizes_len.3.sound)

pub join_row-requires : goal.join_row-requires
join_row-requires c =
    let i = c.loop-a.invariant in
    record {
      sizes_len = (
        c.requires.sizes_len.0,
        c.requires.sizes_len.1,
        record { sound = i.0.sound; long = i.0.long ∙ c.requires.sizes_len.2.long },
        record { sound = i.1.sound; long = i.1.long ∙ c.requires.sizes_len.3.long },
      );
      u_bound = (c.requires.u_bound.0, omega (arith, c.requires.u_bound), c.requires.u_bound.2);
    }

pub loop-a-preserved : goal.loop-a-preserved
loop-a-preserved c =
    let i = c.loop-a.invariant in (
      rows_next _ _ _ _ _ _ _ _ _ c.requires.u_bound.2 refl
          (λ x l. together-kept _ _ _ _ _ _ _ _ _ _ _ x (omega (arith, c.requires.u_bound)) (omega (arith, c.requires.u_bound)) i.0 i.1)
          i.0
          c.join_row.ensures.0,
      kept_then _ _ _ i.1 c.join_row.ensures.1,
    )

pub returns : goal.returns
returns c = (rows_end _ _ _ _ _ _ _ (omega arith) (omega arith) c.loop-a.invariant.0, c.loop-a.invariant.1)
