-- `tree_planner::reach_row` meets its contract. Assumes nothing.
use Rattle.std.proofs.Common.{arith, ◌+◌, ◌*◌, ◌∙◌}
use Rattle.tree_planner.proofs.Filling.{row-then, lowest_start, lowest-next, lowest-end}
use Rattle.tree_planner.proofs.Linking.{linked-is}
use Rattle.tree_planner.proofs.reach_row.Goals as goal

pub start_row-requires : goal.start_row-requires
start_row-requires c = (
  c.requires.priced.2.sound,
  omega (arith, c.requires.u_bound),
  omega (arith, c.requires.u_bound, c.requires.priced.2.long),
  c.far.ensures.1,
  c.requires.u_bound.4.few,
)

pub loop-b-init : goal.loop-b-init
loop-b-init c = lowest_start _ _ _ _ _ _ c.far.ensures.0 c.start_row.ensures

pub bounds-moved-v : goal.bounds-moved-v
bounds-moved-v c = omega (arith, c.requires.u_bound, c.requires.priced.0.moved_in)

pub link_weight-extra-requires : goal.link_weight-extra-requires
link_weight-extra-requires c =
    record {
      sizes_len = (c.requires.priced.0.sizes-in, c.requires.priced.0.low);
      taken_bound = (
        omega (arith, c.requires.priced.0.ones ((c.args.v * 8 + c.args.a) * 8 + c.loop-b.b)),
        omega (arith, c.requires.u_bound),
        omega (arith, c.requires.u_bound),
      );
    }

pub lower_row-requires : goal.lower_row-requires
lower_row-requires c =
    let i = c.loop-b.invariant in
    record {
      space = (
        record { sound = i.sound; long = i.long ∙ c.start_row.ensures.long ∙ c.requires.priced.2.long },
        c.requires.priced.1,
        c.link_weight-extra.ensures.1,
      );
      to_bound = (
        omega (arith, c.requires.u_bound),
        omega (arith, c.requires.u_bound),
        omega (arith, c.requires.u_bound.4, c.requires.priced.0.ones ((c.args.v * 8 + c.args.a) * 8 + c.loop-b.b)),
        c.requires.u_bound.4.few,
      );
    }

pub loop-b-preserved : goal.loop-b-preserved
loop-b-preserved c =
    lowest-next _ _ _ _ _ _ _ _ _ _ _ (λ x l. linked-is _ _ _ _ _ _ _ _ _ c.link_weight-extra.ensures.0) c.loop-b.invariant
    c.lower_row.ensures

pub returns : goal.returns
returns c =
    row-then _ _ _ _ _ _ _ c.start_row.ensures (lowest-end _ _ _ _ _ _ _ (omega arith) (omega arith) c.loop-b.invariant)
