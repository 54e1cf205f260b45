-- `tree_planner::merge_one` meets its contract. Assumes nothing.
use Rattle.std.proofs.Common.{arith}
use Rattle.tree_planner.proofs.Linking.{parent-low, merge-made}
use Rattle.tree_planner.proofs.merge_one.Goals as goal

pub reach-requires-clause-u_bound : goal.reach-requires-clause-u_bound
reach-requires-clause-u_bound c =
    let s = c.requires.space in
    let l = parent-low _ _ _ _ _ _ c.requires.usable c.args.v s.2 s.3 in
    (omega (arith, l, c.requires.usable.few, s.3), omega (arith, c.requires.usable.few, s.3), c.requires.usable.count _, c.requires.usable.count _, s.4)

pub join-requires-clause-u_bound : goal.join-requires-clause-u_bound
join-requires-clause-u_bound c =
    let s = c.requires.space in
    let l = parent-low _ _ _ _ _ _ c.requires.usable c.args.v s.2 s.3 in
    (omega (arith, l, c.requires.usable.few, s.3), c.requires.usable.count _, s.4.few)

pub returns : goal.returns
returns c =
    let s = c.requires.space in (
      merge-made _ _ _ _ _ _ c.requires.usable _ _ s.4.few s.2 s.3 _ _ _ _ _ _ c.has_child-branch.ensures c.ready.ensures c.reach.ensures _
          c.has_child-forked.ensures
          c.join.ensures.0,
      c.join.ensures.1.sound,
    )
