-- `retile::settle_in` meets its contract. Assumes nothing.
use Rattle.std.proofs.Common.{◌≡◌, length, rules, arith}
use Rattle.shape.specs.Shape.{max_rank}
use Rattle.layout.proofs.Accepted.{Arrays, accepted}
use Rattle.retile.proofs.Sided.{sided}
use Rattle.retile.proofs.settle_in.Goals as goal

pub shared_ref_as_front-read : goal.shared_ref_as_front-read
shared_ref_as_front-read c =
    let six : length c.args.shape.sizes ≡ max_rank = search rules in
    let k : Arrays c.args.from = record { order = search rules; lens = search rules; tile = search rules } in
    let g = accepted c.args.shape c.args.from six k c.requires.measures.0.0 in
    omega (arith, g.limits.room)

pub shared_ref_as_front-read-3 : goal.shared_ref_as_front-read-3
shared_ref_as_front-read-3 c =
    let six : length c.args.shape.sizes ≡ max_rank = search rules in
    let k : Arrays c.args.from = record { order = search rules; lens = search rules; tile = search rules } in
    let g = accepted c.args.shape c.args.from six k c.requires.measures.0.0 in
    omega (arith, g.kept.tile-room, k.lens)

pub shared_ref_as_front-filled-3 : goal.shared_ref_as_front-filled-3
shared_ref_as_front-filled-3 c =
    let six : length c.args.shape.sizes ≡ max_rank = search rules in
    let k : Arrays c.args.to = record { order = search rules; lens = search rules; tile = search rules } in
    let g = accepted c.args.shape c.args.to six k c.requires.measures_2.0.0 in
    omega (arith, g.kept.tile-room, k.lens)

pub invariant_of-read-clause-ready : goal.invariant_of-read-clause-ready
invariant_of-read-clause-ready c =
    let six : length c.args.shape.sizes ≡ max_rank = search rules in
    let k : Arrays c.args.from = record { order = search rules; lens = search rules; tile = search rules } in
    (sided c.args.shape c.args.from c.args.a six k c.requires.measures.0 c.args.source.now c.requires.measures.1).ready

pub invariant_of-filled-clause-ready : goal.invariant_of-filled-clause-ready
invariant_of-filled-clause-ready c =
    let six : length c.args.shape.sizes ≡ max_rank = search rules in
    let k : Arrays c.args.to = record { order = search rules; lens = search rules; tile = search rules } in
    (sided c.args.shape c.args.to c.args.b six k c.requires.measures_2.0 c.args.cells.now c.requires.measures_2.1).ready
