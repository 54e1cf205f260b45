-- `route::same::same_layout` meets its contract. Assumes nothing.
use Rattle.std.proofs.Common.{◌≡◌, sym, ◌∙◌, length, arith, rules}
use Rattle.layout.specs.Layout.{minor_to_major}
use Rattle.layout.proofs.Accepted.{kept_of}
use Rattle.route.specs.Same.{same_layout}
use Rattle.route.proofs.Written.{order-is, few-entries}
use Rattle.route.proofs.same.same_layout.Goals as goal

pub shared_ref_as_front-eq : goal.shared_ref_as_front-eq
shared_ref_as_front-eq c = let six : length c.args.a.minor_to_major ≡ 6 = search rules in omega (arith, (kept_of c.args.rank c.args.a (record { order = search rules; lens = search rules; tile = search rules }) c.requires.0).room)

pub shared_ref_as_front-same_tiles : goal.shared_ref_as_front-same_tiles
shared_ref_as_front-same_tiles c = let three : length c.args.a.tile_len ≡ 3 = search rules in omega (arith, (kept_of c.args.rank c.args.a (record { order = search rules; lens = search rules; tile = search rules }) c.requires.0).tile-room)

pub shared_ref_as_front-same_tiles-then-eq : goal.shared_ref_as_front-same_tiles-then-eq
shared_ref_as_front-same_tiles-then-eq c = let three : length c.args.b.tile_len ≡ 3 = search rules in omega (arith, (kept_of c.args.rank c.args.b (record { order = search rules; lens = search rules; tile = search rules }) c.requires.1).tile-room)

pub same_tiles-requires-clause-upto : goal.same_tiles-requires-clause-upto
same_tiles-requires-clause-upto c = few-entries _ c.args.a.tile c.args.rank (kept_of c.args.rank c.args.a (record { order = search rules; lens = search rules; tile = search rules }) c.requires.0).levels

pub same_tiles-requires-clause-upto_2 : goal.same_tiles-requires-clause-upto_2
same_tiles-requires-clause-upto_2 c = few-entries _ c.args.b.tile c.args.rank (kept_of c.args.rank c.args.b (record { order = search rules; lens = search rules; tile = search rules }) c.requires.1).levels

pub returns-then-eq : goal.returns-then-eq
unfolding same_layout
returns-then-eq c =
    let p = (kept_of c.args.rank c.args.a (record { order = search rules; lens = search rules; tile = search rules }) c.requires.0) in
    let q = (kept_of c.args.rank c.args.b (record { order = search rules; lens = search rules; tile = search rules }) c.requires.1) in
    rw (sym (order-is _ _ _ (minor_to_major c.args.a) (minor_to_major c.args.b) c.eq.ensures p.read q.read) ∙ c.if-eq.true) c.same_tiles.ensures

pub returns-else-eq : goal.returns-else-eq
unfolding same_layout
returns-else-eq c =
    let p = (kept_of c.args.rank c.args.a (record { order = search rules; lens = search rules; tile = search rules }) c.requires.0) in
    let q = (kept_of c.args.rank c.args.b (record { order = search rules; lens = search rules; tile = search rules }) c.requires.1) in
    rw (sym (order-is _ _ _ (minor_to_major c.args.a) (minor_to_major c.args.b) c.eq.ensures p.read q.read) ∙ c.if-eq.false) c.if-eq.false
