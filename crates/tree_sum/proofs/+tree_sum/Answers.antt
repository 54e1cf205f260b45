-- `tree_sum::tree_sum` meets its contract. Assumes nothing.
use Rattle.std.proofs.Common.{◌≡◌, ◌≤◌, ◌-◌, sym, subst, get_or, length, arith, rules, pos, w64, to_z, of_z}
use Rattle.expression.specs.Node.{max_variables, Sound}
use Rattle.expression.specs.Value.{bounds}
use Rattle.tree_sum.proofs.Last.{sound-at}
use Rattle.tree_sum.proofs.Walked.{rooms-at, no-nodes, bad-node, leaf-node, one-node, sum-node}
use Rattle.tree_sum.proofs.+tree_sum.Goals as goal

pub returns-then-i-eq0 : goal.returns-then-i-eq0
returns-then-i-eq0 t c =
    rw c.no_sum.ensures (no-nodes c.args.dims c.args.ranges c.args.kinds.now c.args.values.now (bounds c.args.lower.now c.args.upper.now) c.args.i c.args.x.now c.args.y.now c.args.p
    c.requires.1.place c.if-i-eq0.true)

pub leaf_sum-requires : goal.leaf_sum-requires
leaf_sum-requires t c =
    let e : to_z w64 (of_z w64 (get_or c.args.values.now (c.args.i - 1) (pos 0))) ≡ get_or c.args.values.now (c.args.i - 1) (pos 0) = search rules in
    let q = rw e at c.in-Leaf.ensures in
    (subst (Sound max_variables max_variables) (sym q) (sound-at c.args.dims c.args.ranges c.args.kinds.now c.args.values.now (c.args.i - 1)), c.requires.1)

pub returns-in-Leaf : goal.returns-in-Leaf
returns-in-Leaf t c =
    let e : to_z w64 (of_z w64 (get_or c.args.values.now (c.args.i - 1) (pos 0))) ≡ get_or c.args.values.now (c.args.i - 1) (pos 0) = search rules in
    let q = rw e at c.in-Leaf.ensures in
    leaf-node c.args.dims c.args.ranges c.args.kinds.now c.args.values.now (bounds c.args.lower.now c.args.upper.now) c.args.i c.args.x.now c.args.y.now c.args.p
    _ _ _ _ q c.leaf_sum.ensures

pub one_sum-requires : goal.one_sum-requires
one_sum-requires t c =
    let e : to_z w64 (of_z w64 (get_or c.args.values.now (c.args.i - 1) (pos 0))) ≡ get_or c.args.values.now (c.args.i - 1) (pos 0) = search rules in
    let q = rw e at c.in-One.ensures in
    let T = c.tree_sum-a.ensures in
    let h : c.args.p ≤ length c.tree_sum-a.new.x = omega (arith, T.placed.same, c.requires.1.place) in (
      subst (Sound max_variables max_variables) (sym q) (sound-at c.args.dims c.args.ranges c.args.kinds.now c.args.values.now (c.args.i - 1)),
      T.placed.inside,
      rooms-at _ _ _ _ _ _ c.requires.1 T.placed.same T.scratch h,
    )

pub returns-in-One : goal.returns-in-One
returns-in-One t c =
    let e : to_z w64 (of_z w64 (get_or c.args.values.now (c.args.i - 1) (pos 0))) ≡ get_or c.args.values.now (c.args.i - 1) (pos 0) = search rules in
    let q = rw e at c.in-One.ensures in
    one-node c.args.dims c.args.ranges c.args.kinds.now c.args.values.now (bounds c.args.lower.now c.args.upper.now) c.args.i c.args.x.now c.args.y.now c.args.p
    _ _ _ _ _ _ _ q c.tree_sum-a.ensures c.one_sum.ensures

pub returns-in-Sum : goal.returns-in-Sum
returns-in-Sum t c =
    let e : to_z w64 (of_z w64 (get_or c.args.values.now (c.args.i - 1) (pos 0))) ≡ get_or c.args.values.now (c.args.i - 1) (pos 0) = search rules in
    let q = rw e at c.in-Sum.ensures in
    sum-node c.args.dims c.args.ranges c.args.kinds.now c.args.values.now (bounds c.args.lower.now c.args.upper.now) c.args.i c.args.x.now c.args.y.now c.args.p
    _ _ _ _ _ _ _ _ _ q c.tree_sum-b.ensures c.tree_sum-a-in-Sum.ensures c.joined_sum.ensures

pub returns-in-Bad : goal.returns-in-Bad
returns-in-Bad t c =
    let e : to_z w64 (of_z w64 (get_or c.args.values.now (c.args.i - 1) (pos 0))) ≡ get_or c.args.values.now (c.args.i - 1) (pos 0) = search rules in
    let q = rw e at c.in-Bad.ensures in
    rw c.no_sum-in-Bad.ensures (bad-node c.args.dims c.args.ranges c.args.kinds.now c.args.values.now (bounds c.args.lower.now c.args.upper.now) c.args.i c.args.x.now c.args.y.now c.args.p
    c.requires.1.place q)
