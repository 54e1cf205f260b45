-- `tree_sum::one_sum` meets its contract. Assumes nothing.
use Rattle.std.proofs.Common.{◌≡◌, rules, w64, to_z, of_z}
use Rattle.tree_sum.proofs.Nodes.{one-over, one_product, one-floordiv, one-modulo}
use Rattle.tree_sum.proofs.one_sum.Goals as goal

pub returns-then-not-small : goal.returns-then-not-small
returns-then-not-small c = one-over c.args.one c.args.a c.args.x.now c.args.y.now c.args.p c.if-not-small.true c.requires.1

pub returns-in-Product : goal.returns-in-Product
returns-in-Product c =
    let e : to_z w64 (of_z w64 c.in-Product.z) ≡ c.in-Product.z = search rules in
    let M = rw e at c.scaled_sum.ensures in
    rw c.in-Product.is (one_product c.args.a c.args.x.now _ _ _ c.args.p _ c.in-Product.z c.if-not-small.false M)

pub returns-in-Floordiv : goal.returns-in-Floordiv
returns-in-Floordiv c =
    let e : to_z w64 (of_z w64 c.in-Floordiv.c) ≡ c.in-Floordiv.c = search rules in
    let M = rw e at c.divided_sum.ensures in
    let D = rw c.in-Floordiv.is at c.requires.0 in
    rw c.in-Floordiv.is (one-floordiv c.args.a c.args.x.now _ _ _ c.args.p _ c.in-Floordiv.c D c.requires.2.few c.if-not-small.false M)

pub returns-in-Mod : goal.returns-in-Mod
returns-in-Mod c =
    let e : to_z w64 (of_z w64 c.in-Mod.c) ≡ c.in-Mod.c = search rules in
    let M = rw e at c.divided_sum-in-Mod.ensures in
    let D = rw c.in-Mod.is at c.requires.0 in
    rw c.in-Mod.is (one-modulo c.args.a c.args.x.now _ _ _ c.args.p _ c.in-Mod.c D c.requires.2.few c.if-not-small.false M)
