-- `pack::cut::cut_dimension` meets its contract. Assumes nothing.
use Rattle.std.proofs.Common.{arith, ◌≡◌, ℕ, ◌-◌, ◌<◌, ◌≤◌, length, get_or, drop, subst}
use Rattle.std.proofs.Math.Nat.{mul-le-mul}
use Rattle.radix.specs.Radix.{max_size, prod, Bounded}
use Rattle.pack.proofs.cut.cut_dimension.Goals as goal

pub overflow_mul-next : goal.overflow_mul-next
unfolding Bounded
overflow_mul-next c =
    let k = c.loop-k.k - 1 in
    let at : k < length c.args.sizes.now = omega arith in
    let size : get_or c.args.sizes.now k 0 ≤ max_size = (c.requires.sizes k at).1 in
    let span : c.loop-k.span ≤ 1024 = omega arith in
    omega (arith, mul-le-mul span size)

pub returns : goal.returns
returns c =
    let e : c.loop-k.k ≡ 1 = omega arith in
    let few : prod (drop c.loop-k.k c.args.sizes.now) ≤ c.args.most = omega arith in
    (c.requires.sizes_nonzero.0, subst (λ (k : ℕ). prod (drop k c.args.sizes.now) ≤ c.args.most) e few)
