use Rattle.std.proofs.Common.{◌≡◌, ◌<◌, ◌++◌, ℕ, List, ◌-◌, ◌+◌, ◌/◌, ◌%◌, length, drop, get_or, set, ap, ◌∙◌, subst, arith}
use native.Mathlib.Nat.{mod-eq_of_lt}
use Rattle.radix.specs.Radix.{prod, digits, Sizes, Bounded}
use Rattle.radix.proofs.Loops.{Behind, digits-before, quotient-before}
use Rattle.radix.proofs.digits_into.Goals as goal

size-pos : (xs : List ℕ) (i : ℕ) → Sizes xs → i < length xs → 0 < get_or xs i 0
unfolding Bounded
size-pos xs i s h = (s i h).0

pub nonzero_rem-out : goal.nonzero_rem-out
nonzero_rem-out c = size-pos _ _ c.requires.sizes (omega arith)

pub nonzero_div-k : goal.nonzero_div-k
nonzero_div-k c = size-pos _ _ c.requires.sizes (omega arith)

pub loop-i-preserved : goal.loop-i-preserved
loop-i-preserved c =
    let l = c.loop-i in
    let ds = c.args.ds.now in
    let n = c.args.n in
    let rest = drop (length ds) c.args.out.now in
    let j = l.i - 1 in
    let e : l.i ≡ j + 1 = omega arith in
    let k : l.k ≡ n / prod (drop (j + 1) ds) = l.invariant.0 ∙ ap (λ (i : ℕ). n / prod (drop i ds)) e in
    let o = subst (Behind ds n l.out rest) e l.invariant.1 in (
      ap (λ (x : ℕ). x / get_or ds j 0) k ∙ quotient-before ds j n (omega arith),
      ap (λ (x : ℕ). drop j (set l.out j (x % get_or ds j 0))) k ∙ digits-before ds l.out rest j n c.requires.sizes (omega arith) (omega arith) o,
    )

pub returns : goal.returns
returns c =
    let l = c.loop-i in
    let ds = c.args.ds.now in
    let rest = drop (length ds) c.args.out.now in
    let e : l.i ≡ 0 = omega arith in
    let o = subst (Behind ds c.args.n l.out rest) e l.invariant.1 in
    o ∙ ap (λ (k : ℕ). digits ds k ++ rest) (mod-eq_of_lt c.requires.ds_in_bounds.2)
