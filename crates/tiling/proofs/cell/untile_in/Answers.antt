-- `tiling::cell::untile_in` meets its contract. Assumes nothing.
use Rattle.std.proofs.Common.{◌≡◌, ◌∙◌, ◌<◌, ◌≤◌, ◌+◌, ◌*◌, ◌-◌, ◌^◌, ℕ, List, ap, arith, length, get_or, take}
use lib.Seq.{length-take-le}
use Rattle.radix.specs.Radix.{Upto}
use Rattle.tiling.proofs.UndoInPlace.{PartlyUndone, undone-small, undone-end}
use Rattle.tiling.specs.Tile.{max_entry}
use Rattle.tiling.proofs.cell.untile_in.Goals as goal

-- the product and the remainder are small
small : (ts at at₀ : List ℕ) (len j : ℕ) → length ts + length ts ≤ len → len ≤ length at → Upto (2 ^ 53) (take len at₀) → Upto max_entry ts → PartlyUndone (len - length ts - length ts) ts (take len at₀) at j → j < length ts
    → (get_or at (len - length ts - length ts + j) 0 * get_or ts j 0 ≤ 2 ^ 53 * max_entry) × (get_or at (len - length ts + j) 0 ≤ 2 ^ 53)
small ts at at₀ len j h g a b v l =
    let k = len - length ts - length ts in
    let e : k + length ts + j ≡ len - length ts + j = omega arith in
    let s = undone-small ts (take len at₀) k at j (omega arith) v l a b in
    (s.0, rw e at s.1)

pub overflow_mul-at : goal.overflow_mul-at
overflow_mul-at c =
    let s = small c.args.ts.now c.loop-j.at c.args.at.now c.args.len c.loop-j.j c.requires.ts_len_bound.0 (omega arith) c.requires.upto c.requires.upto_2 c.loop-j.invariant c.loop-j-test.true in
    omega arith

pub overflow_add-at-in-loop-j-2 : goal.overflow_add-at-in-loop-j-2
overflow_add-at-in-loop-j-2 c =
    let s = small c.args.ts.now c.loop-j.at c.args.at.now c.args.len c.loop-j.j c.requires.ts_len_bound.0 (omega arith) c.requires.upto c.requires.upto_2 c.loop-j.invariant c.loop-j-test.true in
    omega arith

pub returns : goal.returns
returns c =
    let ts = c.args.ts.now in
    let k : ℕ = c.args.len - length ts - length ts in
    let f : length (take c.args.len c.args.at.now) ≡ c.args.len = length-take-le c.args.len c.args.at.now c.requires.ts_len_bound.1 in
    let n : length (take c.args.len c.args.at.now) ≡ k + length ts + length ts = omega arith in
    let e : c.args.len - length ts ≡ k + length ts = omega arith in
    ap (λ (i : ℕ). take i c.loop-j.at) e ∙ undone-end ts (take c.args.len c.args.at.now) k n c.loop-j.at c.loop-j.j (omega arith) c.loop-j.invariant c.loop-j-test.false
