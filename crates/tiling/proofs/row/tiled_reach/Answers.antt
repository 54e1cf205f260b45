-- `tiling::row::tiled_reach` meets its contract. Assumes nothing.
use mathlib.Core.Path.{◌≡◌}
use mathlib.Core.List.{List}
use Prim.Native.Nat.{ℕ, ◌-◌, ◌*◌, ◌%◌, ◌^◌, ◌<◌, ◌≤◌}
use native.Mathlib.Nat.{mul-le-mul, mod-lt}
use native.Mathlib.Omega.{arith}
use lib.ListN.{length, get_or}
use Rattle.radix.specs.Radix.{Bounded}
use Rattle.tiling.specs.Tile.{max_entry}
use Rattle.tiling.proofs.row.tiled_reach.Goals as goal

-- the entry at a place
entry : (ts : List ℕ) (k : ℕ) → Bounded max_entry ts → k < length ts → (0 < get_or ts k 0) × (get_or ts k 0 ≤ max_entry)
unfolding Bounded
entry ts k b h = b k h

-- the entry of a tiled place
entry_at : (ts : List ℕ) (n p : ℕ) → Bounded max_entry ts → length ts ≤ n → p < n → n - length ts ≤ p
    → (0 < get_or ts (p - (n - length ts)) 0) × (get_or ts (p - (n - length ts)) 0 ≤ max_entry)
entry_at ts n p b h l k = entry ts (p - (n - length ts)) b (omega arith)

-- what remains is below the entry
rest : (x t r : ℕ) → 0 < t → r ≡ x % t → r < t
rest x t r h e = omega (arith, mod-lt x h)

-- what is left of the entry, in units of the scale
left : (s t r : ℕ) → s ≤ 2 ^ 20 → t ≤ max_entry → s * (t - r) ≤ 2 ^ 20 * max_entry
left s t r h k = let u : t - r ≤ max_entry = omega (arith, k) in mul-le-mul h u

pub split-d-requires-clause-t_nonzero : goal.split-d-requires-clause-t_nonzero
split-d-requires-clause-t_nonzero c =
    let h = c.requires.ts_len_bound in
    entry_at c.args.ts.now c.args.n c.args.f.place c.requires.bounded h.0 h.1 c.if-f-k.false

pub overflow_mul-result : goal.overflow_mul-result
overflow_mul-result c =
    let h = c.requires.ts_len_bound in
    let t = get_or c.args.ts.now (c.args.f.place - (c.args.n - length c.args.ts.now)) 0 in
    let e = entry_at c.args.ts.now c.args.n c.args.f.place c.requires.bounded h.0 h.1 c.if-f-k.false in
    let q : c.args.f.scale * t ≤ 2 ^ 20 * max_entry = mul-le-mul h.3 e.1 in
    omega (arith, q)

pub overflow_sub-left : goal.overflow_sub-left
overflow_sub-left c =
    let h = c.requires.ts_len_bound in
    let t = get_or c.args.ts.now (c.args.f.place - (c.args.n - length c.args.ts.now)) 0 in
    let e = entry_at c.args.ts.now c.args.n c.args.f.place c.requires.bounded h.0 h.1 c.if-f-k.false in
    let r : c.split-d.result.remainder < t = rest c.args.f.coordinate t _ e.0 c.split-d.ensures.1 in
    omega (arith, r)

pub overflow_mul-left : goal.overflow_mul-left
overflow_mul-left c =
    let h = c.requires.ts_len_bound in
    let t = get_or c.args.ts.now (c.args.f.place - (c.args.n - length c.args.ts.now)) 0 in
    let e = entry_at c.args.ts.now c.args.n c.args.f.place c.requires.bounded h.0 h.1 c.if-f-k.false in
    let r = c.split-d.result.remainder in
    let q : c.args.f.scale * (t - r) ≤ 2 ^ 20 * max_entry = left c.args.f.scale t r h.3 e.1 in
    omega (arith, q)
