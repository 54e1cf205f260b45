-- `pack::table::offsets_into` meets its contract. Assumes nothing.
use Rattle.std.proofs.Common.{arith, ◌≡◌, ℕ, ◌*◌, ◌-◌, ◌<◌, length, get_or, drop, sym, ap, ◌∙◌, subst}
use Rattle.std.proofs.Math.Nat.{one-mul, mul_comm}
use Rattle.std.proofs.lemmas.List.{drop_all, length-set}
use Rattle.radix.specs.Radix.{prod, Bounded}
use Rattle.tiling.specs.Tiled.{tiles_in}
use Rattle.pack.specs.Rows.{IsSpan}
use Rattle.pack.proofs.Tables.{table-first, table-full, before-size, before-room, before_at, before-span}
use Rattle.pack.proofs.table.offsets_into.Goals as goal

pub loop-k-init : goal.loop-k-init
loop-k-init c =
    let sizes = c.args.t.now.sizes.now in
    (sym (ap prod (drop_all (length sizes) sizes (omega arith))), table-first sizes c.args.t.now.order.now (tiles_in c.args.t.now) c.args.n c.args.table.now (omega (arith, c.requires.n_nonzero.0, c.requires.n_nonzero.2)))

pub returns-then-count-span : goal.returns-then-count-span
returns-then-count-span c =
    table-full c.args.t.now.sizes.now c.args.t.now.order.now (tiles_in c.args.t.now) c.loop-k.span c.args.n c.loop-k.table c.loop-k.invariant.1 c.if-count-span.true (omega (arith, c.requires.n_nonzero.2, c.loop-k.auto.table, length-set c.args.table.now 0 0))

pub repeat_rows-requires-clause-span : goal.repeat_rows-requires-clause-span
repeat_rows-requires-clause-span c =
    let l = c.loop-k in (
      subst (λ (i : ℕ). IsSpan c.args.t.now.sizes.now c.args.t.now.order.now i l.span) (sym c.place_of-place.ensures)
          (before-span c.args.t.now.sizes.now c.args.t.now.order.now c.args.t.now.lens.now c.args.t.now.entries.now c.args.t.now.ready l.k c.loop-k-test.true l.auto.k l.span l.invariant.0),
      omega (arith, c.requires.n_nonzero.2, c.loop-k.auto.table, length-set c.args.table.now 0 0),
    )

pub overflow_mul-span : goal.overflow_mul-span
overflow_mul-span c =
    let l = c.loop-k in
    let sizes = c.args.t.now.sizes.now in
    let e = before-size sizes c.args.t.now.order.now c.args.t.now.lens.now c.args.t.now.entries.now c.args.t.now.ready l.k c.loop-k-test.true l.auto.k in
    let m = before-room sizes c.args.t.now.order.now c.args.t.now.lens.now c.args.t.now.entries.now c.args.t.now.ready l.k c.loop-k-test.true l.auto.k in
    let w : l.span * get_or sizes (l.k - 1) 0 ≡ prod (drop (l.k - 1) sizes) = mul_comm l.span (get_or sizes (l.k - 1) 0) ∙ ap (λ (n : ℕ). get_or sizes (l.k - 1) 0 * n) l.invariant.0 ∙ e in
    omega (arith, w, m, c.args.t.now.ready.shaped.count)

pub loop-k-preserved-then-size-gt1 : goal.loop-k-preserved-then-size-gt1
loop-k-preserved-then-size-gt1 c =
    let l = c.loop-k in
    let sizes = c.args.t.now.sizes.now in
    let e = before-size sizes c.args.t.now.order.now c.args.t.now.lens.now c.args.t.now.entries.now c.args.t.now.ready l.k c.loop-k-test.true l.auto.k in
    let at = ap (λ (i : ℕ). get_or c.args.t.now.order.now i 0) c.place_of-place.ensures ∙ before_at sizes c.args.t.now.order.now c.args.t.now.lens.now c.args.t.now.entries.now c.args.t.now.ready l.k c.loop-k-test.true l.auto.k in
    let size : get_or sizes (get_or c.args.t.now.order.now c.place_of-place.result 0) 0 * l.span ≡ l.span * get_or sizes (l.k - 1) 0 = ap (λ (k : ℕ). get_or sizes k 0 * l.span) at ∙ mul_comm (get_or sizes (l.k - 1) 0) l.span in
    (mul_comm l.span (get_or sizes (l.k - 1) 0) ∙ ap (λ (n : ℕ). get_or sizes (l.k - 1) 0 * n) l.invariant.0 ∙ e, λ k h g. c.repeat_rows.ensures k (omega (arith, size, h)) g)

pub loop-k-preserved : goal.loop-k-preserved
unfolding Bounded
loop-k-preserved c =
    let l = c.loop-k in
    let sizes = c.args.t.now.sizes.now in
    let e = before-size sizes c.args.t.now.order.now c.args.t.now.lens.now c.args.t.now.entries.now c.args.t.now.ready l.k c.loop-k-test.true l.auto.k in
    let some : 0 < get_or sizes (l.k - 1) 0 = (c.args.t.now.ready.shaped.small (l.k - 1) (omega (arith, c.loop-k-test.true, l.auto.k))).0 in
    let one : get_or sizes (l.k - 1) 0 ≡ 1 = omega (arith, some, c.if-size-gt1.false) in
    (sym (one-mul l.span) ∙ ap (λ (x : ℕ). x * l.span) (sym one) ∙ ap (λ (n : ℕ). get_or sizes (l.k - 1) 0 * n) l.invariant.0 ∙ e, l.invariant.1)

pub returns : goal.returns
returns c =
    let l = c.loop-k in
    let sizes = c.args.t.now.sizes.now in
    let z : l.k ≡ 0 = omega (arith, c.loop-k-test.false) in
    let all : l.span ≡ prod sizes = l.invariant.0 ∙ ap (λ (k : ℕ). prod (drop k sizes)) z in
    table-full sizes c.args.t.now.order.now (tiles_in c.args.t.now) l.span c.args.n l.table l.invariant.1 (omega (arith, all, c.requires.n_nonzero.1)) (omega (arith, c.requires.n_nonzero.2, c.loop-k.auto.table, length-set c.args.table.now 0 0))
