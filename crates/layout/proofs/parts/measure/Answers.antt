-- `layout::parts::measure` meets its contract. Assumes nothing.
use Rattle.std.proofs.Common.{◌≡◌, ◌∙◌, ◌≤◌, ◌+◌, ℕ, List, true, sym, ap, subst, min, length, take, arith, rules}
use borrow.Author.Tests.{le-leb, lt-leb}
use native.Mathlib.Nat.{min-eq_left}
use Rattle.radix.specs.Radix.{max_count}
use Rattle.radix.proofs.Tests.{under-cap, over-cap}
use Rattle.shape.specs.Shape.{max_rank, sizes_of, good_shape}
use Rattle.shape.specs.declared.Shape.{Shape}
use Rattle.tiling.specs.Tile.{padded, physical, reversed}
use Rattle.tiling.specs.Ready.{Shaped}
use Rattle.layout.specs.Layout.{layout_from, good_layout, lens_of, tiles_of, padded_of}
use Rattle.layout.specs.Measured.{Lengths}
use Rattle.layout.proofs.Accepted.{Good, good_of, order-held, shaped_of}
use Rattle.layout.proofs.parts.measure.Goals as goal

-- a shape and a layout of these parts that keep their rules
good : (s : Shape) {rank tiles : ℕ} {m lens flat out dims : List ℕ} → length s.sizes ≡ max_rank → Lengths m lens flat out dims → good_shape s ≡ true
    → good_layout s.rank (layout_from rank m tiles lens flat) ≡ true
    → Good s (layout_from rank m tiles lens flat)
good s {rank} {tiles} {m} {lens} {flat} six h a b =
    good_of s (layout_from rank m tiles lens flat) six (record { order = h.minor; lens = h.tiles; tile = h.entries }) a b

-- the padded size with its limit
capped : {s : Shape} {rank tiles : ℕ} {m lens flat : List ℕ} (size : ℕ) → Good s (layout_from rank m tiles lens flat)
    → size ≡ min (padded (sizes_of s) (reversed (take s.rank m)) (tiles_of (layout_from rank m tiles lens flat))) (max_count + 1)
    → size ≡ min (padded_of s (layout_from rank m tiles lens flat)) (max_count + 1)
capped {s} {rank} {tiles} {m} {lens} {flat} size g e =
    e ∙ ap (λ (o : List ℕ). min (padded (sizes_of s) (reversed o) (tiles_of (layout_from rank m tiles lens flat))) (max_count + 1)) g.kept.read

pub shared_ref_as_front-lay_out : goal.shared_ref_as_front-lay_out
shared_ref_as_front-lay_out c =
    (good c.args.shape (search rules) c.requires (sym c.good_shape.ensures ∙ c.if-not-good_shape.false) (sym c.good_parts.ensures ∙ c.if-not-good_parts.false)).limits.rank

pub slice_bounds-lay_out-end-3 : goal.slice_bounds-lay_out-end-3
slice_bounds-lay_out-end-3 c =
    sym (good c.args.shape (search rules) c.requires (sym c.good_shape.ensures ∙ c.if-not-good_shape.false) (sym c.good_parts.ensures ∙ c.if-not-good_parts.false)).kept.tile-long

pub lay_out-extent-requires-clause-shaped : goal.lay_out-extent-requires-clause-shaped
lay_out-extent-requires-clause-shaped c =
    let s = c.args.shape in
    let l = layout_from c.args.rank c.args.m.now c.args.tiles c.args.lens.now c.args.flat.now in
    let g : Good s l = good c.args.shape (search rules) c.requires (sym c.good_shape.ensures ∙ c.if-not-good_shape.false) (sym c.good_parts.ensures ∙ c.if-not-good_parts.false) in
    subst (λ (o : List ℕ). Shaped (sizes_of s) (reversed o) (lens_of l) c.args.flat.now) (sym g.kept.read) (shaped_of g.limits g.kept)

pub returns : goal.returns
returns c =
    let s = c.args.shape in
    let l = layout_from c.args.rank c.args.m.now c.args.tiles c.args.lens.now c.args.flat.now in
    let a = sym c.good_shape.ensures ∙ c.if-not-good_shape.false in
    let b = sym c.good_parts.ensures ∙ c.if-not-good_parts.false in
    let g : Good s l = good c.args.shape (search rules) c.requires a b in
    let x = c.lay_out-extent.ensures in
    let e : c.lay_out-extent.result.padded ≡ min (padded_of s l) (max_count + 1) = capped _ g x.padded in
    let small : padded_of s l ≤ max_count = under-cap _ _ e (omega arith) in (
      rw (a, b, le-leb _ _ small),
      record {
        order = order-held g.kept _ x.order;
        fits = x.fits;
        same = x.same ∙ ap (λ (o : List ℕ). physical (sizes_of s) (reversed o) (tiles_of l)) g.kept.read;
        count = x.count;
        padded = e ∙ min-eq_left (omega (arith, small));
      },
    )

pub returns-then-extent-gt-MAX_COUNT : goal.returns-then-extent-gt-MAX_COUNT
returns-then-extent-gt-MAX_COUNT c =
    let s = c.args.shape in
    let l = layout_from c.args.rank c.args.m.now c.args.tiles c.args.lens.now c.args.flat.now in
    let a = sym c.good_shape.ensures ∙ c.if-not-good_shape.false in
    let b = sym c.good_parts.ensures ∙ c.if-not-good_parts.false in
    let g : Good s l = good c.args.shape (search rules) c.requires a b in
    let e : c.lay_out-extent.result.padded ≡ min (padded_of s l) (max_count + 1) = capped _ g c.lay_out-extent.ensures.padded in
    rw (a, b, lt-leb _ _ (over-cap _ _ e (omega arith)))
