-- `tiling::tiled::Tiled::candidate_into` meets its contract. Assumes nothing.
use Rattle.std.proofs.Common.{◌≡◌, ◌∙◌, ◌-◌, ℕ, List, sym, ap, subst, arith, length, take}
use lib.Seq.{length-take-le}
use Rattle.radix.proofs.Radix.{digits_in}
use Rattle.radix.specs.Radix.{max_size, digits, Upto}
use Rattle.tiling.proofs.Dims.{dims-rank, dims-few, dims-room, dims-below, dims-small}
use Rattle.tiling.proofs.Fills.{digits-front}
use Rattle.tiling.proofs.Undo.{in-upto}
use Rattle.tiling.specs.Cell.{unindex, ungather, candidate, entries}
use Rattle.tiling.specs.Ready.{Levels}
use Rattle.tiling.specs.Tiled.{tiles_in}
use Rattle.tiling.proofs.tiled.Tiled.candidate_into.Goals as goal

pub digits_into-requires-clause-ds_in_bounds : goal.digits_into-requires-clause-ds_in_bounds
digits_into-requires-clause-ds_in_bounds c =
    let t = c.args.self.now in
    (dims-few t, dims-room t, dims-below t c.args.k c.requires.0)

pub digits_into-requires-clause-sizes : goal.digits_into-requires-clause-sizes
digits_into-requires-clause-sizes c = dims-small c.args.self.now

pub unindex_in-n-requires : goal.unindex_in-n-requires
unindex_in-n-requires c =
    let t = c.args.self.now in
    let n = dims-rank t in
    let b = dims-below t c.args.k c.requires.0 in
    let q : length t.order.now ≡ length t.dims.now - entries (tiles_in t) = omega arith in
    record {
      long = c.digits_into.auto.out;
      fits = dims-few t;
      tiles = t.ready.shaped.tiles;
      enough = omega arith;
      levels = subst (Levels t.lens.now t.entries.now) q t.ready.shaped.levels;
      small = subst (Upto max_size) (sym (digits-front t.dims.now c.digits_into.new.out _ c.args.k b c.digits_into.ensures)) (in-upto max_size (digits_in t.dims.now c.args.k b) (dims-small t));
    }

pub slice_bounds-at-end : goal.slice_bounds-at-end
slice_bounds-at-end c =
    let n = dims-rank c.args.self.now in
    let f = dims-few c.args.self.now in
    omega arith

pub slice_bounds-ungather_into-end : goal.slice_bounds-ungather_into-end
slice_bounds-ungather_into-end c =
    let n = dims-rank c.args.self.now in
    let f = dims-few c.args.self.now in
    sym (length-take-le c.unindex_in-n.result c.unindex_in-n.new.at (omega arith))

pub ungather_into-requires-clause-p_in_bounds : goal.ungather_into-requires-clause-p_in_bounds
ungather_into-requires-clause-p_in_bounds c =
    let n = dims-rank c.args.self.now in
    let f = dims-few c.args.self.now in
    let r = c.args.self.now.ready.shaped.rank in
    let l : length (take c.unindex_in-n.result c.unindex_in-n.new.at) ≡ c.unindex_in-n.result = length-take-le c.unindex_in-n.result c.unindex_in-n.new.at (omega arith) in
    (omega arith, omega arith)

pub returns : goal.returns
unfolding candidate
returns c =
    let t = c.args.self.now in
    let p = t.order.now in
    let tss = tiles_in t in
    let n = dims-rank t in
    let left : c.unindex_in-n.result ≡ length p = omega arith in
    let front = digits-front t.dims.now c.digits_into.new.out _ c.args.k (dims-below t c.args.k c.requires.0) c.digits_into.ensures in
    ap (λ (j : ℕ). take j c.ungather_into.new.out) (sym t.ready.shaped.rank)
    ∙ c.ungather_into.ensures
    ∙ ap (ungather p)
    (c.unindex_in-n.ensures.same
    ∙ ap (λ (j : ℕ). unindex tss j (take (length t.dims.now) c.digits_into.new.out)) left
    ∙ ap (unindex tss (length p)) (front ∙ ap (λ (l : List ℕ). digits l c.args.k) t.same))
