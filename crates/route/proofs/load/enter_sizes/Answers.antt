-- `route::load::enter_sizes` meets its contract. Assumes nothing.
use Rattle.std.proofs.Common.{◌≡◌, ℕ, leb, refl, sym, ap, ◌∙◌, subst, arith}
use Rattle.radix.specs.Radix.{max_count, every}
use Rattle.layout.specs.Layout.{padded_of}
use Rattle.route.specs.Stations.{layout_at}
use Rattle.route.specs.Loading.{Filled, capped_size}
use Rattle.route.proofs.Tables.{filled-start, filled_next, every-next, still_kept, now-broken}
use Rattle.std.proofs.Common.{Bool}
use borrow.Author.Tests.{le-leb, lt-leb}
use Rattle.radix.proofs.Tests.{under-cap, over-cap}
use Rattle.shape.specs.declared.Shape.{Shape}
use Rattle.route.specs.declared.Station.{Station}
use Rattle.route.proofs.load.enter_sizes.Goals.{then-size-gt-MAX_COUNT, else-size-gt-MAX_COUNT}
use Rattle.route.proofs.load.enter_sizes.Goals as goal

pub loop-a-init : goal.loop-a-init
loop-a-init c = record { kept_is = refl; filled = filled-start _ _ _ }

-- the test of a place
abbrev small : Shape → Station → ℕ → Bool
small s x k = leb (padded_of s (layout_at x k)) max_count

pub loop-a-preserved : goal.loop-a-preserved
loop-a-preserved c =
    let i = c.loop-a.invariant in
    let a = c.loop-a.a in
    let f = small c.args.shape c.args.station in
    record {
      kept_is =
          elim c.if-size-gt-MAX_COUNT.branch [
            | then-size-gt-MAX_COUNT w ↦
                w.kept-is ∙ sym (now-broken (every f a) (f a) (every-next f a) (lt-leb _ _ (over-cap _ _ c.padded_capped-size.ensures w.if-size-gt-MAX_COUNT.true)))
            | else-size-gt-MAX_COUNT w ↦
                w.kept-is ∙ i.kept_is ∙ sym (still_kept (every f a) (f a) (every-next f a) (le-leb _ _ (under-cap _ _ c.padded_capped-size.ensures w.if-size-gt-MAX_COUNT.false)))
          ];
      filled = filled_next _ i.filled (omega (arith, i.filled.long)) c.padded_capped-size.ensures;
    }

pub returns : goal.returns
returns c =
    let e : c.loop-a.a ≡ c.args.station.count = omega arith in
    record {
      value = c.loop-a.invariant.kept_is ∙ ap (every (λ (k : ℕ). leb (padded_of c.args.shape (layout_at c.args.station k)) max_count)) e;
      filled = subst (λ (n : ℕ). Filled c.args.sizes.now c.loop-a.sizes c.args.at n (capped_size c.args.shape c.args.station)) e c.loop-a.invariant.filled;
    }
