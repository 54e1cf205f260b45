-- Shapes that keep their limits give what the maps ask for. Assumes nothing.
use mathlib.Core.Path.{◌≡◌, sym, ◌∙◌, subst, ap}
use mathlib.Core.Bool.{true}
use mathlib.Core.List.{List, []}
use Prim.Native.Nat.{ℕ, ◌<◌, ◌≤◌}
use native.Mathlib.Omega.{arith}
use lib.ListN.{length, get_or, take}
use Rattle.radix.specs.Radix.{max_size, Bounded}
use Rattle.shape.specs.Shape.{max_rank, sizes_of, good_shape}
use Rattle.shape.specs.declared.Shape.{Shape}
use Rattle.operation_maps.specs.Lists.{select, others}
use Rattle.operation_maps.specs.Selection.{Choice}
use Rattle.operation_maps.specs.Operation.{rank_of}
use Rattle.operation_maps.proofs.Fitted.{choice-few}
use Rattle.operation_maps.proofs.SelectionNamed.{select-length, select-at, others-choice}
use Rattle.operation_maps.proofs.Meaning.{limited-of, no-choice}
use Rattle.operation_builder.specs.Family.{Chosen}
use Rattle.operation_builder.specs.SelectionDraft.{Choosable, KeptAs}
use Rattle.operation_builder.specs.ReshapeDraft.{Reshapable}
use Rattle.operation_builder.specs.declared.Kept.{Kept}
use Rattle.operation_builder.proofs.SelectionSteps.{front-is}
use Rattle.encoding.proofs.Filled.{filled-length}

pub chosen-ready : (x : Shape) (l : List ℕ) → Chosen x l → Choosable (sizes_of x) l
chosen-ready x l h = let g = limited-of x h.good in record { few = g.few; sized = g.sized; choice = h.choice }

-- ---- the dimensions that a list leaves

pub record Front (l ns : List ℕ) (k : Kept) : Type 0 where
  pub dims : take k.count k.dims ≡ others l (length ns)
  pub sizes : take k.count k.sizes ≡ select (others l (length ns)) ns
  pub room-dims : k.count ≤ length k.dims
  pub room-sizes : k.count ≤ length k.sizes
  pub long-dims : k.count ≡ length (take k.count k.dims)
  pub long-sizes : k.count ≡ length (take k.count k.sizes)

pub kept-front : (l ns : List ℕ) (k : Kept) → length ns ≤ max_rank → KeptAs l ns (length ns) k → Front l ns k
kept-front l ns k n h =
    let o = others l (length ns) in
    let f : length o ≤ max_rank = omega (arith, n, choice-few o (length ns) (others-choice l (length ns))) in
    let s : length (select o ns) ≡ length o = select-length o ns in
    let a = front-is max_rank o k.dims k.count h.dims h.count f in
    let b = front-is max_rank (select o ns) k.sizes k.count h.sizes (h.count ∙ sym s) (omega (arith, s, f)) in
    record {
      dims = a;
      sizes = b;
      room-dims = omega (arith, h.count, f, ap length h.dims, filled-length max_rank 0 o);
      room-sizes = omega (arith, h.count, f, ap length h.sizes, filled-length max_rank 0 (select o ns));
      long-dims = h.count ∙ sym (ap length a);
      long-sizes = h.count ∙ sym s ∙ sym (ap length b);
    }

pub rest-chosen : (x : Shape) (l m : List ℕ) → good_shape x ≡ true → m ≡ others l (rank_of x) → Chosen x m
rest-chosen x l m g e = record { good = g; choice = subst (λ (m : List ℕ). Choice m (rank_of x)) (sym e) (others-choice l (rank_of x)) }

select-bounded : (l ns : List ℕ) → Bounded max_size ns → Choice l (length ns) → Bounded max_size (select l ns)
unfolding Bounded
select-bounded l ns b c k h =
    let j : k < length l = omega (arith, h, select-length l ns) in
    subst (λ (n : ℕ). (0 < n) × (n ≤ max_size)) (sym (select-at l ns k j)) (b (get_or l k 0) (c.inside k j))

pub none-chosen : (x : Shape) (l m : List ℕ) → good_shape x ≡ true → m ≡ select (others l (rank_of x)) (sizes_of x) → Choosable m []
none-chosen x l m g e = subst (λ (m : List ℕ). Choosable m []) (sym e) whole
  where
    o : Choice (others l (rank_of x)) (rank_of x)
    o = others-choice l (rank_of x)

    whole : Choosable (select (others l (rank_of x)) (sizes_of x)) []
    whole =
        let w = limited-of x g in
        record {
          few = omega (arith, select-length (others l (rank_of x)) (sizes_of x), choice-few (others l (rank_of x)) (rank_of x) o, w.few);
          sized = select-bounded (others l (rank_of x)) (sizes_of x) w.sized o;
          choice = no-choice (length (select (others l (rank_of x)) (sizes_of x)));
        }

-- two good shapes, either way round
pub reshape-ready : (x y : Shape) → (good_shape x ≡ true) × (good_shape y ≡ true) → Reshapable (sizes_of x) (sizes_of y)
reshape-ready x y b =
    let gx = limited-of x b.0 in
    let gy = limited-of y b.1 in
    record {
      few-src = omega (arith, gx.few);
      few-dst = omega (arith, gy.few);
      sized-src = gx.sized;
      sized-dst = gy.sized;
      counted-src = gx.counted;
      counted-dst = gy.counted;
    }
