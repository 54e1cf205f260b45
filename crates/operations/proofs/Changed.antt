-- Operations that treat each dimension by itself: what is judged, and what the maps ask for. Assumes nothing.
use Rattle.std.specs.Prelude.{Ok}
use mathlib.Core.Path.{◌≡◌, ap}
use mathlib.Core.Bool.{Bool, true, false, cond, ◌&&◌}
use mathlib.Core.List.{List, []}
use Prim.Native.Nat.{ℕ, ◌≤◌}
use native.Mathlib.Omega.{arith}
use borrow.Author.Tests.{ltb-true, leb-true}
use lib.Dec.{ltb, leb, eqb}
use lib.ListN.{length, get_or}
use Rattle.radix.specs.Radix.{max_size}
use Rattle.radix.proofs.Tests.{and_left, and_right, every-at}
use Rattle.refusal.specs.Judge.{judge}
use Rattle.refusal.specs.declared.Refusal.TheVariants.{ShapeLimits, Attribute}
use Rattle.refusal.proofs.Judged.{kept, rest}
use Rattle.shape.specs.Shape.{sizes_of, good_shape}
use Rattle.shape.specs.declared.Shape.{Shape}
use Rattle.operation_maps.specs.declared.Way.{Way}
use Rattle.operation_maps.specs.declared.Way.TheVariants.{OutputToInput, InputToOutput}
use Rattle.operation_maps.specs.declared.Axis.{Axis}
use Rattle.operation_maps.specs.declared.Axis.TheVariants.{Keep, Flip, Shift}
use Rattle.operation_builder.specs.declared.Change.TheVariants.{Kept, Reversed, Joined, Sliced}
use Rattle.map_builder.specs.Raw.{encoded}
use Rattle.operation_maps.specs.Lists.{is_listed}
use Rattle.operation_maps.specs.Axes.{axes_out, axes_in}
use Rattle.operation_builder.specs.Family.{axes_raw, Ready, is_out}
use Rattle.operation_builder.specs.AxisDraft.{AllReady}
use Rattle.operation_maps.specs.Operation.{Operation, good_cut, good_cuts, operation_rules, raw_of}
use Rattle.operation_maps.proofs.Meaning.{Limited, limited-of}
use Rattle.map_builder.proofs.Steps.{sized-at}

-- ---- every dimension is small

either : (b : Bool) (x y : Axis) → Ready x → Ready y → Ready (cond b x y)
either true x y h k = h
either false x y h k = k

module _ (ns : List ℕ) (g : Limited ns) where
  pub kept-ready : (a b c : List ℕ) → AllReady Kept ns a b c
  kept-ready a b c = record { few = g.few; ready = λ k h. sized-at ns k g.sized h }

  pub reversed-ready : (a b c : List ℕ) → AllReady Reversed ns a b c
  reversed-ready a b c =
      record { few = g.few; ready = λ k h. let z = sized-at ns k g.sized h in either (is_listed a k) (Flip (get_or ns k 0)) (Keep (get_or ns k 0)) z z }

  pub joined-ready : (dim by : ℕ) → by ≤ max_size → (a b c : List ℕ) → AllReady (Joined dim by) ns a b c
  joined-ready dim by m a b c =
      record { few = g.few; ready = λ k h. let z = sized-at ns k g.sized h in either (eqb k dim) (Shift by (get_or ns k 0)) (Keep (get_or ns k 0)) (m, z) z }

  pub sliced-ready : (a b c : List ℕ) → good_cuts ns a b c ≡ true → AllReady Sliced ns a b c
  sliced-ready a b c e =
      record {
        few = g.few;
        ready = λ k h.
            let n = get_or ns k 0 in
            let e0 = every-at (λ (k : ℕ). good_cut (get_or ns k 0) (get_or a k 0) (get_or b k 0) (get_or c k 0)) (length ns)
            (and_right (eqb (length a) (length ns) && (eqb (length b) (length ns) && eqb (length c) (length ns))) _ e) k h in
            let p = ltb-true (get_or a k 0) (get_or b k 0) (and_left (ltb (get_or a k 0) (get_or b k 0)) _ e0) in
            let e1 = and_right (ltb (get_or a k 0) (get_or b k 0)) _ e0 in
            let q = leb-true (get_or b k 0) n (and_left (leb (get_or b k 0) n) _ e1) in
            let e2 = and_right (leb (get_or b k 0) n) _ e1 in
            let s = leb-true 1 (get_or c k 0) (and_left (leb 1 (get_or c k 0)) _ e2) in
            let t = leb-true (get_or c k 0) max_size (and_right (leb 1 (get_or c k 0)) _ e2) in
            (p, (omega (arith, q, (sized-at ns k g.sized h).1), (s, t)));
      }

-- ---- a judged operation

pub elementwise-good : (x : Shape) → judge (operation_rules (Operation.elementwise x)) ≡ Ok tt → (good_shape x ≡ true) × AllReady Kept (sizes_of x) [] [] []
elementwise-good x e = let g = kept (good_shape x) ShapeLimits _ e in (g, kept-ready (sizes_of x) (limited-of x g) [] [] [])

pub reverse-good : (x : Shape) (l : List ℕ) → judge (operation_rules (Operation.reverse x l)) ≡ Ok tt → (good_shape x ≡ true) × AllReady Reversed (sizes_of x) l l l
reverse-good x l e = let g = kept (good_shape x) ShapeLimits _ e in (g, reversed-ready (sizes_of x) (limited-of x g) l l l)

pub slice-good : (x : Shape) (a b c : List ℕ) → judge (operation_rules (Operation.slice x a b c)) ≡ Ok tt → (good_shape x ≡ true) × AllReady Sliced (sizes_of x) a b c
slice-good x a b c e =
    let g = kept (good_shape x) ShapeLimits _ e in
    (g, sliced-ready (sizes_of x) (limited-of x g) a b c (kept (good_cuts (sizes_of x) a b c) Attribute _ (rest (good_shape x) ShapeLimits _ e)))

-- ---- the map of each operation, either way

pub elementwise-way : (way : Way) (b : Bool) → b ≡ is_out way → (x : Shape) → encoded (axes_raw b Kept (sizes_of x) [] [] []) ≡ encoded (raw_of way (Operation.elementwise x))
unfolding axes_out axes_in
elementwise-way OutputToInput b e x = ap (λ (b : Bool). encoded (axes_raw b Kept (sizes_of x) [] [] [])) e
elementwise-way InputToOutput b e x = ap (λ (b : Bool). encoded (axes_raw b Kept (sizes_of x) [] [] [])) e

pub reverse-way : (way : Way) (b : Bool) → b ≡ is_out way → (x : Shape) (l : List ℕ) → encoded (axes_raw b Reversed (sizes_of x) l l l) ≡ encoded (raw_of way (Operation.reverse x l))
unfolding axes_out axes_in
reverse-way OutputToInput b e x l = ap (λ (b : Bool). encoded (axes_raw b Reversed (sizes_of x) l l l)) e
reverse-way InputToOutput b e x l = ap (λ (b : Bool). encoded (axes_raw b Reversed (sizes_of x) l l l)) e

pub slice-way : (way : Way) (b : Bool) → b ≡ is_out way → (x : Shape) (i j k : List ℕ) → encoded (axes_raw b Sliced (sizes_of x) i j k) ≡ encoded (raw_of way (Operation.slice x i j k))
unfolding axes_out axes_in
slice-way OutputToInput b e x i j k = ap (λ (b : Bool). encoded (axes_raw b Sliced (sizes_of x) i j k)) e
slice-way InputToOutput b e x i j k = ap (λ (b : Bool). encoded (axes_raw b Sliced (sizes_of x) i j k)) e
