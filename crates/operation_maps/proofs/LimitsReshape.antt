-- The maps of reshapes keep folding's limits: their trees are natural. Assumes nothing.
use mathlib.Core.Path.{◌≡◌, refl, sym, ap, ◌∙◌, subst}
use mathlib.Core.List.{List, [], ◌∷◌}
use Prim.Native.Nat.{ℕ, suc, ◌+◌, ◌*◌, ◌^◌, ◌<◌, ◌≤◌}
use native.Mathlib.Nat.{mul-le-mul_left, mul_comm, zero-add}
use native.Mathlib.Omega.{arith}
use lib.IntN.{pos, nat_abs}
use lib.ListN.{length, get_or}
use Rattle.integer.specs.Exact.{limit}
use Rattle.radix.specs.Radix.{max_size, prod}
use Rattle.expression.specs.Expression.{Kind, d, floordiv, modulo, Expr, Range}
use Rattle.folding.proofs.Map.{AllTrees}
use Rattle.folding.proofs.Magnitude.{atom_magnitude, tree_magnitude}
use Rattle.folding.proofs.Natural.{IsNatural}
use Rattle.folding.proofs.PlainTrees.{NaturalE, natural-plain}
use Rattle.folding.proofs.FoldedSize.{atom_count}
use Rattle.shape.specs.Shape.{max_rank}
use Rattle.map_builder.specs.Raw.{up_to, whole_of}
use Rattle.operation_maps.specs.Reshape.{linear_from, linear, digit_trees, split_trees, reshape_map, Positive}
use Rattle.operation_maps.proofs.ReshapeNamed.{prod-positive}
use Rattle.operation_maps.proofs.Fitted.{no-constraints, whole_length, tail-le, split-nodes}
use Rattle.operation_maps.proofs.Handed.{range_at}
use Rattle.operation_maps.proofs.Limits.{Light, plain-light, whole-good, Keeps}

module _ (β : Kind → ℕ → Range) where
  -- dimension k and those after it have the bounds of a shape
  abbrev WholeFrom : ℕ → List ℕ → Type 0
  WholeFrom k [] = Unit {0}
  WholeFrom k (n ∷ ns) = (β d k ≡ up_to n) × WholeFrom (suc k) ns

  whole_from : (k : ℕ) (ns : List ℕ) → ((j : ℕ) → j < length ns → β d (k + j) ≡ range_at (whole_of ns) j) → WholeFrom k ns
  whole_from k [] h = tt
  whole_from k (n ∷ ns) h =
      let a : k + 0 ≡ k = omega arith in (
        ap (β d) (sym a) ∙ h 0 (omega arith),
        whole_from (suc k) ns (λ j l. let b : suc k + j ≡ k + suc j = omega arith in ap (β d) b ∙ h (suc j) (omega arith)),
      )

  -- a natural tree of magnitude at most m, with n variables, floordivs and mods
  record Built (e : Expr) (m n : ℕ) : Type 0 where
    natural : NaturalE β e
    size : tree_magnitude β e ≤ m
    atoms : atom_count e ≡ n

  term-built : (k n : ℕ) (ns : List ℕ) → β d k ≡ up_to n → 0 < n → Positive ns → n * prod ns ≤ 2 ^ 40 → Built (Expr.mul (pos (prod ns)) (Expr.var d k)) (2 ^ 41) 1
  unfolding NaturalE IsNatural tree_magnitude atom_magnitude atom_count
  term-built k n ns e h g l =
      let m : suc (nat_abs (β d k).lo + nat_abs (β d k).hi) ≡ n = ap (λ (r : Range). suc (nat_abs r.lo + nat_abs r.hi)) e ∙ omega arith in
      let p : n ≤ n * prod ns = omega (arith, mul-le-mul_left n (prod-positive ns g)) in
      record {
        natural = (tt, ap (λ (r : Range). r.lo) e);
        size = omega (arith, p, l, ap (λ (x : ℕ). prod ns * x) m, mul_comm (prod ns) n);
        atoms = refl;
      }

  linear-from-built : (e : Expr) (m a k : ℕ) (ns : List ℕ) → WholeFrom k ns → Positive ns → prod ns ≤ 2 ^ 40 → Built e m a
      → Built (linear_from e k ns) (m + length ns * 2 ^ 41) (a + length ns)
  unfolding linear_from NaturalE tree_magnitude atom_count
  linear-from-built e m a k [] w g l h = record { natural = h.natural; size = omega (arith, h.size); atoms = omega (arith, h.atoms) }
  linear-from-built e m a k (n ∷ ns) w g l h =
      let t = term-built k n ns w.0 g.0 g.1 l in
      let q = tail-le n ns g.0 in
      let r = linear-from-built (Expr.add e (Expr.mul (pos (prod ns)) (Expr.var d k))) (m + 2 ^ 41) (a + 1) (suc k) ns w.1 g.1 (omega arith)
      (record { natural = (h.natural, t.natural); size = omega (arith, h.size, t.size); atoms = omega (arith, h.atoms, t.atoms) }) in
      record { natural = r.natural; size = omega (arith, r.size); atoms = omega (arith, r.atoms) }

  linear-built : (ns : List ℕ) → WholeFrom 0 ns → Positive ns → prod ns ≤ 2 ^ 40 → Built (linear ns) (length ns * 2 ^ 41) (length ns)
  unfolding linear NaturalE IsNatural tree_magnitude atom_count
  linear-built [] w g l = record { natural = tt; size = omega arith; atoms = refl }
  linear-built (n ∷ ns) w g l =
      let q = tail-le n ns g.0 in
      let r = linear-from-built (Expr.mul (pos (prod ns)) (Expr.var d 0)) (2 ^ 41) 1 1 ns w.1 g.1 (omega arith) (term-built 0 n ns w.0 g.0 g.1 l) in
      record { natural = r.natural; size = omega (arith, r.size); atoms = omega (arith, r.atoms) }

  built-light : (e : Expr) (m n : ℕ) → Built e m n → m ≤ limit → n ≤ 8 → Light β 8 e
  built-light e m n h a b = plain-light β 8 e (natural-plain β e h.natural) (omega (arith, h.size)) (omega (arith, h.atoms))

  module _ (e : Expr) (n : ℕ) (few : n ≤ max_rank) (h : Built e (n * 2 ^ 41) n) where
    split-built : (c : ℕ) → 0 < c → Built (Expr.op floordiv e c) (6 * 2 ^ 41 + 1) (n + 1)
    unfolding NaturalE tree_magnitude atom_count
    split-built c l = record { natural = (l, h.natural); size = omega (arith, h.size); atoms = omega (arith, h.atoms) }

    digit-built : (c k : ℕ) → 0 < c → 0 < k → k ≤ 2 ^ 40 → Built (Expr.op modulo (Expr.op floordiv e c) k) (8 * 2 ^ 41) (n + 2)
    unfolding NaturalE tree_magnitude atom_count
    digit-built c k l p m =
        let s = split-built c l in
        record { natural = (p, s.natural); size = omega (arith, s.size); atoms = omega (arith, s.atoms) }

    digits-light : (ns : List ℕ) → Positive ns → prod ns ≤ 2 ^ 40 → AllTrees (Light β 8) (digit_trees ns e)
    unfolding digit_trees AllTrees
    digits-light [] g m = tt
    digits-light (k ∷ ns) g m =
        let q = tail-le k ns g.0 in
        let p = prod-positive ns g.1 in
        let r : k ≤ 2 ^ 40 = omega (arith, mul-le-mul_left k p) in (
          built-light (Expr.op modulo (Expr.op floordiv e (prod ns)) k) (8 * 2 ^ 41) (n + 2) (digit-built (prod ns) k p g.0 r) (omega arith) (omega arith),
          digits-light ns g.1 (omega arith),
        )

    split-light : (ns : List ℕ) → Positive ns → prod ns ≤ 2 ^ 40 → AllTrees (Light β 8) (split_trees ns e)
    unfolding split_trees AllTrees
    split-light [] g m = tt
    split-light (k ∷ ns) g m =
        let q = tail-le k ns g.0 in (
          built-light (Expr.op floordiv e (prod ns)) (6 * 2 ^ 41 + 1) (n + 1) (split-built (prod ns) (prod-positive ns g.1)) (omega arith) (omega arith),
          digits-light ns g.1 (omega arith),
        )

pub reshape-keeps : (src dst : List ℕ) → length src ≤ max_rank → length dst ≤ max_rank → Positive src → Positive dst → ((k : ℕ) → k < length src → get_or src k 0 ≤ max_size)
    → prod src ≤ 2 ^ 40 → prod dst ≤ 2 ^ 40 → Keeps (reshape_map src dst)
unfolding reshape_map
reshape-keeps src dst a b gs gd sized ms md =
    let es = split_trees dst (linear src) in
    record {
      dims = whole-good src sized;
      ranges = tt;
      intervals = refl;
      most = 8;
      trees = λ β g.
          let w = whole_from β 0 src (λ j l. ap (β d) (zero-add j) ∙ g.dims j (omega (arith, whole_length src))) in
          subst (AllTrees (Light β 8)) (sym (no-constraints es)) (split-light β (linear src) (length src) a (linear-built β src w gs ms) dst gd md);
      few = omega (arith, (split-nodes (linear src) dst).0);
    }
