-- Trees that are the same up to their counts have one answer: what stands past them, and the first station's parent, is
-- not read. Assumes nothing.
use Rattle.std.specs.Prelude.{Option, Some}
use Prim.Native.Nat.{ℕ, zero, suc, ◌+◌, ◌*◌, ◌<◌}
use mathlib.Core.Path.{◌≡◌, refl, sym, ap, ap₂, subst, ◌∙◌}
use mathlib.Core.Bool.{Bool, true, false}
use mathlib.Core.List.{List}
use lib.Dec.{ltb}
use native.Mathlib.Omega.{arith}
use native.Mathlib.Numerals.{add-one}
use native.Mathlib.Nat.{zero-mul}
use borrow.Author.Tests.{ltb-true, ltb-false}
use Rattle.plan.specs.Net.{price}
use Rattle.plan.specs.Answer.{spread}
use Rattle.plan.specs.declared.Plan.{Plan}
use Rattle.tree_plan.specs.Tree.{Tree, Earlier, Formed, sum_to, at, link_moves, link_cost, plan_moves, plan_cost, Admitted, Best}
use Rattle.tree_plan.specs.Weight.{far_weight, least_weight}
use Rattle.tree_plan.specs.Answer.{tree_answer}
use Rattle.tree_plan.proofs.Sums.{sum-agree}
use Rattle.tree_plan.proofs.Bounds.{Small}
use Rattle.tree_plan.proofs.Optimal.{found, none-admitted, only-best}

pub record Alike (T T' : Tree) : Type 0 where
  pub stations : T.stations ≡ T'.stations
  pub cells : T.cells ≡ T'.cells
  pub parent : (i : ℕ) → suc i < T.stations → T.parent (suc i) ≡ T'.parent (suc i)
  pub count : (i : ℕ) → i < T.stations → T.count i ≡ T'.count i
  pub size : (i a : ℕ) → i < T.stations → a < T.count i → T.size i a ≡ T'.size i a
  pub moved :
      (i a b : ℕ) →
      suc i < T.stations →
      a < T.count (T.parent (suc i)) →
      b < T.count (suc i) →
      T.moved (suc i) a b ≡ T'.moved (suc i) a b

parent_in : (T : Tree) → Formed T → (i : ℕ) → suc i < T.stations → T.parent (suc i) < T.stations
unfolding Earlier
parent_in T F i l = omega (arith, rw add-one at (F.earlier i (omega arith)))

alike_turned : (T T' : Tree) → Formed T → Alike T T' → Alike T' T
alike_turned T T' F A =
    record {
      stations = sym A.stations;
      cells = sym A.cells;
      parent = λ i l. sym (A.parent i (here l));
      count = λ i l. sym (A.count i (here l));
      size = λ i a l g. sym (A.size i a (here l) (omega (arith, A.count i (here l))));
      moved =
          λ i a b l g f.
          let u = A.count (T.parent (suc i)) (parent_in T F i (here l)) in
          let v : a < T'.count (T.parent (suc i)) = subst (λ (x : ℕ). a < T'.count x) (sym (A.parent i (here l))) g in
          sym (A.moved i a b (here l) (omega arith) (omega (arith, A.count (suc i) (here l))));
    }
  where
    here : {i : ℕ} → i < T'.stations → i < T.stations
    here l = omega (arith, A.stations)

module _ (T T' : Tree) (F : Formed T) (A : Alike T T') where
  module _ (p : List ℕ) (below : (i : ℕ) → i < T.stations → at p i < T.count i) where
    link-alike :
        (i : ℕ) → i < T.stations → link_moves T i (at p (T.parent i)) (at p i) ≡ link_moves T' i (at p (T'.parent i)) (at p i)
    link-alike zero l = refl
    link-alike (suc i) l =
        A.moved i (at p (T.parent (suc i))) (at p (suc i)) l (below (T.parent (suc i)) (parent_in T F i l)) (below (suc i) l)
        ∙ ap (λ (u : ℕ). T'.moved (suc i) (at p u) (at p (suc i))) (A.parent i l)

    paid-alike :
        (i : ℕ) → i < T.stations → link_cost T i (at p (T.parent i)) (at p i) ≡ link_cost T' i (at p (T'.parent i)) (at p i)
    paid-alike zero l = simp zero-mul
    paid-alike (suc i) l =
        ap₂ ◌*◌ (link-alike (suc i) l)
        (ap₂ price
        (A.size (T.parent (suc i)) (at p (T.parent (suc i))) (parent_in T F i l) (below (T.parent (suc i)) (parent_in T F i l))
        ∙ ap (λ (u : ℕ). T'.size u (at p u)) (A.parent i l))
        (A.size (suc i) (at p (suc i)) l (below (suc i) l)))

    moves-alike : plan_moves T p ≡ plan_moves T' p
    unfolding plan_moves
    moves-alike =
        sum-agree T.stations (λ i. link_moves T i (at p (T.parent i)) (at p i)) (λ i. link_moves T' i (at p (T'.parent i)) (at p i)) link-alike
        ∙ ap (λ (n : ℕ). sum_to n (λ i. link_moves T' i (at p (T'.parent i)) (at p i))) A.stations

    cost-alike : plan_cost T p ≡ plan_cost T' p
    unfolding plan_cost
    cost-alike =
        sum-agree T.stations
        (λ i. T.size i (at p i) + link_cost T i (at p (T.parent i)) (at p i))
        (λ i. T'.size i (at p i) + link_cost T' i (at p (T'.parent i)) (at p i))
        (λ i l. ap₂ ◌+◌ (A.size i (at p i) l (below i l)) (paid-alike i l))
        ∙ ap (λ (n : ℕ). sum_to n (λ i. T'.size i (at p i) + link_cost T' i (at p (T'.parent i)) (at p i))) A.stations

  admitted-alike : (m : ℕ) (p : List ℕ) → Admitted T m p → Admitted T' m p
  admitted-alike m p a =
      record {
        long = a.long ∙ A.stations;
        below = λ i l. omega (arith, a.below i (here l), A.count i (here l));
        fits = λ i l. omega (arith, a.fits i (here l), A.size i (at p i) (here l) (a.below i (here l)), A.cells);
        within = omega (arith, a.within, moves-alike p a.below);
      }
    where
      here : {i : ℕ} → i < T'.stations → i < T.stations
      here l = omega (arith, A.stations)

module _ (T T' : Tree) (F : Formed T) (F' : Formed T') (A : Alike T T') where
  turned : Alike T' T
  turned = alike_turned T T' F A

  best-alike : (m c : ℕ) (p : List ℕ) → Best T m c p → Best T' m c p
  best-alike m c p B =
      record {
        admitted = admitted-alike T T' F A m p B.admitted;
        total = B.total ∙ same p B.admitted;
        least = λ q a. let b = back q a in omega (arith, B.least q b, same p B.admitted, same q b);
        first = λ q a e. let b = back q a in B.first q b (same q b ∙ e ∙ sym (same p B.admitted));
      }
    where
      same : (q : List ℕ) → Admitted T m q → plan_cost T q ≡ plan_cost T' q
      same q a = cost-alike T T' F A q a.below

      back : (q : List ℕ) → Admitted T' m q → Admitted T m q
      back q a = admitted-alike T' T F' turned m q a

  pub answer-alike : Small T → Small T' → (m : ℕ) → tree_answer T m ≡ tree_answer T' m
  unfolding tree_answer
  answer-alike S S' m = go (ltb (least_weight T m) far_weight) refl (ltb (least_weight T' m) far_weight) refl
    where
      go :
          (s : Bool) →
          ltb (least_weight T m) far_weight ≡ s →
          (t : Bool) →
          ltb (least_weight T' m) far_weight ≡ t →
          tree_answer T m ≡ tree_answer T' m
      go true e true g =
          let r = only-best T' m _ _ _ _ (best-alike m _ _ (found T F m (ltb-true _ _ e))) (found T' F' m (ltb-true _ _ g)) in
          let answer : List ℕ → ℕ → Option Plan = λ p c. Some (record { places = p; total = c }) in
          simp (e, g) (ap₂ answer (ap₂ spread A.stations r.0) r.1)
      go true e false g =
          absurd (none-admitted T' F' S' m _ (admitted-alike T T' F A m _ (found T F m (ltb-true _ _ e)).admitted) (ltb-false _ _ g))
      go false e true g =
          absurd (none-admitted T F S m _ (admitted-alike T' T F' turned m _ (found T' F' m (ltb-true _ _ g)).admitted) (ltb-false _ _ e))
      go false e false g = simp (e, g)
