-- On a tree without forks the answer is the one of the stations in a row. Assumes nothing.
use Rattle.std.specs.Prelude.{Option, Some}
use Prim.Native.Nat.{ℕ, zero, suc, ◌+◌, ◌*◌, ◌≤◌, ◌<◌}
use mathlib.Core.Path.{◌≡◌, refl, sym, ap, ap₂, subst, ◌∙◌}
use mathlib.Core.Bool.{Bool, true, false}
use mathlib.Core.List.{List, [], ◌∷◌}
use lib.ListN.{length}
use lib.Dec.{ltb}
use native.Mathlib.Omega.{arith}
use native.Mathlib.Numerals.{add-one}
use native.Mathlib.Nat.{zero-mul}
use native.Mathlib.Decide.{dec_lt}
use borrow.Author.Tests.{ltb-true, ltb-false}
use Rattle.plan.specs.Net.{Net, Coming, price, still, after, Keeps, moves_of, cost_of}
use Rattle.plan.specs.Value.{far}
use Rattle.plan.specs.Answer.{spread, plan_answer}
use Rattle.plan.specs.declared.Plan.{Plan}
use Rattle.plan.proofs.Theorems.{best-found, none_found, best-one}
use Rattle.tree_plan.specs.Tree.{Tree, Earlier, Formed, sum_to, at, link_moves, link_cost, plan_moves, plan_cost, Admitted, Best}
use Rattle.tree_plan.specs.Weight.{far_weight, least_weight}
use Rattle.tree_plan.specs.Answer.{tree_answer, Unforked, in_row}
use Rattle.tree_plan.proofs.Sums.{sum-agree, sum_head}
use Rattle.tree_plan.proofs.Bounds.{Small}
use Rattle.tree_plan.proofs.Optimal.{found, none-admitted}
use Rattle.plan.specs.Net
use Rattle.plan.specs.Value
use Rattle.plan.proofs.Bounds

-- The old recursion as sums.
step_moves : Net → ℕ → Coming → List ℕ → ℕ → ℕ
step_moves N s from p zero = from.moves (at p 0)
step_moves N s from p (suc i) = N.moved (s + i) (at p i) (at p (suc i))

step_cost : Net → ℕ → Coming → List ℕ → ℕ → ℕ
step_cost N s from p zero = N.size s (at p 0) + from.moves (at p 0) * from.price (at p 0)
step_cost N s from p (suc i) =
    N.size (s + suc i) (at p (suc i))
    + N.moved (s + i) (at p i) (at p (suc i)) * price (N.size (s + i) (at p i)) (N.size (s + suc i) (at p (suc i)))

moves-sum : (N : Net) (s : ℕ) (from : Coming) (p : List ℕ) → moves_of N s from p ≡ sum_to (length p) (step_moves N s from p)
unfolding moves_of sum_to step_moves
moves-sum N s from [] = refl
moves-sum N s from (b ∷ p) =
    omega (
      arith,
      moves-sum N (s + 1) (after N s b) p,
      sum_head (length p) (step_moves N s from (b ∷ p)),
      sum-agree (length p) (λ i. step_moves N s from (b ∷ p) (suc i)) (step_moves N (s + 1) (after N s b) p) same,
    )
  where
    same : (i : ℕ) → i < length p → step_moves N s from (b ∷ p) (suc i) ≡ step_moves N (s + 1) (after N s b) p i
    same zero l = let e : s + 0 ≡ s = omega arith in ap (λ (x : ℕ). N.moved x b (at p 0)) e
    same (suc i) l = let e : s + suc i ≡ s + 1 + i = omega arith in ap (λ (x : ℕ). N.moved x (at p i) (at p (suc i))) e

cost-sum : (N : Net) (s : ℕ) (from : Coming) (p : List ℕ) → cost_of N s from p ≡ sum_to (length p) (step_cost N s from p)
unfolding cost_of sum_to step_cost
cost-sum N s from [] = refl
cost-sum N s from (b ∷ p) =
    omega (
      arith,
      cost-sum N (s + 1) (after N s b) p,
      sum_head (length p) (step_cost N s from (b ∷ p)),
      sum-agree (length p) (λ i. step_cost N s from (b ∷ p) (suc i)) (step_cost N (s + 1) (after N s b) p) same,
    )
  where
    same : (i : ℕ) → i < length p → step_cost N s from (b ∷ p) (suc i) ≡ step_cost N (s + 1) (after N s b) p i
    same zero l =
        let e : s + 0 ≡ s = omega arith in
        let g : s + 1 ≡ suc s = omega arith in
        ap₂
        (λ (x y : ℕ). N.size y (at p 0) + N.moved x b (at p 0) * price (N.size x b) (N.size y (at p 0)))
        e
        (let z : s + suc 0 ≡ s + 1 = omega arith in z)
    same (suc i) l =
        ap₂
        (λ (x y : ℕ). N.size y (at p (suc i)) + N.moved x (at p i) (at p (suc i)) * price (N.size x (at p i)) (N.size y (at p (suc i))))
        (let e : s + suc i ≡ s + 1 + i = omega arith in e)
        (let z : s + suc (suc i) ≡ s + 1 + suc i = omega arith in z)

-- one place for each station
record Kept (N : Net) (k s : ℕ) (p : List ℕ) : Type 0 where
  pub long : length p ≡ k
  pub below : (i : ℕ) → i < k → at p i < N.count (s + i)
  pub fits : (i : ℕ) → i < k → N.size (s + i) (at p i) ≤ N.cells

keeps-to : (N : Net) (k s : ℕ) (p : List ℕ) → Keeps N k s p → Kept N k s p
unfolding Keeps
keeps-to N zero s [] h = record { long = refl; below = λ i l. absurd (omega arith); fits = λ i l. absurd (omega arith) }
keeps-to N zero s (b ∷ p) h = absurd h
keeps-to N (suc k) s [] h = absurd h
keeps-to N (suc k) s (b ∷ p) h = go (keeps-to N k (s + 1) p h.2)
  where
    shift : (i : ℕ) → s + 1 + i ≡ s + suc i
    shift i = omega arith

    start : s ≡ s + 0
    start = omega arith

    below : Kept N k (s + 1) p → (i : ℕ) → i < suc k → at (b ∷ p) i < N.count (s + i)
    below r zero l = subst (λ (x : ℕ). b < N.count x) start h.0
    below r (suc i) l = subst (λ (x : ℕ). at p i < N.count x) (shift i) (r.below i (omega arith))

    fits : Kept N k (s + 1) p → (i : ℕ) → i < suc k → N.size (s + i) (at (b ∷ p) i) ≤ N.cells
    fits r zero l = subst (λ (x : ℕ). N.size x b ≤ N.cells) start h.1
    fits r (suc i) l = subst (λ (x : ℕ). N.size x (at p i) ≤ N.cells) (shift i) (r.fits i (omega arith))

    go : Kept N k (s + 1) p → Kept N (suc k) s (b ∷ p)
    go r = record { long = ap suc r.long; below = below r; fits = fits r }

keeps-from : (N : Net) (k s : ℕ) (p : List ℕ) → Kept N k s p → Keeps N k s p
unfolding Keeps
keeps-from N zero s [] r = tt
keeps-from N zero s (b ∷ p) r = absurd (omega (arith, r.long))
keeps-from N (suc k) s [] r = absurd (omega (arith, r.long))
keeps-from N (suc k) s (b ∷ p) r =
    let e : s + 0 ≡ s = omega arith in (
      subst (λ (x : ℕ). b < N.count x) e (r.below 0 (omega arith)),
      subst (λ (x : ℕ). N.size x b ≤ N.cells) e (r.fits 0 (omega arith)),
      keeps-from N k (s + 1) p
          (record {
            long = omega (arith, r.long);
            below =
                λ i l.
                let g : s + suc i ≡ s + 1 + i = omega arith in
                subst (λ (x : ℕ). at p i < N.count x) g (r.below (suc i) (omega arith));
            fits =
                λ i l.
                let g : s + suc i ≡ s + 1 + i = omega arith in
                subst (λ (x : ℕ). N.size x (at p i) ≤ N.cells) g (r.fits (suc i) (omega arith));
          }),
    )

-- A parent that is earlier and not named before is the station before.
module _ (T : Tree) (F : Formed T) (U : Unforked T) where
  up_to : (n : ℕ) → n ≤ T.stations → (i : ℕ) → suc i < n → T.parent (suc i) ≡ i
  unfolding Unforked Earlier
  up_to zero l i h = absurd (omega arith)
  up_to (suc n) l i h =
      let low : T.parent (suc i) ≤ i = omega (arith, rw add-one at (F.earlier i (omega arith))) in
      elim (dec_lt (T.parent (suc i)) i) [
        | yes g ↦
            let e : T.parent (suc (T.parent (suc i))) ≡ T.parent (suc i) = up_to n (omega arith) (T.parent (suc i)) (omega arith) in
            absurd (omega (arith, U (T.parent (suc i)) i (omega arith) (omega arith) e))
        | no g ↦ omega arith
      ]

  pub before : (i : ℕ) → suc i < T.stations → T.parent (suc i) ≡ i
  before i h = up_to T.stations (omega arith) i h

  moves-same : (p : List ℕ) → length p ≡ T.stations → moves_of (in_row T) 0 still p ≡ plan_moves T p
  unfolding plan_moves step_moves
  moves-same p e =
      moves-sum (in_row T) 0 still p
      ∙ ap (λ (n : ℕ). sum_to n (step_moves (in_row T) 0 still p)) e
      ∙ sum-agree T.stations (step_moves (in_row T) 0 still p) (λ i. link_moves T i (at p (T.parent i)) (at p i)) same
    where
      same : (i : ℕ) → i < T.stations → step_moves (in_row T) 0 still p i ≡ link_moves T i (at p (T.parent i)) (at p i)
      same zero l = refl
      same (suc i) l =
          ap₂ (λ (x y : ℕ). T.moved (suc x) (at p y) (at p (suc i))) (let z : 0 + i ≡ i = omega arith in z) (sym (before i l))

  cost-same : (p : List ℕ) → length p ≡ T.stations → cost_of (in_row T) 0 still p ≡ plan_cost T p
  unfolding plan_cost step_cost
  cost-same p e =
      cost-sum (in_row T) 0 still p
      ∙ ap (λ (n : ℕ). sum_to n (step_cost (in_row T) 0 still p)) e
      ∙ sum-agree T.stations (step_cost (in_row T) 0 still p)
      (λ i. T.size i (at p i) + link_cost T i (at p (T.parent i)) (at p i))
      same
    where
      same :
          (i : ℕ) →
          i < T.stations →
          step_cost (in_row T) 0 still p i ≡ T.size i (at p i) + link_cost T i (at p (T.parent i)) (at p i)
      same zero l = simp zero-mul
      same (suc i) l =
          let z : 0 + i ≡ i = omega arith in
          let z' : 0 + suc i ≡ suc i = omega arith in
          simp (z, z', before i l)

  to_row : (m : ℕ) (p : List ℕ) → Admitted T m p → Net.Admitted (in_row T) m p
  to_row m p a =
      record {
        keeps =
            keeps-from (in_row T) T.stations 0 p
            (record {
              long = a.long;
              below = λ i l. let z : i ≡ 0 + i = omega arith in subst (λ (x : ℕ). at p i < T.count x) z (a.below i l);
              fits = λ i l. let z : i ≡ 0 + i = omega arith in subst (λ (x : ℕ). T.size x (at p i) ≤ T.cells) z (a.fits i l);
            });
        within = omega (arith, moves-same p a.long, a.within);
      }

  from_row : (m : ℕ) (p : List ℕ) → Net.Admitted (in_row T) m p → Admitted T m p
  from_row m p a =
      let r : Kept (in_row T) T.stations 0 p = keeps-to (in_row T) T.stations 0 p a.keeps in
      record {
        long = r.long;
        below = λ i l. let z : 0 + i ≡ i = omega arith in subst (λ (x : ℕ). at p i < T.count x) z (r.below i l);
        fits = λ i l. let z : 0 + i ≡ i = omega arith in subst (λ (x : ℕ). T.size x (at p i) ≤ T.cells) z (r.fits i l);
        within = omega (arith, moves-same p r.long, a.within);
      }

  -- the best plan over the tree is the best one in a row
  pub best-row : (m c : ℕ) (p : List ℕ) → Best T m c p → Net.Best (in_row T) m c p
  best-row m c p r =
      record {
        admitted = to_row m p r.admitted;
        total = r.total ∙ sym (cost-same p r.admitted.long);
        least =
            λ q a.
            let b : Admitted T m q = from_row m q a in
            omega (arith, cost-same p r.admitted.long, cost-same q b.long, r.least q b);
        first =
            λ q a e.
            let b : Admitted T m q = from_row m q a in
            r.first q b (sym (cost-same q b.long) ∙ e ∙ cost-same p r.admitted.long);
      }

  -- so the two answers are the same
  pub same_answer : Small T → (m : ℕ) → tree_answer T m ≡ plan_answer (in_row T) m
  unfolding tree_answer plan_answer
  same_answer S m = go (ltb (least_weight T m) far_weight) refl (ltb (Value.least_cost (in_row T) m) far) refl
    where
      small : Bounds.Small (in_row T)
      small = record { cells = S.cells; moved = λ i a b. S.moved (suc i) a b }

      go :
          (s : Bool) →
          ltb (least_weight T m) far_weight ≡ s →
          (t : Bool) →
          ltb (Value.least_cost (in_row T) m) far ≡ t →
          tree_answer T m ≡ plan_answer (in_row T) m
      go true e true g =
          let r = best-one (in_row T) m _ _ _ _ (best-row m _ _ (found T F m (ltb-true _ _ e))) (best-found (in_row T) m (ltb-true _ _ g)) in
          let answer : List ℕ → ℕ → Option Plan = λ p c. Some (record { places = spread T.stations p; total = c }) in
          simp (e, g) (ap₂ answer r.0 r.1)
      go true e false g =
          absurd (none_found (in_row T) m small F.few (ltb-false _ _ g) _ (to_row m _ (found T F m (ltb-true _ _ e)).admitted))
      go false e true g =
          absurd (none-admitted T F S m _ (from_row m _ (best-found (in_row T) m (ltb-true _ _ g)).admitted) (ltb-false _ _ e))
      go false e false g = simp (e, g)
