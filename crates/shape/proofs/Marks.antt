-- Laws of marks: the dimensions met so far are marked, and a list whose dimensions are each met once is a permutation. Assumes nothing.
use mathlib.Core.Path.{◌≡◌, refl, sym, ap, ◌∙◌}
use mathlib.Core.Bool.{Bool, true, false}
use mathlib.Core.Logic.{⊎_elim}
use Prim.Native.Nat.{ℕ, ◌+◌, ◌<◌, ◌≤◌}
use native.Mathlib.Omega.{arith}
use mathlib.Core.List.{List}
use lib.Dec.{ltb, eqb}
use lib.ListN.{length, get_or, set, length-set, replicate, length-replicate, get_or-replicate}
use lib.Seq.{get_or-set_same, get_or-set_other}
use borrow.Author.Count.{below_more, below_none}
use borrow.Author.Tests.{eq-eqb, ne_eqb, eqb-true, eqb-false, lt-ltb, le-ltb, le-leb, lt-leb}
use Rattle.radix.proofs.Tests.{every-all, every-not, and-true, and-false, first-is}
use Rattle.radix.proofs.Lists.{le-or-lt}
use Rattle.shape.specs.Repeats.{later_in}
use Rattle.shape.specs.Dimensions.{place, in_range, same_dimension, repeats, later_place, is_permutation}
use Rattle.shape.proofs.FirstRepeats.{none-later}
use Rattle.shape.proofs.Repeats.{place_at, repeats-place}
use Rattle.shape.proofs.Permutations.{place-le}

-- before place i every dimension is below the length and stands once, and what has its first place there is marked
pub record Marked (xs : List ℕ) (i : ℕ) (met : List ℕ) : Type 0 where
  pub room : length xs ≤ length met
  pub below : (k : ℕ) → k < i → ltb (get_or xs k 0) (length xs) ≡ true
  pub once : (k : ℕ) → k < i → repeats xs k ≡ false
  pub marks : (d : ℕ) → d < length xs → eqb (get_or met d 0) 1 ≡ ltb (place d xs) i

-- a number other than i is below i + 1 just when it is below i
past : (a i : ℕ) → (a ≡ i → ⊥) → ltb a i ≡ ltb a (i + 1)
past a i n =
    ⊎_elim
    (λ (l : i + 1 ≤ a). le-ltb a i (omega arith) ∙ sym (le-ltb a (i + 1) l))
    (λ (l : a < i + 1). lt-ltb a i (omega (arith, n)) ∙ sym (lt-ltb a (i + 1) l))
    (le-or-lt (i + 1) a)

pub marked-none : (n : ℕ) (xs : List ℕ) → length xs ≤ n → Marked xs 0 (replicate n 0)
marked-none n xs h =
    record {
      room = omega (arith, length-replicate {A = ℕ} n 0);
      below = below_none _;
      once = below_none _;
      marks = λ d l. rw (get_or-replicate {A = ℕ} n d 0 0 (omega arith)) (sym (le-ltb (place d xs) 0 (omega arith)));
    }

pub marked_all : (xs met : List ℕ) (i : ℕ) → length xs ≤ i → Marked xs i met → true ≡ is_permutation xs
unfolding is_permutation in_range
marked_all xs met i h m =
    let e = none-later (same_dimension xs) (length xs) (λ k l. m.once k (omega arith)) in
    sym (and-true (every-all (λ (k : ℕ). ltb (get_or xs k 0) (length xs)) (length xs) (λ k l. m.below k (omega arith))) (le-leb (length xs) (later_place xs) (omega (arith, e))))

-- the step at place i, by the dimension there
module _ (xs : List ℕ) (i : ℕ) (h : i < length xs) where
  abbrev here : ℕ
  here = get_or xs i 0

  pub not-below : length xs ≤ here → false ≡ is_permutation xs
  unfolding is_permutation in_range
  not-below g = rw (every-not (λ (k : ℕ). ltb (get_or xs k 0) (length xs)) (length xs) i h (le-ltb here (length xs) g))

  module _ (met : List ℕ) (m : Marked xs i met) (l : here < length xs) where
    pub met-again : get_or met here 0 ≡ 1 → false ≡ is_permutation xs
    unfolding is_permutation later_in
    met-again e =
        let p = first-is (repeats xs) (length xs) i h (repeats-place xs i h ∙ sym (m.marks here l) ∙ eq-eqb (get_or met here 0) 1 e) m.once in
        sym (and-false (in_range (length xs) xs) (lt-leb (length xs) (later_place xs) (omega (arith, p))))

    pub marked_more : (get_or met here 0 ≡ 1 → ⊥) → Marked xs (i + 1) (set met here 1)
    marked_more n =
        record {
          room = omega (arith, m.room, length-set met here 1);
          below = below_more _ i m.below (lt-ltb here (length xs) l);
          once = below_more _ i m.once (repeats-place xs i h ∙ sym (m.marks here l) ∙ ne_eqb (get_or met here 0) 1 n);
          marks = λ d g. go d g (eqb d here) refl;
        }
      where
        go : (d : ℕ) → d < length xs → (b : Bool) → eqb d here ≡ b → eqb (get_or (set met here 1) d 0) 1 ≡ ltb (place d xs) (i + 1)
        go d g true t =
            let q = eqb-true d here t in
            let e : get_or (set met here 1) d 0 ≡ 1 = ap (λ (k : ℕ). get_or (set met here 1) k 0) q ∙ get_or-set_same met here 1 0 (omega (arith, m.room)) in
            eq-eqb (get_or (set met here 1) d 0) 1 e ∙ sym (lt-ltb (place d xs) (i + 1) (omega (arith, place-le d xs i (sym q))))
        go d g false t =
            rw (get_or-set_other met here d 1 0 (eqb-false d here t))
            (m.marks d g ∙ past (place d xs) i (λ e. eqb-false d here t (sym (place_at d xs (omega (arith, e))) ∙ ap (λ (k : ℕ). get_or xs k 0) e)))
