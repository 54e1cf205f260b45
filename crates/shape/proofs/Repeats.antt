-- Laws of lists of dimensions: the first place of a dimension, and the first repeat. Assumes nothing.
use Rattle.std.specs.Prelude.{Option, Some, None}
use mathlib.Core.Path.{◌≡◌, refl, sym, ap, ◌∙◌}
use mathlib.Core.Bool.{Bool, true, false, cond, not}
use mathlib.Core.Logic.{⊎_elim}
use Prim.Native.Nat.{ℕ, ◌<◌, ◌≤◌}
use native.Mathlib.Omega.{arith}
use mathlib.Core.List.{List, []}
use lib.Dec.{ltb, eqb}
use lib.ListN.{length, get_or}
use borrow.Author.Tests.{eq-eqb, ne_eqb, eqb-true, eqb-false, le-leb, lt-leb}
use Rattle.radix.proofs.Lists.{le-or-lt}
use Rattle.radix.proofs.Tests.{first-is, first-none, first-true, first-before}
use Rattle.std.specs.Option.{is_some}
use Rattle.refusal.specs.Number.{Answer, done, refusal, number_of}
use Rattle.refusal.specs.declared.Refusal.TheVariants.{Repeat}
use Rattle.shape.specs.Repeats.{earlier_of, FirstRepeat}
use Rattle.shape.specs.Dimensions.{place, same_dimension, repeats, later_place, earlier_place, free, first_pair, first_repeat}
use Rattle.shape.proofs.FirstRepeats.{later-found, earlier-found, none-later}
use Rattle.refusal.proofs.Theorems.{number-positive}
use Rattle.refusal.specs.declared.Refusal.{Refusal}

-- the first place of a dimension
pub place_is : (j : ℕ) (xs : List ℕ) (k : ℕ) → k < length xs → get_or xs k 0 ≡ j → ((i : ℕ) → i < k → get_or xs i 0 ≡ j → ⊥) → place j xs ≡ k
unfolding place
place_is j xs k l e h = first-is (λ (i : ℕ). eqb (get_or xs i 0) j) (length xs) k l (eq-eqb (get_or xs k 0) j e) (λ i g. ne_eqb (get_or xs i 0) j (h i g))

pub place_none : (j : ℕ) (xs : List ℕ) → ((i : ℕ) → i < length xs → get_or xs i 0 ≡ j → ⊥) → place j xs ≡ length xs
unfolding place
place_none j xs h = first-none (λ (i : ℕ). eqb (get_or xs i 0) j) (length xs) (λ i g. ne_eqb (get_or xs i 0) j (h i g))

pub place_at : (j : ℕ) (xs : List ℕ) → place j xs < length xs → get_or xs (place j xs) 0 ≡ j
unfolding place
place_at j xs l = eqb-true (get_or xs (place j xs) 0) j (first-true (λ (i : ℕ). eqb (get_or xs i 0) j) (length xs) l)

pub place-before : (j : ℕ) (xs : List ℕ) (i : ℕ) → i < place j xs → get_or xs i 0 ≡ j → ⊥
unfolding place
place-before j xs i l = eqb-false (get_or xs i 0) j (first-before (λ (k : ℕ). eqb (get_or xs k 0) j) (length xs) i l)

-- the first place before k that holds what k holds is the place of that dimension
pub place-below : (xs : List ℕ) (k : ℕ) → k < length xs → earlier_of (same_dimension xs) k ≡ place (get_or xs k 0) xs
place-below xs k l =
    ⊎_elim
    (λ (h : k ≤ earlier_of (same_dimension xs) k).
    let none : (i : ℕ) → i < k → same_dimension xs i k ≡ false = λ i g. first-before test k i (omega arith) in
    first-none test k none ∙ sym (place_is (get_or xs k 0) xs k l refl (λ i g. eqb-false (get_or xs i 0) (get_or xs k 0) (none i g))))
    (λ (h : earlier_of (same_dimension xs) k < k).
    sym
    (place_is (get_or xs k 0) xs (earlier_of (same_dimension xs) k) (omega arith)
    (eqb-true (get_or xs (earlier_of (same_dimension xs) k) 0) (get_or xs k 0) (first-true test k h))
    (λ i g. eqb-false (get_or xs i 0) (get_or xs k 0) (first-before test k i g))))
    (le-or-lt k (earlier_of (same_dimension xs) k))
  where
    test : ℕ → Bool
    test i = same_dimension xs i k

-- a place repeats an earlier one just when its dimension's place lies before it
pub repeats-place : (xs : List ℕ) (k : ℕ) → k < length xs → repeats xs k ≡ ltb (place (get_or xs k 0) xs) k
repeats-place xs k l = ap (λ (p : ℕ). ltb p k) (place-below xs k l)

-- the search that stops at the places e and l
pub pair-found : (xs : List ℕ) {e l : ℕ} → FirstRepeat (same_dimension xs) (length xs) e l → Some (e, l) ≡ first_pair xs
unfolding first_pair
pair-found xs F = rw (later-found _ _ F, earlier-found _ _ F, lt-leb _ _ F.inside)

-- the search that finds nothing
pub pair-none : (xs : List ℕ) → ((k : ℕ) → k < length xs → repeats xs k ≡ false) → None ≡ first_pair xs
unfolding first_pair
pair-none xs h = rw (none-later (same_dimension xs) (length xs) h, le-leb (length xs) (length xs) (omega arith))

-- there is a pair just where the list is not free of repeats
pub pair-free : (xs : List ℕ) (none : Bool) → is_some (first_pair xs) ≡ not none → none ≡ free xs
unfolding first_pair
pair-free xs none e = go (free xs) none e
  where
    go : (b none : Bool) → is_some (cond {A = Option (ℕ × ℕ)} b None (Some (earlier_place xs, later_place xs))) ≡ not none → none ≡ b
    go true true e = refl
    go true false e = cc
    go false true e = cc
    go false false e = refl

-- the first pair is the first repeat's
abbrev pub pair_answer : Option (ℕ × ℕ) → Answer ℕ
pair_answer None = done []
pair_answer (Some (e, l)) = refusal [] (Repeat e l)

pub pair-repeat : (xs : List ℕ) → pair_answer (first_pair xs) ≡ first_repeat xs
unfolding first_pair first_repeat
pair-repeat xs = go (free xs)
  where
    go : (b : Bool) → pair_answer (cond {A = Option (ℕ × ℕ)} b None (Some (earlier_place xs, later_place xs)))
        ≡ cond b (done {A = ℕ} []) (refusal {A = ℕ} [] (Repeat (earlier_place xs) (later_place xs)))
    go true = refl
    go false = refl

-- what the answer says of the list
pub free-done : (xs : List ℕ) → done {A = ℕ} [] ≡ first_repeat xs → free xs ≡ true
unfolding first_repeat
free-done xs e = go (free xs) e
  where
    go : (b : Bool) → done {A = ℕ} [] ≡ cond b (done {A = ℕ} []) (refusal {A = ℕ} [] (Repeat (earlier_place xs) (later_place xs))) → b ≡ true
    go true e = refl
    go false e = let z : ◌≡◌ {A = ℕ} 0 2 = ap (λ (a : Answer ℕ). a.number) e in absurd (omega arith)

pub free-refused : (xs : List ℕ) (r : Refusal) → refusal {A = ℕ} [] r ≡ first_repeat xs → free xs ≡ false
unfolding first_repeat
free-refused xs r e = go (free xs) e
  where
    go : (b : Bool) → refusal {A = ℕ} [] r ≡ cond b (done {A = ℕ} []) (refusal {A = ℕ} [] (Repeat (earlier_place xs) (later_place xs))) → b ≡ false
    go true e = let z : number_of r ≡ 0 = ap (λ (a : Answer ℕ). a.number) e in absurd (omega (arith, number-positive r))
    go false e = refl
