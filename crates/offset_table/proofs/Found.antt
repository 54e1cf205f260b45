-- Laws of the search in a table: where it stops, and what that says of the table. Assumes nothing.
use Rattle.std.specs.Prelude.{Option, Some, None}
use mathlib.Core.Path.{◌≡◌, refl, sym, ap, ◌∙◌}
use mathlib.Core.Bool.{Bool, true, false, cond}
use mathlib.Core.Logic.{⊎_elim}
use Prim.Native.Nat.{ℕ, ◌<◌, ◌≤◌}
use native.Mathlib.Omega.{arith}
use mathlib.Core.List.{List}
use lib.Dec.{ltb, leb}
use lib.ListN.{length, get_or}
use native.Mathlib.Nat.{eq-or-lt_of_le}
use borrow.Author.Tests.{eq-eqb, eqb-true, lt-ltb, le-ltb, le-leb, lt-leb, leb-true, leb-false, ltb-true, ltb-false}
use Rattle.std.specs.List.{position, position_or_len}
use Rattle.std.proofs.lemmas.List.Quantifiers.{position-Some}
use Rattle.radix.proofs.Lists.{le-or-lt}
use Rattle.radix.proofs.Tests.{first-is, first-none, first-true, first-before}
use Rattle.shape.specs.Dimensions.{first_pair}
use Rattle.offset_table.proofs.Walks.{position-first}
use Rattle.offset_table.specs.Table.{is_outside, first_outside, Found, sound, outside, shared, pair_found, found_in, AllInside, FirstOutside, same_cell, FirstShared}

module _ (xs : List ℕ) (padded : ℕ) where
  pub outside-is : (k : ℕ) → FirstOutside xs padded k → first_outside xs padded ≡ k
  unfolding first_outside
  outside-is k f =
      first-is (is_outside xs padded) (length xs) k f.inside (le-leb padded (get_or xs k 0) f.past)
      (λ i g. lt-leb padded (get_or xs i 0) (f.none_before i g))

  pub outside-none : AllInside xs padded → first_outside xs padded ≡ length xs
  unfolding first_outside
  outside-none h = first-none (is_outside xs padded) (length xs) (λ k l. lt-leb padded (get_or xs k 0) (h k l))

  outside-before : (i : ℕ) → i < first_outside xs padded → get_or xs i 0 < padded
  unfolding first_outside
  outside-before i l = leb-false padded (get_or xs i 0) (first-before (is_outside xs padded) (length xs) i l)

  pub outside-first : first_outside xs padded < length xs → FirstOutside xs padded (first_outside xs padded)
  unfolding first_outside
  outside-first l =
      record { inside = l; past = leb-true padded _ (first-true (is_outside xs padded) (length xs) l); none_before = outside-before }

  pub all-passed : AllInside xs padded → length xs ≤ first_outside xs padded
  all-passed h = omega (arith, outside-none h)

  pub all-inside : length xs ≤ first_outside xs padded → AllInside xs padded
  all-inside h k l = outside-before k (omega arith)

  pub found-outside : first_outside xs padded < length xs → found_in xs padded ≡ outside (first_outside xs padded)
  unfolding found_in
  found-outside h = rw (lt-ltb (first_outside xs padded) (length xs) h)

  pub found-pair : length xs ≤ first_outside xs padded → found_in xs padded ≡ pair_found (first_pair xs)
  unfolding found_in
  found-pair h = rw (le-ltb (first_outside xs padded) (length xs) h)

  -- the first place of an offset outside, as std's word has it
  placed : position_or_len (leb padded) xs ≡ first_outside xs padded
  unfolding first_outside
  placed = position-first (leb padded) 0 xs

  pub found-some : (k : ℕ) → position (leb padded) xs ≡ Some k → found_in xs padded ≡ outside k
  found-some k e =
      let t = position-Some (leb padded) xs k 0 e in
      let f : FirstOutside xs padded k = record { inside = t.0; past = leb-true padded _ t.1; none_before = λ i l. leb-false padded _ (t.2 i l) } in
      let q = outside-is k f in
      found-outside (omega (arith, t.0)) ∙ ap outside q

  pub found-none : position (leb padded) xs ≡ None → found_in xs padded ≡ pair_found (first_pair xs)
  found-none e = found-pair (omega (arith, placed, go (ltb (position_or_len (leb padded) xs) (length xs)) refl e))
    where
      go : (b : Bool) → ltb (position_or_len (leb padded) xs) (length xs) ≡ b → cond b (Some (position_or_len (leb padded) xs)) None ≡ None → length xs ≤ position_or_len (leb padded) xs
      go true q z = let y : ◌≡◌ {A = ℕ} 0 1 = cc in absurd (omega arith)
      go false q z = ltb-false _ _ q

  -- what was found says how the search went
  pub data Went : Found → Type 0 where
    out : first_outside xs padded < length xs → Went (outside (first_outside xs padded))
    pair : length xs ≤ first_outside xs padded → (e l : ℕ) → first_pair xs ≡ Some (e, l) → Went (shared e l)
    clean : length xs ≤ first_outside xs padded → first_pair xs ≡ None → Went sound

  pub went : Went (found_in xs padded)
  unfolding found_in
  went = go (ltb (first_outside xs padded) (length xs)) refl (first_pair xs) refl
    where
      go : (b : Bool) → ltb (first_outside xs padded) (length xs) ≡ b → (p : Option (ℕ × ℕ)) → first_pair xs ≡ p → Went (cond b (outside (first_outside xs padded)) (pair_found p))
      go true e p q = out (ltb-true (first_outside xs padded) (length xs) e)
      go false e None q = clean (ltb-false (first_outside xs padded) (length xs) e) q
      go false e (Some (i, k)) q = pair (ltb-false (first_outside xs padded) (length xs) e) i k q

-- the earlier element of the first pair that shares a cell is the only one before the later
pub only-earlier : (xs : List ℕ) (e l i : ℕ) → FirstShared xs e l → i < l → get_or xs i 0 ≡ get_or xs l 0 → i ≡ e
only-earlier xs e l i f g q =
    ⊎_elim
    (λ (h : i ≤ e). ⊎_elim (λ (z : i ≡ e). z) (λ (m : i < e). differ i l (f.first-earlier i m) q) (eq-or-lt_of_le h))
    (λ (h : e < i). differ e i (f.first-later e i h g) (same ∙ sym q))
    (le-or-lt i e)
  where
    same : get_or xs e 0 ≡ get_or xs l 0
    same = eqb-true (get_or xs e 0) (get_or xs l 0) f.alike

    differ : {A : Type 0} (a b : ℕ) → same_cell xs a b ≡ false → get_or xs a 0 ≡ get_or xs b 0 → A
    differ a b n y =
        let z : true ≡ false = sym (eq-eqb (get_or xs a 0) (get_or xs b 0) y) ∙ n in
        let w : ◌≡◌ {A = ℕ} 0 1 = cc in
        absurd (omega arith)
