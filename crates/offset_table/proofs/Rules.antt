-- What the rules of the question give where none is broken, and what keeps them. Assumes nothing.
use Rattle.std.specs.Prelude.{Ok}
use mathlib.Core.Path.{◌≡◌, refl}
use mathlib.Core.Bool.{Bool, true, false, ◌&&◌}
use mathlib.Core.Logic.{◌⊎◌, ⊎_elim}
use Prim.Native.Nat.{ℕ, ◌<◌, ◌≤◌}
use native.Mathlib.Omega.{arith}
use mathlib.Core.List.{List, [], ◌∷◌, ◌++◌}
use lib.Dec.{leb, ltb, eqb}
use lib.ListN.{length}
use borrow.Author.Tests.{leb-true, le-leb, eqb-true}
use Rattle.radix.specs.Radix.{max_count}
use Rattle.radix.proofs.Tests.{and-true, and_left, and_right, every-all, every-at}
use Rattle.refusal.specs.Number.{answered}
use Rattle.refusal.specs.Judge.{Rule, rule, judge}
use Rattle.refusal.specs.declared.Refusal.TheVariants.{ShapeLimits, Attribute, LayoutRule, PaddedSize, NoLayout}
use Rattle.refusal.proofs.Judged.{kept, rest}
use Rattle.shape.specs.Shape.{count_of, good_shape}
use Rattle.shape.specs.declared.Shape.{Shape}
use Rattle.layout.specs.Layout.{good_layout, padded_of, layout_rules}
use Rattle.layout.specs.declared.Layout.{Layout}
use Rattle.layout.proofs.Rules.{done-layout, done-size}
use Rattle.offset_table.specs.Table.{sound, found_in, is_sound}
use Rattle.offset_table.specs.Makes.{layout_at, first_maker}
use Rattle.offset_table.specs.Answers.{max_elements, max_listed, is_table, good_question, layouts_kept, sizes_kept, breaks_no_rule, layout_named}

-- a table of the shape, and a list within its limits
pub record Asked (s : Shape) (xs : List ℕ) (ys : List Layout) (count : ℕ) : Type 0 where
  pub table : length xs ≡ count_of s
  pub few : count ≤ max_listed
  pub each : (i : ℕ) → i < count → judge (layout_rules s (layout_at ys i)) ≡ Ok tt

pub question-few : (s : Shape) (xs : List ℕ) (padded count : ℕ) → good_question s xs padded count ≡ true → count ≤ max_listed
unfolding good_question
question-few s xs padded count q =
    let t = and_left (is_table s xs && (leb 1 count && leb count max_listed)) (is_sound (found_in xs padded)) q in
    leb-true count max_listed (and_right (leb 1 count) (leb count max_listed) (and_right (is_table s xs) (leb 1 count && leb count max_listed) t))

pub asked : (s : Shape) (xs : List ℕ) (padded : ℕ) (ys : List Layout) (count : ℕ) → breaks_no_rule s xs padded ys count → Asked s xs ys count
unfolding good_question is_table layouts_kept sizes_kept
asked s xs padded ys count e =
    let g = kept (good_shape s) _ _ e in
    let f = rest (good_shape s) _ _ e in
    let q = kept (good_question s xs padded count) _ _ f in
    let h = rest (good_question s xs padded count) _ _ f in
    let l = kept (layouts_kept s ys count) _ _ h in
    let z = and_right (leb padded max_count) (sizes_kept s ys count) (kept (leb padded max_count && sizes_kept s ys count) _ _ (rest (layouts_kept s ys count) _ _ h)) in
    let t = and_left (is_table s xs && (leb 1 count && leb count max_listed)) (is_sound (found_in xs padded)) q in
    record {
      table = eqb-true (length xs) (count_of s) (and_right (leb (count_of s) max_elements) (eqb (length xs) (count_of s)) (and_left (is_table s xs) (leb 1 count && leb count max_listed) t));
      few = question-few s xs padded count q;
      each = λ i b.
          rw (g, every-at (λ (i : ℕ). good_layout s.rank (layout_at ys i)) count l i b, every-at (λ (i : ℕ). leb (padded_of s (layout_at ys i)) max_count) count z i b);
    }

module _ (s : Shape) (xs : List ℕ) (padded : ℕ) (ys : List Layout) (count : ℕ) where
  -- an answer that is done, or 12, breaks none of the rules 1 to 4
  pub unbroken : (((layout_named s xs padded ys count).number ≡ 0) ⊎ ((layout_named s xs padded ys count).number ≡ 12)) → breaks_no_rule s xs padded ys count
  unfolding layout_named
  unbroken =
      go (good_shape s) (good_question s xs padded count) (layouts_kept s ys count) (leb padded max_count && sizes_kept s ys count)
      (ltb (first_maker s xs padded ys count) count)
    where
      four : (a b c d : Bool) → List Rule
      four a b c d = rule a ShapeLimits ∷ rule b Attribute ∷ rule c LayoutRule ∷ rule d PaddedSize ∷ []

      number : (a b c d e : Bool) → ℕ
      number a b c d e = (answered (0 ∷ []) (judge (four a b c d ++ (rule e NoLayout ∷ []))) (first_maker s xs padded ys count ∷ [])).number

      go : (a b c d e : Bool) → ((number a b c d e ≡ 0) ⊎ (number a b c d e ≡ 12)) → judge (four a b c d) ≡ Ok tt
      go true true true true e h = refl
      go false b c d e h = ⊎_elim (λ z. absurd (omega arith)) (λ z. absurd (omega arith)) h
      go true false c d e h = ⊎_elim (λ z. absurd (omega arith)) (λ z. absurd (omega arith)) h
      go true true false d e h = ⊎_elim (λ z. absurd (omega arith)) (λ z. absurd (omega arith)) h
      go true true true false e h = ⊎_elim (λ z. absurd (omega arith)) (λ z. absurd (omega arith)) h

-- a sound table of the shape, asked with 1 to 64 layouts that are judged done, breaks no rule
module _ (s : Shape) (ys : List Layout) (count : ℕ) (each : (k : ℕ) → k < count → judge (layout_rules s (layout_at ys k)) ≡ Ok tt) where
  kept-all : layouts_kept s ys count ≡ true
  unfolding layouts_kept
  kept-all = every-all _ count (λ k b. done-layout s (layout_at ys k) (each k b))

  small_all : sizes_kept s ys count ≡ true
  unfolding sizes_kept
  small_all = every-all _ count (λ k b. le-leb (padded_of s (layout_at ys k)) max_count (done-size s (layout_at ys k) (each k b)))

  module _ (xs : List ℕ) (padded : ℕ) (few : count ≤ max_listed) (table : is_table s xs ≡ true) (found : found_in xs padded ≡ sound) where
    asked-well : 1 ≤ count → good_question s xs padded count ≡ true
    unfolding good_question
    asked-well some = rw (table, le-leb 1 count some, le-leb count max_listed few, found)

    pub unbroken-list : good_shape s ≡ true → 1 ≤ count → padded ≤ max_count → breaks_no_rule s xs padded ys count
    unbroken-list g some small = rw (g, asked-well some, kept-all, and-true (le-leb padded max_count small) small_all)
