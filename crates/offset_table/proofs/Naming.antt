-- Laws of the question's answer: a broken rule, the first layout that makes the table, or 12. Assumes nothing.
use Rattle.std.specs.Prelude.{Err, Some, None, position, ok_or}
use mathlib.Core.Path.{◌≡◌, refl, sym, ap, ap₂, ◌∙◌}
use mathlib.Core.Bool.{Bool, true, false, cond}
use mathlib.Core.Logic.{inl, ⊎_elim}
use mathlib.Core.List.{List, [], ◌∷◌}
use Prim.Native.Nat.{ℕ, ◌<◌, ◌≤◌}
use native.Mathlib.Omega.{arith}
use native.Mathlib.Nat.{eq-or-lt_of_le}
use lib.Dec.{ltb}
use lib.ListN.{length, get_or, take}
use borrow.Author.Tests.{lt-ltb, le-ltb, ltb-true, ltb-false}
use Rattle.std.proofs.lemmas.List.{length-take-le}
use Rattle.radix.proofs.Lists.{le-or-lt}
use Rattle.radix.proofs.Tests.{first-true, first-before}
use Rattle.refusal.specs.Number.{Answer, done, refusal}
use Rattle.refusal.specs.Judge.{judge}
use Rattle.refusal.specs.declared.Refusal.{Refusal}
use Rattle.refusal.specs.declared.Refusal.TheVariants.{NoLayout}
use Rattle.refusal.proofs.Judged.{after-done, after-refused}
use Rattle.shape.specs.declared.Shape.{Shape}
use Rattle.layout.specs.Layout.{blank_layout}
use Rattle.layout.specs.declared.Layout.{Layout}
use Rattle.offset_table.specs.Makes.{is_maker, Makes, layout_at, first_maker, FirstMaker, NoMaker}
use Rattle.offset_table.specs.Answers.{question_rules, breaks_no_rule, named_answer, maker_rule, layout_named}
use Rattle.offset_table.proofs.Rules.{unbroken}
use Rattle.offset_table.proofs.Walks.{position-taken}
use Rattle.offset_table.proofs.Makers.{maker-is}

module _ (s : Shape) (xs : List ℕ) (padded : ℕ) (ys : List Layout) (count : ℕ) where
  abbrev test : ℕ → Bool
  test i = is_maker s xs padded (layout_at ys i)

  abbrev maker : ℕ
  maker = first_maker s xs padded ys count

  pub named-refused : (r : Refusal) → judge (question_rules s xs padded ys count) ≡ Err r → layout_named s xs padded ys count ≡ refusal (0 ∷ []) r
  unfolding layout_named
  named-refused r e = rw (after-refused (question_rules s xs padded ys count) (maker_rule s xs padded ys count ∷ []) r e)

  module _ (e : breaks_no_rule s xs padded ys count) where
    pub named-found : maker < count → layout_named s xs padded ys count ≡ done (maker ∷ [])
    unfolding layout_named
    named-found h = rw (after-done (question_rules s xs padded ys count) (maker_rule s xs padded ys count ∷ []) e, lt-ltb maker count h)

    pub named-missed : count ≤ maker → layout_named s xs padded ys count ≡ refusal (0 ∷ []) NoLayout
    unfolding layout_named
    named-missed h = rw (after-done (question_rules s xs padded ys count) (maker_rule s xs padded ys count ∷ []) e, le-ltb maker count h)

    -- the place that std's word has, as an answer
    pub named-place : count ≤ length ys → named_answer (ok_or (position (is_maker s xs padded) (take count ys)) NoLayout) ≡ layout_named s xs padded ys count
    unfolding first_maker
    named-place h =
        ap₂ (λ (m n : ℕ). named_answer (ok_or (cond (ltb m n) (Some m) None) NoLayout)) (position-taken (is_maker s xs padded) blank_layout count ys h) (length-take-le count ys h)
        ∙ go (ltb maker count) refl
      where
        go : (b : Bool) → ltb maker count ≡ b → named_answer (ok_or (cond b (Some maker) None) NoLayout) ≡ layout_named s xs padded ys count
        go true q = sym (named-found (ltb-true _ _ q))
        go false q = sym (named-missed (ltb-false _ _ q))

  -- none before the first makes the table, and that one does
  not-maker : (i : ℕ) → test i ≡ false → Makes s xs padded (layout_at ys i) → ⊥
  not-maker i f m = no (sym ((maker-is s xs padded (layout_at ys i)).1 m) ∙ f)
    where
      no : true ≡ false → ⊥
      no z = let y : ◌≡◌ {A = ℕ} 0 1 = cc in omega arith

  pub none_before : (i : ℕ) → i < maker → Makes s xs padded (layout_at ys i) → ⊥
  unfolding first_maker
  none_before i g = not-maker i (first-before test count i g)

  pub maker-makes : maker < count → Makes s xs padded (layout_at ys maker)
  unfolding first_maker
  maker-makes h = (maker-is s xs padded (layout_at ys maker)).0 (first-true test count h)

  pub maker-before : (i : ℕ) → Makes s xs padded (layout_at ys i) → maker ≤ i
  maker-before i m = ⊎_elim (λ (g : maker ≤ i). g) (λ (g : i < maker). absurd (none_before i g m)) (le-or-lt maker i)

  first-named : breaks_no_rule s xs padded ys count → (i : ℕ) → layout_named s xs padded ys count ≡ done (i ∷ []) → (maker < count) × (maker ≡ i)
  first-named u i e = ⊎_elim (λ (g : count ≤ maker). absurd (never g)) (λ (g : maker < count). (g, same g)) (le-or-lt count maker)
    where
      never : count ≤ maker → ⊥
      never g = let z : ◌≡◌ {A = ℕ} 12 0 = ap (λ (a : Answer ℕ). a.number) (sym (named-missed u g) ∙ e) in omega arith

      same : maker < count → maker ≡ i
      same g = ap (λ (a : Answer ℕ). get_or a.values 0 0) (sym (named-found u g) ∙ e)

  -- what an answered place says, and what says it
  pub named-is : (i : ℕ) → layout_named s xs padded ys count ≡ done (i ∷ []) → FirstMaker s xs padded ys count i
  named-is i e =
      let u = unbroken s xs padded ys count (inl (ap (λ (a : Answer ℕ). a.number) e)) in
      let f = first-named u i e in
      rw (← f.1) (record { below = f.0; makes = maker-makes f.0; none_before = none_before })

  pub is-named : breaks_no_rule s xs padded ys count → (i : ℕ) → FirstMaker s xs padded ys count i → layout_named s xs padded ys count ≡ done (i ∷ [])
  is-named u i f = named-found u (omega (arith, same, f.below)) ∙ ap (λ (n : ℕ). done (n ∷ [])) same
    where
      same : maker ≡ i
      same =
          ⊎_elim (λ (z : maker ≡ i). z) (λ (g : maker < i). absurd (f.none_before maker g (maker-makes (omega (arith, f.below)))))
          (eq-or-lt_of_le (maker-before i f.makes))

  -- the same for 12
  pub missed-all : breaks_no_rule s xs padded ys count → layout_named s xs padded ys count ≡ refusal (0 ∷ []) NoLayout → NoMaker s xs padded ys count
  missed-all u e i h m =
      let z : ◌≡◌ {A = ℕ} 12 0 = ap (λ (a : Answer ℕ). a.number) (sym e ∙ named-found u (omega (arith, maker-before i m))) in
      omega arith

  pub all-missed : breaks_no_rule s xs padded ys count → NoMaker s xs padded ys count → layout_named s xs padded ys count ≡ refusal (0 ∷ []) NoLayout
  all-missed u n = ⊎_elim (named-missed u) (λ (g : maker < count). absurd (n maker g (maker-makes g))) (le-or-lt count maker)
