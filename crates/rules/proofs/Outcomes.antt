-- The first rule that fits, by the search and the rules. Assumes nothing.
use mathlib.Core.Path.{◌≡◌, refl, sym, ap, ◌∙◌, subst}
use mathlib.Core.Bool.{true}
use mathlib.Core.List.{List}
use Prim.Native.Nat.{ℕ, ◌≤◌}
use native.Mathlib.Omega.{arith}
use borrow.Author.Tests.{eq-eqb, ne_eqb}
use lib.IntN.{ℤ, nat_abs}
use lib.ListN.{length, drop}
use Rattle.expression.specs.Expression.{Kind, Op, Range}
use Rattle.folding.specs.Sum.{Sum, term_count}
use Rattle.folding.specs.Fold.{Step, divisors_tried, rule1, rule2, rules34, rules2, apply_rule}
use Rattle.folding.specs.Working.{small_sums, rests_tried}
use Rattle.words.specs.Words.{sum_words}
use Rattle.rules.specs.Outcome.{outcome_room, rests_of, Outcome, Safe, Applies}
use Rattle.rules.specs.Rules.{Searches, StepStands, Always, Trial, Takes}
use Rattle.rules.specs.declared.Applied.{Applied}
use Rattle.rules.specs.declared.Applied.TheVariants as A
use Rattle.rules.specs.declared.applying.Found.{Found}
use Rattle.rules.specs.declared.applying.Found.TheVariants as F
use Rattle.rules.proofs.Search.{Means, found-means}

-- a step that stands, where it is the rule applied
outcome-of : (β : Kind → ℕ → Range) (o : Op) (t : Sum) (c : ℕ) (out : List ℤ) (step : Step) (r : Applied) → small_sums β (rests_of β t c) ≡ true → apply_rule β o t c ≡ step → StepStands β step out r → Outcome β o t c out r
outcome-of β o t c out step A.Passed s e k = absurd k
outcome-of β o t c out step (A.Sum terms end) s e k = (s, record { u = k.u; applied = e ∙ k.applied; standing = k.standing; counted = k.counted })
outcome-of β o t c out step (A.Again g) s e k =
    (s, record { u = k.u; a = k.a; applied = e ∙ k.applied; standing = k.standing; counted = k.counted; behind = k.behind; rest-counted = k.rest-counted })

module _ (op : ℕ) (w : List ℤ) (p n : ℕ) (c : ℤ) (o o' : List ℤ) where
  pub apply-one : (r : Applied) → nat_abs c ≡ 1 → Takes Always rule1 op w p n o o' r → Applies op w p n c o o' r
  unfolding rests_of apply_rule small_sums
  apply-one r h K = record {
    same = K.same;
    safe = K.safe;
    outcome = λ β op' t x i j e F S R.
        let one = eq-eqb (nat_abs c) 1 h in
        outcome-of β op' t (nat_abs c) o' (rule1 op' t) r (rw one refl) (rw one refl) (K.outcome β op' t x i j e F S R tt);
  }

  module _ (more : nat_abs c ≡ 1 → ⊥) where
    rests : (β : Kind → ℕ → Range) (t : Sum) → rests_of β t (nat_abs c) ≡ rests_tried β t (divisors_tried (nat_abs c) t)
    unfolding rests_of
    rests β t = rw (ne_eqb (nat_abs c) 1 more) refl

    applied : (β : Kind → ℕ → Range) (op' : Op) (t : Sum) → apply_rule β op' t (nat_abs c) ≡ rules2 β op' t (nat_abs c) (divisors_tried (nat_abs c) t)
    unfolding apply_rule
    applied β op' t = rw (ne_eqb (nat_abs c) 1 more) refl

    -- what was found, and what it means
    meaning : (f : Found) (β : Kind → ℕ → Range) (op' : Op) (t : Sum) (x : List ℤ) → Searches w p n (nat_abs c) (length o) f → n ≡ term_count t → drop p w ≡ sum_words β t x → outcome_room t ≤ length o → Means β t op' (nat_abs c) (divisors_tried (nat_abs c) t) f
    meaning f β op' t x K j e R = subst (Means β t op' (nat_abs c) (divisors_tried (nat_abs c) t)) (sym (K.is β t x j e (omega arith))) (found-means β t op' (nat_abs c) (divisors_tried (nat_abs c) t))

    pub apply-passed : length o' ≡ length o → Searches w p n (nat_abs c) (length o) F.Passed → Applies op w p n c o o' A.Passed
    apply-passed l K = record {
      same = l;
      safe = tt;
      outcome = λ β op' t x i j e G S R. ap (small_sums β) (rests β t) ∙ meaning F.Passed β op' t x K j e R;
    }

    pub apply_at : (g q : ℤ) (o1 : List ℤ) (r : Applied) → length o1 ≡ length o → Searches w p n (nat_abs c) (length o) (F.At g q)
        → Takes (Trial (nat_abs g) q) (λ op' t. rule2 op' t (nat_abs c) (nat_abs g) q) op w p n o1 o' r → Applies op w p n c o o' r
    apply_at g q o1 r l K T = record {
      same = T.same ∙ l;
      safe = subst (λ (m : ℕ). Safe m r) l T.safe;
      outcome = λ β op' t x i j e G S R.
          let m = meaning (F.At g q) β op' t x K j e R in
          outcome-of β op' t (nat_abs c) o' (rule2 op' t (nat_abs c) (nat_abs g) q) r (ap (small_sums β) (rests β t) ∙ m.0) (applied β op' t ∙ m.1)
          (T.outcome β op' t x i j e G S (omega arith) (m.2, m.3));
    }

    pub apply-rest : (o1 : List ℤ) (r : Applied) → length o1 ≡ length o → Searches w p n (nat_abs c) (length o) F.None
        → Takes Always (λ op' t. rules34 op' t (nat_abs c)) op w p n o1 o' r → Applies op w p n c o o' r
    apply-rest o1 r l K T = record {
      same = T.same ∙ l;
      safe = subst (λ (m : ℕ). Safe m r) l T.safe;
      outcome = λ β op' t x i j e G S R.
          let m = meaning F.None β op' t x K j e R in
          outcome-of β op' t (nat_abs c) o' (rules34 op' t (nat_abs c)) r (ap (small_sums β) (rests β t) ∙ m.0) (applied β op' t ∙ m.1)
          (T.outcome β op' t x i j e G S (omega arith) tt);
    }
