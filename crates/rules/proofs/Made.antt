-- What each rule writes is the step that the rule says. Assumes nothing.
use mathlib.Core.Path.{◌≡◌, refl, sym, ap, ap₂, ◌∙◌, subst}
use mathlib.Core.Bool.{Bool, true, false}
use mathlib.Core.List.{List, [], ◌∷◌, ◌++◌}
use Prim.Native.Nat.{ℕ, suc, ◌+◌, ◌-◌, ◌*◌, ◌/◌, ◌<◌, ◌≤◌}
use native.Mathlib.Omega.{arith}
use native.Mathlib.Nat.{div-le_self, le-div_iff_mul-le}
use lib.IntN.{ℤ, pos, nat_abs, ◌+ℤ◌, ◌*ℤ◌, neg_ℤ, +ℤ_idl}
use lib.ListN.{length, drop, take, get_or, length-append}
use lib.Seq.{length-take-le}
use lib.Signed.{◌<ℤ◌}
use Rattle.integer.specs.Floor.{floor_mod}
use Rattle.integer.proofs.Linear.{parts-<}
use Rattle.expression.specs.Expression.{Kind, Op, floordiv, modulo, Range, span, op_range}
use Rattle.expression.specs.Node.{max_divisor}
use Rattle.folding.specs.Sum.{Atom, Sum, term_count, atom_size, sum_size, op_number, atom_range, sum_range}
use Rattle.folding.specs.Fold.{Step, again, add_constant, part_p, part_r, rule1, rule2, rule3, rule4, rules34, stays}
use Rattle.folding.specs.Working.{small_sum}
use Rattle.folding.specs.Folded.{FoldedA, FoldedS}
use Rattle.folding.proofs.Size.{size-parts}
use Rattle.words.specs.Words.{atom_words, term_words, sum_words, constant_of}
use Rattle.words.proofs.Reading.{word-is}
use Rattle.words.specs.Saturated.{saturate_sum, scaled, shifted}
use Rattle.words.proofs.Room.{words-enough}
use Rattle.words.specs.Promises.{Forward, Skips, Puts, Makes, Reckons, Wraps}
use Rattle.words.proofs.Skipping.{ahead}
use Rattle.words.proofs.Copied.{sum-words}
use Rattle.rules.specs.Outcome.{max_terms, outcome_room}
use Rattle.rules.specs.Rules.{Keeps, Nests, OpEnds, max_multiple, Leaves, Shifts, SumStands, OpStands, StepStands, new_op, Always, Trial, Takes}
use Rattle.rules.specs.declared.Applied.{Applied}
use Rattle.rules.specs.declared.Applied.TheVariants as A
use Rattle.rules.proofs.Small.{small-numbers, saturate-same, shifted-same, p-numbers, r-numbers, rest-last, quotient-near, scale_one}
use Rattle.rules.proofs.Placed.{written, two-parts, last_apart, add_apart, add-count, last-anew}
use Rattle.rules.proofs.Nested.{nested-none, nested-some}

-- ---- sizes and counts

sat-size : (t : Sum) → sum_size (saturate_sum t) ≡ sum_size t
unfolding saturate_sum sum_size
sat-size (Sum.const k) = refl
sat-size (Sum.term c a t) = ap (λ (n : ℕ). atom_size a + n) (sat-size t)

sat-count : (t : Sum) → term_count (saturate_sum t) ≡ term_count t
unfolding saturate_sum term_count
sat-count (Sum.const k) = refl
sat-count (Sum.term c a t) = ap suc (sat-count t)

shift-size : (z : ℤ) (t : Sum) → sum_size (shifted z t) ≡ sum_size t
unfolding shifted sum_size
shift-size z (Sum.const k) = refl
shift-size z (Sum.term c a t) = ap (λ (n : ℕ). atom_size a + n) (shift-size z t)

atom-counts : (a : Atom) → 1 ≤ atom_size a
unfolding atom_size
atom-counts (Atom.var k n) = omega arith
atom-counts (Atom.op o t c) = omega arith

count-size : (t : Sum) → term_count t ≤ sum_size t
unfolding term_count sum_size
count-size (Sum.const k) = omega arith
count-size (Sum.term c a t) = omega (arith, atom-counts a, count-size t)

-- ---- a sum made where there is room

made : (f : Sum → Sum) (w : List ℤ) (p n : ℕ) (o o' : List ℤ) (at m r : ℕ) (β : Kind → ℕ → Range) (t : Sum) (x : List ℤ) → Makes f w p n o o' at m r
    → n ≡ term_count t → drop p w ≡ sum_words β t x → at + (7 * sum_size (f t) + 1) ≤ length o
    → (take r o' ≡ take at o ++ sum_words β (f t) []) × (r ≡ at + length (sum_words β (f t) []))
made f w p n o o' at m r β t x M j e room =
    written (sum_words β (f t) []) o o' at r (omega (arith, words-enough β (f t))) M.high M.same (M.made β t x j e).0

zero-words : (β : Kind → ℕ → Range) → sum_words β (Sum.const (pos 0)) [] ≡ pos 0 ∷ []
unfolding sum_words term_words constant_of
zero-words β = refl

-- a step by another name
pub as_step : {G : (Kind → ℕ → Range) → Sum → Type 0} {s s' : Op → Sum → Step} {op : ℕ} {w : List ℤ} {p n : ℕ} {o o' : List ℤ} {r : Applied}
    → ((β : Kind → ℕ → Range) (op' : Op) (t : Sum) (x : List ℤ) → op ≡ op_number op' → n ≡ term_count t → drop p w ≡ sum_words β t x → FoldedS β t → s op' t ≡ s' op' t)
    → Takes G s op w p n o o' r → Takes G s' op w p n o o' r
as_step {G} {s} {s'} {op} {w} {p} {n} {o} {o'} {r} h k = record {
  same = k.same;
  safe = k.safe;
  outcome = λ β op' t x i j e F S R g. subst (λ (z : Step). StepStands β z o' r) (h β op' t x i j e F) (k.outcome β op' t x i j e F S R g);
}

-- ---- rule 1

module _ (op : ℕ) (w : List ℤ) (p n : ℕ) (o o' : List ℤ) (r : ℕ) where
  pub rule1-sum : (q f : ℕ) → op ≡ 3 → n ≤ max_terms → Skips w p n q → Forward w q 1 f → Puts o o' 0 r (take (f - p) (drop p w)) → Takes Always rule1 op w p n o o' (A.Sum n r)
  unfolding rule1 op_number
  rule1-sum q f h few s g P = record { same = P.same; safe = (few, P.high); outcome = go }
    where
      go : (β : Kind → ℕ → Range) (op' : Op) (t : Sum) (x : List ℤ) → op ≡ op_number op' → n ≡ term_count t → drop p w ≡ sum_words β t x → FoldedS β t → small_sum β t ≡ true → outcome_room t ≤ length o → Unit {0} → SumStands β (rule1 op' t) o' n r
      go β modulo t x i j e F S R g' = absurd (omega arith)
      go β floordiv t x i j e F S R g' = record {
        u = t;
        applied = refl;
        standing = (written (sum_words β t []) o o' 0 r (omega (arith, words-enough β t)) P.high P.same (P.is ∙ ap (λ (l : List ℤ). take (length o) l) (sum-words β w p n q f t x s g j e))).0;
        counted = j;
      }

  pub rule1-zero : (op ≡ 3 → ⊥) → Puts o o' 0 r (pos 0 ∷ []) → Takes Always rule1 op w p n o o' (A.Sum 0 r)
  unfolding rule1 op_number term_count
  rule1-zero h P = record { same = P.same; safe = (omega arith, P.high); outcome = go }
    where
      go : (β : Kind → ℕ → Range) (op' : Op) (t : Sum) (x : List ℤ) → op ≡ op_number op' → n ≡ term_count t → drop p w ≡ sum_words β t x → FoldedS β t → small_sum β t ≡ true → outcome_room t ≤ length o → Unit {0} → SumStands β (rule1 op' t) o' 0 r
      go β floordiv t x i j e F S R g' = absurd (h i)
      go β modulo t x i j e F S R g' = record {
        u = Sum.const (pos 0);
        applied = refl;
        standing = (written (pos 0 ∷ []) o o' 0 r (omega arith) P.high P.same P.is).0 ∙ sym (zero-words β);
        counted = refl;
      }

  -- ---- no rule fits

  pub stays-made : (c : ℕ) (d : ℤ) (ok : Bool) (l h a b : ℤ) → d ≡ pos c → Reckons w p n (pos 0) (pos 0) ok l h → OpEnds op l h c a b → Wraps op d a b w p n o o' 0 r → Takes Always (λ op' t. stays op' t c) op w p n o o' (A.Sum 1 r)
  unfolding stays small_sum atom_range sum_size atom_size term_count
  stays-made c d ok l h a b ed R E W = record { same = W.same; safe = (omega arith, W.high); outcome = go }
    where
      go : (β : Kind → ℕ → Range) (op' : Op) (t : Sum) (x : List ℤ) → op ≡ op_number op' → n ≡ term_count t → drop p w ≡ sum_words β t x → FoldedS β t → small_sum β t ≡ true → outcome_room t ≤ length o → Unit {0} → SumStands β (stays op' t c) o' 1 r
      go β op' t x i j e F S room g' =
          let u = Sum.term (pos 1) (Atom.op op' t c) (Sum.const (pos 0)) in
          let ends = R.ends β t x j e (R.is β t x j e ∙ S) in
          let l1 : l ≡ (sum_range t β).lo = ends.0 ∙ +ℤ_idl (sum_range t β).lo in
          let h1 : h ≡ (sum_range t β).hi = ends.1 ∙ +ℤ_idl (sum_range t β).hi in
          let z : span a b ≡ atom_range (Atom.op op' t c) β = E.is op' i ∙ ap₂ (λ (y : ℤ) (v : ℤ). op_range op' (span y v) c) l1 h1 in
          record {
            u = u;
            applied = refl;
            standing =
                (written (sum_words β u []) o o' 0 r (omega (arith, words-enough β u)) W.high W.same
                (W.made β op' c t x i ed (ap (λ (y : Range). y.lo) z) (ap (λ (y : Range). y.hi) z) j e)).0;
            counted = refl;
          }

-- ---- rule 3

module _ (op : ℕ) (w : List ℤ) (p n : ℕ) (c : ℕ) (d : ℤ) (o o1 o2 : List ℤ) (m r : ℕ) (few : n ≤ max_terms) (above : pos 0 <ℤ d) (ed : c ≡ nat_abs d) (pc : 0 < c) (most : c ≤ max_divisor) (M : Makes (part_r c) w p n o o1 0 m r) where
  pub rule3-both : (j f : ℕ) → op ≡ 3 → Makes (part_p c) w p n o1 o2 r j f → r ≤ f → Takes Always (λ op' t. rule3 op' t c) op w p n o o2 (new_op (pos 1) d m r j f)
  unfolding rule3 op_number
  rule3-both j f h N le = record {
    same = N.same ∙ M.same;
    safe = (omega (arith, M.few), omega (arith, N.few), le, omega (arith, N.high, M.same), above, omega arith);
    outcome = go;
  }
    where
      go : (β : Kind → ℕ → Range) (op' : Op) (t : Sum) (x : List ℤ) → op ≡ op_number op' → n ≡ term_count t → drop p w ≡ sum_words β t x → FoldedS β t → small_sum β t ≡ true → outcome_room t ≤ length o → Unit {0} → OpStands β (rule3 op' t c) o2 (pos 1) d m r j f
      go β modulo t x i k e F S R g' = absurd (omega arith)
      go β floordiv t x i k e F S R g' =
          let U = part_r c t in
          let W = part_p c t in
          let z = size-parts c t in
          let a = made (part_r c) w p n o o1 0 m r β t x M k e (omega arith) in
          let b = made (part_p c) w p n o1 o2 r j f β t x N k e (omega (arith, a.1, words-enough β U, M.same)) in
          let y = two-parts (sum_words β U []) (sum_words β W []) o2 r f (b.0 ∙ ap (λ (l : List ℤ). l ++ sum_words β W []) a.0) (omega (arith, a.1)) in
          record {
            u = U;
            a = W;
            applied = ap (λ (v : ℕ). again (pos 1) U v W) ed;
            standing = y.0 ∙ ap (λ (v : Sum). sum_words β v []) (sym (saturate-same U (r-numbers c t pc most (small-numbers β t S))));
            counted = (M.made β t x k e).1;
            behind = y.1;
            rest-counted = (N.made β t x k e).1;
          }

  pub rule3-less : (j f : ℕ) → op ≡ 3 → Makes (part_p c) w p n o1 o2 r j f → f < r → Takes Always (λ op' t. rule3 op' t c) op w p n o o2 A.Passed
  rule3-less j f h N lt = record {
    same = N.same ∙ M.same;
    safe = tt;
    outcome = λ β op' t x i k e F S R g'.
        let z = size-parts c t in
        let a = made (part_r c) w p n o o1 0 m r β t x M k e (omega arith) in
        let b = made (part_p c) w p n o1 o2 r j f β t x N k e (omega (arith, a.1, words-enough β (part_r c t), M.same)) in
        omega (arith, b.1);
  }

  pub rule3-zero : (f : ℕ) → (op ≡ 3 → ⊥) → Puts o1 o2 r f (pos 0 ∷ []) → Takes Always (λ op' t. rule3 op' t c) op w p n o o2 (new_op (pos 1) d m r 0 f)
  unfolding rule3 op_number term_count
  rule3-zero f h P = record {
    same = P.same ∙ M.same;
    safe = (omega (arith, M.few), omega arith, P.low, omega (arith, P.high, M.same), above, omega arith);
    outcome = go;
  }
    where
      go : (β : Kind → ℕ → Range) (op' : Op) (t : Sum) (x : List ℤ) → op ≡ op_number op' → n ≡ term_count t → drop p w ≡ sum_words β t x → FoldedS β t → small_sum β t ≡ true → outcome_room t ≤ length o → Unit {0} → OpStands β (rule3 op' t c) o2 (pos 1) d m r 0 f
      go β floordiv t x i k e F S R g' = absurd (h i)
      go β modulo t x i k e F S R g' =
          let U = part_r c t in
          let z = size-parts c t in
          let a = made (part_r c) w p n o o1 0 m r β t x M k e (omega arith) in
          let b = written (pos 0 ∷ []) o1 o2 r f (omega (arith, a.1, words-enough β U, M.same)) P.high P.same P.is in
          let y = two-parts (sum_words β U []) (pos 0 ∷ []) o2 r f (b.0 ∙ ap (λ (l : List ℤ). l ++ (pos 0 ∷ [])) a.0) (omega (arith, a.1)) in
          record {
            u = U;
            a = Sum.const (pos 0);
            applied = ap (λ (v : ℕ). again (pos 1) U v (Sum.const (pos 0))) ed;
            standing = y.0 ∙ ap (λ (v : Sum). sum_words β v []) (sym (saturate-same U (r-numbers c t pc most (small-numbers β t S))));
            counted = (M.made β t x k e).1;
            behind = y.1 ∙ sym (zero-words β);
            rest-counted = refl;
          }

-- ---- rule 2

quotient-safe : (c g : ℕ) (d : ℤ) → 0 < g → g ≤ c → c ≤ max_divisor → d ≡ pos (c / g) → (pos 0 <ℤ d) × (nat_abs d ≤ max_divisor)
quotient-safe c g d h k m e =
    let l : 1 ≤ c / g = (le-div_iff_mul-le h).1 (omega arith) in
    let u = div-le_self c g in
    subst (λ (z : ℤ). (pos 0 <ℤ z) × (nat_abs z ≤ max_divisor)) (sym e) (parts-< (pos 0) (pos (c / g)) (omega arith), omega arith)

module _ (op : ℕ) (w : List ℤ) (p n : ℕ) (c g : ℕ) (d q : ℤ) (o o1 o2 : List ℤ) (m r e : ℕ) (few : n ≤ max_terms) (pg : 0 < g) (below : g ≤ c) (most : c ≤ max_divisor) (ed : d ≡ pos (c / g)) (M : Makes (part_p g) w p n o o1 0 m r) (z : ℤ) (ez : z ≡ q) (Z : Shifts o1 o2 r z e) where
  S : Shifts o1 o2 r q e
  S = subst (λ (v : ℤ). Shifts o1 o2 r v e) ez Z

  -- P + q stands
  module _ (β : Kind → ℕ → Range) (t : Sum) (x : List ℤ) (k : n ≡ term_count t) (h : drop p w ≡ sum_words β t x) (room : outcome_room t ≤ length o) where
    first : take e o2 ≡ sum_words β (shifted q (part_p g t)) []
    first =
        let z = size-parts g t in
        S.is β (part_p g t) (made (part_p g) w p n o o1 0 m r β t x M k h (omega arith)).0

    end_is : length (sum_words β (shifted q (part_p g t)) []) ≡ e
    end_is = sym (ap length first) ∙ length-take-le e o2 (omega (arith, S.high, S.same))

    end-most : e ≤ 7 * sum_size (part_p g t) + 1
    end-most = omega (arith, end_is, words-enough β (shifted q (part_p g t)), shift-size q (part_p g t))

    first-kept : small_sum β t ≡ true → sum_words β (shifted q (part_p g t)) [] ≡ sum_words β (saturate_sum (add_constant q (part_p g t))) []
    first-kept s = ap (λ (v : Sum). sum_words β v []) (shifted-same q (part_p g t) (p-numbers g t (small-numbers β t s)))

    first_count : m ≡ term_count (add_constant q (part_p g t))
    first_count = (M.made β t x k h).1 ∙ sym (add-count q (part_p g t))

  pub rule2-floor : (o3 : List ℤ) (f : ℕ) → op ≡ 3 → Puts o2 o3 e f (pos 0 ∷ []) → Takes (Trial g q) (λ op' t. rule2 op' t c g q) op w p n o o3 (new_op (pos 1) d m e 0 f)
  unfolding rule2 op_number term_count
  rule2-floor o3 f h P = record {
    same = P.same ∙ S.same ∙ M.same;
    safe = (omega (arith, M.few), omega arith, P.low, omega (arith, P.high, S.same, M.same), (quotient-safe c g d pg below most ed).0, (quotient-safe c g d pg below most ed).1);
    outcome = go;
  }
    where
      go : (β : Kind → ℕ → Range) (op' : Op) (t : Sum) (x : List ℤ) → op ≡ op_number op' → n ≡ term_count t → drop p w ≡ sum_words β t x → FoldedS β t → small_sum β t ≡ true → outcome_room t ≤ length o → Trial g q β t → OpStands β (rule2 op' t c g q) o3 (pos 1) d m e 0 f
      go β modulo t x i k st F s R T = absurd (omega arith)
      go β floordiv t x i k st F s R T =
          let W = sum_words β (shifted q (part_p g t)) [] in
          let z = size-parts g t in
          let b = written (pos 0 ∷ []) o2 o3 e f (omega (arith, end-most β t x k st R, S.same, M.same)) P.high P.same P.is in
          let y = two-parts W (pos 0 ∷ []) o3 e f (b.0 ∙ ap (λ (l : List ℤ). l ++ (pos 0 ∷ [])) (first β t x k st R)) (end_is β t x k st R) in
          record {
            u = add_constant q (part_p g t);
            a = Sum.const (pos 0);
            applied = ap (λ (v : ℕ). again (pos 1) (add_constant q (part_p g t)) v (Sum.const (pos 0))) (sym (ap nat_abs ed));
            standing = y.0 ∙ first-kept β t x k st R s;
            counted = first_count β t x k st R;
            behind = y.1 ∙ sym (zero-words β);
            rest-counted = refl;
          }

  module _ (o3 : List ℤ) (j f : ℕ) (notFloor : op ≡ 3 → ⊥) (N : Makes (part_r g) w p n o2 o3 e j f) where
    second : (β : Kind → ℕ → Range) (t : Sum) (x : List ℤ) → n ≡ term_count t → drop p w ≡ sum_words β t x → outcome_room t ≤ length o
        → (take f o3 ≡ sum_words β (shifted q (part_p g t)) [] ++ sum_words β (part_r g t) []) × (f ≡ e + length (sum_words β (part_r g t) []))
    second β t x k st R =
        let z = size-parts g t in
        let b = made (part_r g) w p n o2 o3 e j f β t x N k st (omega (arith, end-most β t x k st R, S.same, M.same)) in
        (b.0 ∙ ap (λ (l : List ℤ). l ++ sum_words β (part_r g t) []) (first β t x k st R), b.1)

    pub rule2-less : f ≤ e → Takes (Trial g q) (λ op' t. rule2 op' t c g q) op w p n o o3 A.Passed
    rule2-less le = record {
      same = N.same ∙ S.same ∙ M.same;
      safe = tt;
      outcome = λ β op' t x i k st F s R T.
          let l = ap length (last_apart β (part_r g t)) in
          omega (arith, (second β t x k st R).1, l, length-append (term_words β (part_r g t) []) (constant_of (part_r g t) ∷ []));
    }

    pub rule2-mod : (o4 : List ℤ) (v : ℕ) (gz k0 : ℤ) (b y : ℕ) → e < f → gz ≡ pos g → Skips w p n v → Leaves (get_or w v (pos 0)) q gz k0 → b ≡ f - 1 → Puts o3 o4 b y (k0 ∷ [])
        → Takes (Trial g q) (λ op' t. rule2 op' t c g q) op w p n o o4 (new_op gz d m e j y)
    unfolding rule2 op_number sum_words
    rule2-mod o4 v gz k0 b y lt eg s L eb P = record {
      same = P.same ∙ N.same ∙ S.same ∙ M.same;
      safe = (omega (arith, M.few), omega (arith, N.few), omega (arith, P.low), omega (arith, P.high, N.same, S.same, M.same), (quotient-safe c g d pg below most ed).0, (quotient-safe c g d pg below most ed).1);
      outcome = go;
    }
      where
        go : (β : Kind → ℕ → Range) (op' : Op) (t : Sum) (x : List ℤ) → op ≡ op_number op' → n ≡ term_count t → drop p w ≡ sum_words β t x → FoldedS β t → small_sum β t ≡ true → outcome_room t ≤ length o → Trial g q β t → OpStands β (rule2 op' t c g q) o4 gz d m e j y
        go β floordiv t x i k st F sm R T = absurd (notFloor i)
        go β modulo t x i k st F sm R T =
            let X = sum_words β (shifted q (part_p g t)) [] in
            let Z = part_r g t in
            let minus = neg_ℤ (q *ℤ pos g) in
            let last = last_apart β Z in
            let stood : take f o3 ≡ X ++ (term_words β Z [] ++ (constant_of Z ∷ [])) = (second β t x k st R).0 ∙ ap (λ (l : List ℤ). X ++ l) last in
            let P' : Puts o3 o4 (f - 1) y (k0 ∷ []) = subst (λ (a : ℕ). Puts o3 o4 a y (k0 ∷ [])) eb P in
            let anew = last-anew X (term_words β Z []) (constant_of Z) k0 o3 o4 f y (omega (arith, N.high, N.same)) stood P' in
            let two = two-parts X (term_words β Z [] ++ (k0 ∷ [])) o4 e y anew.0 (end_is β t x k st R) in
            let near = quotient-near β g t q pg (omega arith) T.0 T.1 in
            let left = L.is (subst (λ (a : ℤ). nat_abs (q *ℤ a) ≤ max_multiple) (sym eg) near) in
            let at : get_or w v (pos 0) ≡ constant_of t = word-is w v (constant_of t) x (s.past β t (constant_of t ∷ x) k st) in
            let num : k0 ≡ minus +ℤ constant_of Z =
            left ∙ ap (λ (a : ℤ). neg_ℤ (q *ℤ a) +ℤ floor_mod (get_or w v (pos 0)) (nat_abs a)) eg ∙ ap (λ (a : ℤ). minus +ℤ a) (ap (λ (a : ℤ). floor_mod a g) at ∙ sym (rest-last g t)) in
            record {
              u = add_constant q (part_p g t);
              a = add_constant minus Z;
              applied = ap₂ (λ (a : ℤ) (b : ℕ). again a (add_constant q (part_p g t)) b (add_constant minus Z)) (sym eg) (sym (ap nat_abs ed));
              standing = two.0 ∙ first-kept β t x k st R sm;
              counted = first_count β t x k st R;
              behind = two.1 ∙ ap (λ (a : ℤ). term_words β Z [] ++ (a ∷ [])) num ∙ sym (add_apart β minus Z);
              rest-counted = (N.made β t x k st).1 ∙ sym (add-count minus Z);
            }

-- ---- rule 4

module _ (op : ℕ) (w : List ℤ) (p n : ℕ) (c : ℕ) (d : ℤ) (o : List ℤ) (pc : 0 < c) (D : Nests op w p n c d) where
  pub rule4-stays : (o' : List ℤ) (r : Applied) → d ≡ pos 0 → Takes Always (λ op' t. stays op' t c) op w p n o o' r → Takes Always (λ op' t. rule4 op' t c) op w p n o o' r
  rule4-stays o' r z K = as_step (λ β op' t x i j e F. sym (nested-none β op' t c pc F (sym (ap nat_abs (sym z ∙ D.is β op' t x i j e F))))) K

  module _ (nz : d ≡ pos 0 → ⊥) (h k : ℕ) (f2 : Forward w p 2 h) (ek : k ≡ nat_abs (get_or w h (pos 0))) where
    -- the sum under the floordiv
    record Under (β : Kind → ℕ → Range) (op' : Op) (t : Sum) (x : List ℤ) : Type 0 where
      pub u : Sum
      pub rest : List ℤ
      pub a : ℕ
      pub applied : rule4 op' t c ≡ again (pos 1) u (nat_abs d) (Sum.const (pos 0))
      pub words : drop p w ≡ (pos 3 ∷ pos a ∷ pos (term_count u) ∷ []) ++ sum_words β u rest
      pub count : k ≡ term_count u
      pub folded : FoldedS β u
      pub size : sum_size t ≡ suc (sum_size u)

    under : (β : Kind → ℕ → Range) (op' : Op) (t : Sum) (x : List ℤ) → op ≡ op_number op' → n ≡ term_count t → drop p w ≡ sum_words β t x → FoldedS β t → Under β op' t x
    unfolding sum_words term_words constant_of atom_words op_number FoldedS FoldedA sum_size atom_size
    under β op' t x i j e F =
        let nd = D.is β op' t x i j e F in
        let I = nested-some op' t c (λ z. nz (nd ∙ ap pos z)) in
        let z = atom_range (Atom.op floordiv I.x I.a) β in
        let rest = z.lo ∷ z.hi ∷ I.e ∷ I.k ∷ x in
        let e' = e ∙ ap (λ (v : Sum). sum_words β v x) I.whole in
        let F' = subst (λ (v : Sum). FoldedS β v) I.whole F in
        record {
          u = I.x;
          rest = rest;
          a = I.a;
          applied = I.applied ∙ ap (λ (v : ℕ). again (pos 1) I.x v (Sum.const (pos 0))) (sym (ap nat_abs nd));
          words = e';
          count = ek ∙ ap nat_abs (word-is w h (pos (term_count I.x)) (sum_words β I.x rest) (ahead w p 2 h (pos 3 ∷ pos I.a ∷ []) (pos (term_count I.x) ∷ sum_words β I.x rest) e' refl (omega arith) f2));
          folded = F'.1.1;
          size = ap sum_size I.whole ∙ omega arith;
        }

    pub rule4-many : length o ≤ max_terms → max_terms < k → Takes Always (λ op' t. rule4 op' t c) op w p n o o A.Passed
    rule4-many l lt = record {
      same = refl;
      safe = tt;
      outcome = λ β op' t x i j e F s R g. let v = under β op' t x i j e F in omega (arith, v.count, v.size, count-size v.u);
    }

    pub rule4-made : (b : ℕ) (o1 o2 : List ℤ) (m r f : ℕ) → k ≤ max_terms → Forward w p 3 b → Makes (scaled (pos 1)) w b k o o1 0 m r → Puts o1 o2 r f (pos 0 ∷ []) → Takes Always (λ op' t. rule4 op' t c) op w p n o o2 (new_op (pos 1) d m r 0 f)
    unfolding scaled term_count
    rule4-made b o1 o2 m r f few f3 M P = record {
      same = P.same ∙ M.same;
      safe = (omega (arith, M.few), omega arith, P.low, omega (arith, P.high, M.same), (D.safe nz).0, (D.safe nz).1);
      outcome = λ β op' t x i j e F s R g.
          let v = under β op' t x i j e F in
          let st : drop b w ≡ sum_words β v.u v.rest = ahead w p 3 b (pos 3 ∷ pos v.a ∷ pos (term_count v.u) ∷ []) (sum_words β v.u v.rest) v.words refl (omega arith) f3 in
          let same : scaled (pos 1) v.u ≡ saturate_sum v.u = ap saturate_sum (scale_one β v.u v.folded) in
          let z : sum_size (scaled (pos 1) v.u) ≡ sum_size v.u = ap sum_size same ∙ sat-size v.u in
          let q = made (scaled (pos 1)) w b k o o1 0 m r β v.u v.rest M v.count st (omega (arith, v.size)) in
          let y = written (pos 0 ∷ []) o1 o2 r f (omega (arith, q.1, words-enough β (scaled (pos 1) v.u), v.size, M.same)) P.high P.same P.is in
          let two = two-parts (sum_words β (scaled (pos 1) v.u) []) (pos 0 ∷ []) o2 r f (y.0 ∙ ap (λ (l : List ℤ). l ++ (pos 0 ∷ [])) q.0) (omega (arith, q.1)) in
          record {
            u = v.u;
            a = Sum.const (pos 0);
            applied = v.applied;
            standing = two.0 ∙ ap (λ (a : Sum). sum_words β a []) same;
            counted = (M.made β v.u v.rest v.count st).1 ∙ ap term_count same ∙ sat-count v.u;
            behind = two.1 ∙ sym (zero-words β);
            rest-counted = refl;
          };
    }

-- ---- rule 3 where something leaves, else rule 4

module _ (op : ℕ) (w : List ℤ) (p n : ℕ) (c : ℕ) (o o' : List ℤ) (r : Applied) where
  pub all-kept : Keeps w p n c true → Takes Always (λ op' t. rule4 op' t c) op w p n o o' r → Takes Always (λ op' t. rules34 op' t c) op w p n o o' r
  unfolding rules34
  all-kept K = as_step (λ β op' t x i j e F. rw (sym (K.is β t x j e)) refl)

  pub some-leave : Keeps w p n c false → Takes Always (λ op' t. rule3 op' t c) op w p n o o' r → Takes Always (λ op' t. rules34 op' t c) op w p n o o' r
  unfolding rules34
  some-leave K = as_step (λ β op' t x i j e F. rw (sym (K.is β t x j e)) refl)
