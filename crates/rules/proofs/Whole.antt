-- All rules applied to words, by what the first of them makes: nothing, a sum, or a new floordiv or mod. Assumes nothing.
use mathlib.Core.Path.{◌≡◌, refl, sym, ap, ◌∙◌, subst}
use mathlib.Core.Bool.{Bool, true, false, ◌&&◌}
use mathlib.Core.List.{List, [], ◌++◌}
use Prim.Native.Nat.{ℕ, zero, suc, ◌+◌, ◌-◌, ◌^◌, ◌<◌, ◌≤◌}
use native.Mathlib.Omega.{arith}
use lib.IntN.{ℤ, pos, negsuc, nat_abs}
use lib.Signed.{◌<ℤ◌}
use Rattle.integer.proofs.Linear.{<-parts}
use lib.ListN.{length, drop, take, take-append-drop}
use Rattle.expression.specs.Expression.{Kind, Op, Range}
use Rattle.folding.specs.Sum.{Atom, Sum, term_count, atom_size, sum_size, op_number}
use Rattle.folding.specs.Fold.{add_sums, scale_sum, apply_rules}
use Rattle.folding.specs.Folded.{FoldedS, weight}
use Rattle.folding.specs.Working.{small_sum, small_sums, sums_formed}
use Rattle.folding.proofs.Ending.{Good, step-good, run-folded}
use Rattle.folding.proofs.Size.{size-run, size-add, size_scale}
use Rattle.words.specs.Words.{sum_words}
use Rattle.words.specs.Saturated.{saturate_sum}
use Rattle.words.specs.Merged.{blended, Sorted}
use Rattle.words.proofs.Blended.{blend-law}
use Rattle.words.proofs.Room.{words-enough}
use Rattle.words.proofs.Tests.{clash}
use Rattle.words.proofs.SmallSums.{ok-sat, ok-kept}
use Rattle.rules.specs.Outcome.{max_terms, outcome_room, rules_room, NewOp, Applies, Rewrites}
use Rattle.rules.specs.Rewriting.{Judges, Settled, Settles, Holds, Joins}
use Rattle.rules.specs.declared.Applied.TheVariants as A
use Rattle.rules.specs.declared.Again.{Again}
use Rattle.rules.proofs.Standing.{sum-rest, part-stands, kept-part, kept-front}
use Rattle.rules.proofs.Rest.{Leaves, small-terms, terms-kept, leaves}
use Rattle.rules.proofs.Formed.{formed-large, formed-passed, formed-sum, formed-again, rules-sum, rules-again}

-- ---- a saturated sum has the shape of the sum

pub saturated-count : (t : Sum) → term_count (saturate_sum t) ≡ term_count t
unfolding saturate_sum term_count
saturated-count (Sum.const k) = refl
saturated-count (Sum.term c a t) = ap suc (saturated-count t)

pub saturated-size : (t : Sum) → sum_size (saturate_sum t) ≡ sum_size t
unfolding saturate_sum sum_size
saturated-size (Sum.const k) = refl
saturated-size (Sum.term c a t) = ap (λ (n : ℕ). atom_size a + n) (saturated-size t)

atom-counts : (a : Atom) → 1 ≤ atom_size a
unfolding atom_size
atom-counts (Atom.var k n) = omega arith
atom-counts (Atom.op o t c) = omega arith

pub count-size : (t : Sum) → term_count t ≤ sum_size t
unfolding term_count sum_size
count-size (Sum.const k) = omega arith
count-size (Sum.term c a t) = omega (arith, count-size t, atom-counts a)

pub folded-sorted : (β : Kind → ℕ → Range) (t : Sum) → FoldedS β t → Sorted t
unfolding FoldedS Sorted
folded-sorted β (Sum.const k) h = tt
folded-sorted β (Sum.term c a t) h = (h.0, (h.2, folded-sorted β t h.3))

-- ---- nothing was rewritten

module _ (op p n : ℕ) (c : ℤ) (w : List ℤ) (scratch : ℕ) (room : p ≤ length w) where
  pub rewrites-none : Rewrites op p n c 0 w w scratch false 0 p
  rewrites-none =
      record {
        same = refl;
        below = refl;
        low = omega arith;
        high = room;
        few = omega arith;
        judged = λ β t x en ep e. refl;
        outcome = λ β o t x j eo en ep f wt cj r s. absurd (omega arith);
        standing = λ β o t x j eo en ep f wt cj r s e. clash e;
      }

  module _ (m : ℕ) where
    pub rewrites-large : Judges w p n false → Rewrites op p n c (suc m) w w scratch false 0 p
    rewrites-large q =
        record {
          same = refl;
          below = refl;
          low = omega arith;
          high = room;
          few = omega arith;
          judged = λ β t x en ep e. refl;
          outcome = λ β o t x j eo en ep f wt cj r s. sym (formed-large β m o t (nat_abs c) (sym (q.is β t x en ep)));
          standing = λ β o t x j eo en ep f wt cj r s e. clash e;
        }

    pub rewrites-passed : (y y' : List ℤ) → scratch ≡ length y → Judges w p n true → Applies op w p n c y y' A.Passed → Rewrites op p n c (suc m) w w scratch false 0 p
    rewrites-passed y y' ey q v =
        record {
          same = refl;
          below = refl;
          low = omega arith;
          high = room;
          few = omega arith;
          judged = λ β t x en ep e. refl;
          outcome = λ β o t x j eo en ep f wt cj r s.
              let small = sym (q.is β t x en ep) in
              sym (formed-passed β m o t (nat_abs c) small (v.outcome β o t x eo en ep f small (omega arith)));
          standing = λ β o t x j eo en ep f wt cj r s e. clash e;
        }

-- ---- a sum

module _ (op p n : ℕ) (c : ℤ) (m : ℕ) (w w' : List ℤ) (y y' : List ℤ) (count to : ℕ) (small : Bool) (terms end : ℕ)
    (few : length y ≤ max_terms) (q : Judges w p n true) (v : Applies op w p n c y y' (A.Sum count to)) (s : Settles y' count to w w' p small terms end) where
  settled-sum : (β : Kind → ℕ → Range) (o : Op) (t : Sum) (x : List ℤ) (j : ℕ) → op ≡ op_number o → n ≡ term_count t → drop p w ≡ sum_words β t x
      → FoldedS β t → p + rules_room t (nat_abs c) j ≤ length w → outcome_room t ≤ length y
      → (small ≡ small_sums β (sums_formed (suc m) β o t (nat_abs c))) × (small ≡ true → (drop p (take end w') ≡ sum_words β (apply_rules (suc m) β o t (nat_abs c)) []) × (terms ≡ term_count (apply_rules (suc m) β o t (nat_abs c))))
  settled-sum β o t x j eo en ep f r room =
      let st = sym (q.is β t x en ep) in
      let O = v.outcome β o t x eo en ep f st room in
      let N = O.1 in
      let u = N.u in
      let C = nat_abs c in
      let rs = rules-sum β m o t C u N.applied in
      let size : sum_size u ≤ suc (sum_size t) = subst (λ (z : Sum). sum_size z ≤ suc (sum_size t)) rs (size-run (suc m) β o t C) in
      let S = s.settled β u N.counted (omega (arith, N.counted, count-size u)) N.standing (omega (arith, words-enough β u)) in (
        S.judged ∙ sym (formed-sum β m o t C st u O.0 N.applied),
        λ e. (S.standing e ∙ ap (λ (z : Sum). sum_words β z []) (sym rs), S.counted e ∙ ap term_count (sym rs)),
      )

  pub rewrites-sum : Rewrites op p n c (suc m) w w' (length y) small terms end
  rewrites-sum =
      record {
        same = s.written.same;
        below = s.written.below;
        low = s.written.low;
        high = s.written.high;
        few = s.written.few;
        judged = λ β t x en ep e. clash (sym e ∙ sym (q.is β t x en ep));
        outcome = λ β o t x j eo en ep f wt cj r z. (settled-sum β o t x j eo en ep f r z).0;
        standing = λ β o t x j eo en ep f wt cj r z. (settled-sum β o t x j eo en ep f r z).1;
      }

-- ---- a new floordiv or mod

module _ (op p n : ℕ) (c : ℤ) (m : ℕ) (w w1 w2 : List ℤ) (y y' : List ℤ) (g : Again) (a terms1 end1 : ℕ)
    (ready : p ≤ length w) (above : 0 < nat_abs c)
    (q : Judges w p n true) (v : Applies op w p n c y y' (A.Again g)) (h : Holds y' g.end g.rest_end w w1 p a) where
  module _ (β : Kind → ℕ → Range) (o : Op) (t : Sum) (x : List ℤ) (j : ℕ) (eo : op ≡ op_number o) (en : n ≡ term_count t) (ep : drop p w ≡ sum_words β t x)
      (f : FoldedS β t) (wt : weight t (nat_abs c) < suc m) (cj : nat_abs c ≤ 2 ^ j) (r : p + rules_room t (nat_abs c) j ≤ length w) (s : outcome_room t ≤ length y) where
    st : small_sum β t ≡ true
    st = sym (q.is β t x en ep)

    rests : small_sums β (Rattle.rules.specs.Outcome.rests_of β t (nat_abs c)) ≡ true
    rests = (v.outcome β o t x eo en ep f st s).0

    N : NewOp β o t (nat_abs c) y' g.factor g.divisor g.terms g.end g.rest_terms g.rest_end
    N = (v.outcome β o t x eo en ep f st s).1

    L : Leaves t (nat_abs c) j g.factor N.u (nat_abs g.divisor) N.a
    L = leaves β o t (nat_abs c) j g.factor N.u (nat_abs g.divisor) N.a above cj (small-terms β t st) N.applied

    G : (0 < nat_abs g.divisor) × FoldedS β N.u × FoldedS β N.a × (weight N.u (nat_abs g.divisor) < weight t (nat_abs c))
    unfolding Good
    G = subst (λ z. Good β t (nat_abs c) z) N.applied (step-good β o t (nat_abs c) above f)

    held : (a ≡ p + length (sum_words β N.a []))
        × (drop p (take a w1) ≡ sum_words β N.a [])
        × (take (length (sum_words β (saturate_sum N.u) [])) (drop a w1) ≡ sum_words β (saturate_sum N.u) [])
    held =
        h.both (sum_words β N.a []) (sum_words β (saturate_sum N.u) []) N.behind N.standing
        (omega (arith, words-enough β N.a, words-enough β (saturate_sum N.u), saturated-size N.u, L.room))

    -- what stands behind the new sum
    after : List ℤ
    after = drop (length (sum_words β (saturate_sum N.u) [])) (drop a w1)

    new-stands : drop a w1 ≡ sum_words β (saturate_sum N.u) after
    unfolding after
    new-stands =
        sym (take-append-drop (length (sum_words β (saturate_sum N.u) [])) (drop a w1))
        ∙ ap (λ (l : List ℤ). l ++ drop (length (sum_words β (saturate_sum N.u) [])) (drop a w1)) held.2
        ∙ sym (sum-rest β (saturate_sum N.u) (drop (length (sum_words β (saturate_sum N.u) [])) (drop a w1)))

    counted : g.terms ≡ term_count (saturate_sum N.u)
    counted = N.counted ∙ sym (saturated-count N.u)

    module _ (inner : Bool) (R : Rewrites op a g.terms g.divisor m w1 w2 (length y') inner terms1 end1) where
      -- the new floordiv or mod was rewritten as the rules say, where its sum is small
      inner-judged : small_sum β N.u ≡ true → inner ≡ small_sums β (sums_formed m β o N.u (nat_abs g.divisor))
      inner-judged e =
          R.outcome β o N.u after L.exponent eo N.counted (new-stands ∙ ap (λ (z : Sum). sum_words β z after) (ok-kept β N.u e)) G.1
          (omega (arith, G.3)) L.below (omega (arith, held.0, words-enough β N.a, L.room, h.same)) (omega (arith, L.smaller, v.same))

      inner-standing : small_sum β N.u ≡ true → inner ≡ true
          → (drop a (take end1 w2) ≡ sum_words β (apply_rules m β o N.u (nat_abs g.divisor)) []) × (terms1 ≡ term_count (apply_rules m β o N.u (nat_abs g.divisor)))
      inner-standing e k =
          R.standing β o N.u after L.exponent eo N.counted (new-stands ∙ ap (λ (z : Sum). sum_words β z after) (ok-kept β N.u e)) G.1
          (omega (arith, G.3)) L.below (omega (arith, held.0, words-enough β N.a, L.room, h.same)) (omega (arith, L.smaller, v.same)) k

      -- a sum that is not small is refused
      inner-large : small_sum β N.u ≡ false → inner ≡ false
      inner-large e = R.judged β (saturate_sum N.u) after counted new-stands (ok-sat β N.u ∙ e)

      formed-large-any : (i : ℕ) → 0 < i → small_sum β N.u ≡ false → small_sums β (sums_formed i β o N.u (nat_abs g.divisor)) ≡ false
      formed-large-any zero k e = absurd (omega arith)
      formed-large-any (suc i) k e = formed-large β i o N.u (nat_abs g.divisor) e

      inner-is : inner ≡ small_sums β (sums_formed m β o N.u (nat_abs g.divisor))
      inner-is = go (small_sum β N.u) refl
        where
          go : (b : Bool) → small_sum β N.u ≡ b → inner ≡ small_sums β (sums_formed m β o N.u (nat_abs g.divisor))
          go true e = inner-judged e
          go false e = inner-large e ∙ sym (formed-large-any m (omega (arith, G.3)) e)

      formed-is : small_sums β (sums_formed (suc m) β o t (nat_abs c))
          ≡ (inner && small_sum β (add_sums (scale_sum g.factor (apply_rules m β o N.u (nat_abs g.divisor))) N.a))
      formed-is =
          formed-again β m o t (nat_abs c) st g.factor N.u (nat_abs g.divisor) N.a rests N.applied
          ∙ ap (λ (b : Bool). b && small_sum β (add_sums (scale_sum g.factor (apply_rules m β o N.u (nat_abs g.divisor))) N.a)) (sym inner-is)

      module _ (done : inner ≡ true) (few : length y ≤ max_terms) (w3 : List ℤ) (scratch : ℕ) (es : scratch ≡ length y) (small : Bool) (terms end : ℕ)
          (J : Joins g.factor w2 w3 a terms1 p g.rest_terms scratch small terms end) where
        made : Sum
        made = apply_rules m β o N.u (nat_abs g.divisor)

        outcome : Sum
        outcome = add_sums (scale_sum g.factor (apply_rules m β o N.u (nat_abs g.divisor))) N.a

        new-small : small_sum β N.u ≡ true
        new-small = go (small_sum β N.u) refl
          where
            go : (b : Bool) → small_sum β N.u ≡ b → small_sum β N.u ≡ true
            go true e = e
            go false e = clash (sym (inner-large e) ∙ done)

        stands : (drop a (take end1 w2) ≡ sum_words β made []) × (terms1 ≡ term_count made)
        unfolding made
        stands = inner-standing new-small done

        blends : blended g.factor made N.a ≡ saturate_sum outcome
        unfolding made outcome
        blends =
            blend-law g.factor (apply_rules m β o N.u (nat_abs g.divisor)) N.a L.factor
            (folded-sorted β (apply_rules m β o N.u (nat_abs g.divisor)) (run-folded β m o N.u (nat_abs g.divisor) G.0 G.1 (omega (arith, G.3))))
            (terms-kept N.a L.small) (folded-sorted β N.a G.2)

        size : sum_size outcome ≤ suc (sum_size t)
        unfolding outcome
        size =
            omega (
              arith,
              size-add (scale_sum g.factor (apply_rules m β o N.u (nat_abs g.divisor))) N.a,
              size_scale g.factor (apply_rules m β o N.u (nat_abs g.divisor)),
              size-run m β o N.u (nat_abs g.divisor),
              L.smaller,
            )

        rest-stands : drop p w2 ≡ sum_words β N.a (drop a w2)
        rest-stands =
            part-stands w2 p a (sum_words β N.a []) h.low (omega (arith, h.high, h.same, R.same)) (kept-part w1 w2 p a (sum_words β N.a []) R.below held.1)
            ∙ sym (sum-rest β N.a (drop a w2))

        made-stands : drop a w2 ≡ sum_words β made (drop end1 w2)
        made-stands =
            part-stands w2 a end1 (sum_words β made []) R.low (omega (arith, R.high, R.same)) stands.0
            ∙ sym (sum-rest β made (drop end1 w2))

        few_words : length (sum_words β (saturate_sum outcome) []) ≤ outcome_room t
        few_words = omega (arith, words-enough β (saturate_sum outcome), saturated-size outcome, size)

        settled : Settled β (saturate_sum outcome) w3 p small terms end
        settled =
            subst (λ (z : Sum). Settled β z w3 p small terms end) blends
            (J.settled β made N.a (drop end1 w2) (drop a w2) stands.1 N.rest-counted made-stands rest-stands
            (subst (λ (z : Sum). term_count z ≤ max_terms) (sym blends) (omega (arith, saturated-count outcome, count-size outcome, size, few, s)))
            (subst (λ (z : Sum). length (sum_words β z []) ≤ scratch) (sym blends) (omega (arith, few_words, s, es)))
            (subst (λ (z : Sum). p + length (sum_words β z []) ≤ length w2) (sym blends) (omega (arith, few_words, r, h.same, R.same))))

        pub again-judged : small ≡ small_sums β (sums_formed (suc m) β o t (nat_abs c))
        unfolding outcome
        again-judged =
            settled.judged ∙ ok-sat β (add_sums (scale_sum g.factor (apply_rules m β o N.u (nat_abs g.divisor))) N.a)
            ∙ sym (formed-is ∙ ap (λ (b : Bool). b && small_sum β (add_sums (scale_sum g.factor (apply_rules m β o N.u (nat_abs g.divisor))) N.a)) done)

        exact : small ≡ true → saturate_sum outcome ≡ apply_rules (suc m) β o t (nat_abs c)
        unfolding outcome
        exact e =
            ok-kept β (add_sums (scale_sum g.factor (apply_rules m β o N.u (nat_abs g.divisor))) N.a)
            (sym (ok-sat β (add_sums (scale_sum g.factor (apply_rules m β o N.u (nat_abs g.divisor))) N.a)) ∙ sym settled.judged ∙ e)
            ∙ sym (rules-again β m o t (nat_abs c) g.factor N.u (nat_abs g.divisor) N.a N.applied)

        pub again-standing : small ≡ true → (drop p (take end w3) ≡ sum_words β (apply_rules (suc m) β o t (nat_abs c)) []) × (terms ≡ term_count (apply_rules (suc m) β o t (nat_abs c)))
        again-standing e = (
          settled.standing e ∙ ap (λ (z : Sum). sum_words β z []) (exact e),
          settled.counted e ∙ ap term_count (exact e),
        )

  pub rewrites-refused : Rewrites op a g.terms g.divisor m w1 w2 (length y') false terms1 end1 → Rewrites op p n c (suc m) w w2 (length y) false 0 p
  rewrites-refused R =
      record {
        same = R.same ∙ h.same;
        below = kept-front w1 w2 p a h.low R.below ∙ h.below;
        low = omega arith;
        high = ready;
        few = omega arith;
        judged = λ β t x en ep e. refl;
        outcome = λ β o t x j eo en ep f wt cj r s. sym (formed-is β o t x j eo en ep f wt cj r s false R);
        standing = λ β o t x j eo en ep f wt cj r s e. clash e;
      }

  pub rewrites-again : Rewrites op a g.terms g.divisor m w1 w2 (length y') true terms1 end1 → length y ≤ max_terms → (w3 : List ℤ) (scratch : ℕ) → scratch ≡ length y → (small : Bool) (terms end : ℕ)
      → Joins g.factor w2 w3 a terms1 p g.rest_terms scratch small terms end → Rewrites op p n c (suc m) w w3 (length y) small terms end
  rewrites-again R few w3 scratch es small terms end J =
      record {
        same = J.written.same ∙ R.same ∙ h.same;
        below = J.written.below ∙ kept-front w1 w2 p a h.low R.below ∙ h.below;
        low = J.written.low;
        high = omega (arith, J.written.high, R.same, h.same);
        few = J.written.few;
        judged = λ β t x en ep e. clash (sym e ∙ sym (q.is β t x en ep));
        outcome = λ β o t x j eo en ep f wt cj r s. again-judged β o t x j eo en ep f wt cj r s true R refl few w3 scratch es small terms end J;
        standing = λ β o t x j eo en ep f wt cj r s. again-standing β o t x j eo en ep f wt cj r s true R refl few w3 scratch es small terms end J;
      }

-- ---- fuel that is counted down

pub counted-down : (n : ℕ) → (n ≡ 0 → ⊥) → n ≡ suc (n - 1)
counted-down zero h = absurd (h refl)
counted-down (suc n) h = omega arith

pub with-fuel : {op p n : ℕ} {c : ℤ} {fuel m : ℕ} {w w' : List ℤ} {scratch : ℕ} {small : Bool} {terms end : ℕ}
    → fuel ≡ suc m → Rewrites op p n c (suc m) w w' scratch small terms end → Rewrites op p n c fuel w w' scratch small terms end
with-fuel {op} {p} {n} {c} {fuel} {m} {w} {w'} {scratch} {small} {terms} {end} e h =
    subst (λ (f : ℕ). Rewrites op p n c f w w' scratch small terms end) (sym e) h

pub above_zero : (z : ℤ) → pos 0 <ℤ z → 0 < nat_abs z
above_zero (pos n) h = omega (arith, <-parts (pos 0) (pos n) h)
above_zero (negsuc n) h = omega arith
