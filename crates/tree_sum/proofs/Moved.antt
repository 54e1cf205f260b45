-- Sums made in the scratch, judged and moved to their place. Assumes nothing.
use mathlib.Core.Path.{◌≡◌, refl, sym, ap, ◌∙◌}
use mathlib.Core.Bool.{Bool, true, false}
use mathlib.Core.List.{List, []}
use Prim.Native.Nat.{ℕ, ◌+◌, ◌-◌, ◌<◌, ◌≤◌}
use native.Mathlib.Omega.{arith}
use lib.IntN.{ℤ, pos, nat_abs}
use lib.ListN.{length, drop, take}
use lib.Seq.{take_all}
use Rattle.expression.specs.Expression.{Kind, Range}
use Rattle.expression.specs.Node.{max_divisor, Divisor}
use Rattle.folding.specs.Sum.{Atom, Sum, term_count, atom_size, sum_size}
use Rattle.folding.specs.Fold.{add_sums, scale_sum, keeps_all, fuel_for}
use Rattle.folding.specs.Folded.{FoldedS, weight}
use Rattle.folding.specs.Working.{small_sum}
use Rattle.folding.proofs.Ending.{flag-le, weight-enough}
use Rattle.folding.proofs.Size.{size-add, size_scale}
use Rattle.words.specs.Words.{sum_words}
use Rattle.words.specs.Saturated.{saturate_sum, scaled}
use Rattle.words.specs.Merged.{blended}
use Rattle.words.specs.Promises.{Puts, Makes, Merges, Reckons}
use Rattle.words.proofs.SmallSums.{ok-sat, ok-kept}
use Rattle.words.proofs.Tests.{clash}
use Rattle.rules.specs.Outcome.{max_terms, rules_room, Rewrites}
use Rattle.tree_sum.specs.declared.TreeSum.{TreeSum}
use Rattle.tree_sum.specs.Trees.{no_sum, tree_fuel, words_room, division_room, Rooms, Inside, PlacedTree, Stands, Holds, Written, Keeps, ScalesSum, DividesSum, AddsSums}
use Rattle.tree_sum.proofs.Whole.{with_rest, puts-below, puts-stands, count-saturated, saturated-room, blend-once}

-- ---- judged and moved
module _ (y : List ℤ) (n end begin : ℕ) (x : List ℤ) (p : ℕ) (h : p ≤ length x) (k : end ≤ length y) where
  judge : (β : Kind → ℕ → Range) (t : Sum) (ok : Bool) (lo hi : ℤ) → Reckons y 0 n (pos 0) (pos 0) ok lo hi → take end y ≡ sum_words β (saturate_sum t) [] → n ≡ term_count t → ok ≡ small_sum β t
  unfolding small_sum
  judge β t ok lo hi R e c =
      R.is β (saturate_sum t) (drop end y) (c ∙ sym (count-saturated t)) (with_rest β (saturate_sum t) y 0 end (omega arith) k e) ∙ ok-sat β t

  pub not-kept : (lo hi : ℤ) → Reckons y 0 n (pos 0) (pos 0) false lo hi → Keeps y n end begin x x p (no_sum begin p)
  not-kept lo hi R =
      record {
        placed = record { same = refl; below = refl; inside = record { low = omega arith; high = h; few = omega arith } };
        begins = refl;
        kept = λ β t e c r. record { judged = judge β t false lo hi R e c; stands = λ s. clash s };
      }

  pub is-kept : (lo hi : ℤ) → n ≤ max_terms → Reckons y 0 n (pos 0) (pos 0) true lo hi → (x' : List ℤ) (e : ℕ) → Puts x x' p e (take (end - 0) (drop 0 y))
      → Keeps y n end begin x x' p (record { small = true; begin = begin; terms = n; end = e })
  is-kept lo hi few R x' e P =
      record {
        placed = record { same = P.same; below = puts-below x x' p e _ h P; inside = record { low = P.low; high = omega (arith, P.high, P.same); few = few } };
        begins = refl;
        kept = λ β t q c r.
            let z : end - 0 ≡ end = omega arith in
            let J = judge β t true lo hi R q c in
            let S : saturate_sum t ≡ t = ok-kept β t (sym J) in
            let w : take (end - 0) (drop 0 y) ≡ sum_words β (saturate_sum t) [] = ap (λ (m : ℕ). take m y) z ∙ q in
            let l : length (take (end - 0) (drop 0 y)) ≤ words_room t = omega (arith, ap length w, saturated-room β t) in
            record {
              judged = J;
              stands = λ s. record { standing = puts-stands x x' p e _ h (omega arith) P ∙ w ∙ ap (λ (u : Sum). sum_words β u []) S; counted = c };
            };
      }

-- ---- what is made in the scratch

-- a sum that is written with room, judged and moved
pub written-kept : (β : Kind → ℕ → Range) (t : Sum) (y y' : List ℤ) (n end begin : ℕ) (x x' : List ℤ) (p : ℕ) (s : TreeSum) → Written β t y y' n end → Keeps y' n end begin x x' p s
    → p + words_room t ≤ length x → words_room t ≤ length y → Holds β (small_sum β t) t x' p s
written-kept β t y y' n end begin x x' p s W K r q =
    K.kept β t (W.written ∙ take_all (length y) (sum_words β (saturate_sum t) []) (omega (arith, saturated-room β t))) W.counted r

pub kept_at : (y y' : List ℤ) (n end begin : ℕ) (x x' : List ℤ) (p : ℕ) (s : TreeSum) → length y' ≡ length y → Keeps y' n end begin x x' p s → PlacedTree x x' y y' p begin s
kept_at y y' n end begin x x' p s l K = record { placed = K.placed; scratch = l; begins = K.begins }

-- z times a sum
pub scale-moved : (z : ℤ) (a : TreeSum) (x x' y y' : List ℤ) (p m end : ℕ) (s : TreeSum) → Inside x p a
    → Makes (scaled z) x p a.terms y y' 0 m end → Keeps y' m end a.begin x x' p s → ScalesSum z a x x' y y' p s
unfolding scaled
scale-moved z a x x' y y' p m end s I M K =
    record {
      placed-tree = kept_at y y' m end a.begin x x' p s M.same K;
      scales = λ β t S r q. written-kept β (scale_sum z t) y y' m end a.begin x x' p s (made β t S) K (omega (arith, size_scale z t)) (omega (arith, size_scale z t));
    }
  where
    made : (β : Kind → ℕ → Range) (t : Sum) → Stands β t x p a → Written β (scale_sum z t) y y' m end
    made β t S =
        let R = M.made β t (drop a.end x) S.counted (with_rest β t x p a.end I.low I.high S.standing) in
        record { same = M.same; high = M.high; written = R.0; counted = R.1 ∙ count-saturated (scale_sum z t) }

-- two sums added
atom-some : (a : Atom) → 1 ≤ atom_size a
unfolding atom_size
atom-some (Atom.var k n) = omega arith
atom-some (Atom.op o u d) = omega arith

count-size : (t : Sum) → term_count t ≤ sum_size t
unfolding term_count sum_size
count-size (Sum.const k) = omega arith
count-size (Sum.term c a t) = omega (arith, count-size t, atom-some a)

module _ (b a : TreeSum) (x y y' : List ℤ) (p m end : ℕ) (I : Inside x p b) (J : Inside x b.end a) (O : Rooms x y p) (M : Merges (blended (pos 1)) x b.end a.terms x p b.terms y y' 0 m end) where
  both-made : (β : Kind → ℕ → Range) (t u : Sum) → FoldedS β t → FoldedS β u → small_sum β u ≡ true → Stands β u x p b → Stands β t x b.end a → Written β (add_sums t u) y y' m end
  both-made β t u f g k S R =
      let Q = M.made β t u (drop a.end x) (drop b.end x) R.counted S.counted (with_rest β t x b.end a.end J.low J.high R.standing) (with_rest β u x p b.end I.low I.high S.standing) in
      let e = blend-once β t u f g k in
      record {
        same = M.same;
        high = M.high;
        written = Q.0 ∙ ap (λ (v : Sum). take (length y) (sum_words β v [])) e;
        counted = Q.1 ∙ ap term_count e ∙ count-saturated (add_sums t u);
      }

  pub add-moved : (x' : List ℤ) (s : TreeSum) → Keeps y' m end a.begin x x' p s → AddsSums b a x x' y y' p s
  add-moved x' s K =
      record {
        placed-tree = kept_at y y' m end a.begin x x' p s M.same K;
        adds = λ β t u f g k S R r q. written-kept β (add_sums t u) y y' m end a.begin x x' p s (both-made β t u f g k S R) K (omega (arith, size-add t u)) (omega (arith, size-add t u));
      }

  -- more terms than the functions on words take are no sum that has its room
  pub add-not : max_terms < m → AddsSums b a x x y y' p (no_sum a.begin p)
  add-not h =
      record {
        placed-tree = record {
          placed = record { same = refl; below = refl; inside = record { low = omega arith; high = O.place; few = omega arith } };
          scratch = M.same;
          begins = refl;
        };
        adds = λ β t u f g k S R r q. absurd (omega (arith, (both-made β t u f g k S R).counted, count-size (add_sums t u), size-add t u, O.few, h));
      }

-- ---- all rules applied

-- the rules have enough fuel for a sum that has its room
pub fuel-enough : (t : Sum) (c : ℕ) → c ≤ max_divisor → division_room t ≤ max_terms → weight t c < tree_fuel
unfolding fuel_for
fuel-enough t c h k = omega (arith, weight-enough t c)

pub divide-moved : (op : ℕ) (c : ℤ) (a : TreeSum) (x x' y y' : List ℤ) (p : ℕ) (small : Bool) (terms end : ℕ) → Divisor c → Inside x p a → Rooms x y p → length y' ≡ length y
    → Rewrites op p a.terms c tree_fuel x x' (length y) small terms end → DividesSum op c a x x' y y' p (record { small = small; begin = a.begin; terms = terms; end = end })
divide-moved op c a x x' y y' p small terms end D I O L R =
    record {
      placed-tree = record {
        placed = record { same = R.same; below = R.below; inside = record { low = R.low; high = omega (arith, R.high, R.same); few = R.few } };
        scratch = L;
        begins = refl;
      };
      divides = λ β o t e F S r q.
          let here = with_rest β t x p a.end I.low I.high S.standing in
          let w = fuel-enough t (nat_abs c) D.1 (omega (arith, O.few)) in
          let room : p + rules_room t (nat_abs c) 40 ≤ length x = omega (arith, flag-le (keeps_all (nat_abs c) t)) in
          record {
            judged = R.outcome β o t (drop a.end x) 40 e S.counted here F w D.1 room q;
            stands = λ s.
                let v = R.standing β o t (drop a.end x) 40 e S.counted here F w D.1 room q s in
                record { standing = v.0; counted = v.1 };
          };
    }
