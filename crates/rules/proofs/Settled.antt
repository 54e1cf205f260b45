-- A sum judged and settled, held and joined. Assumes nothing.
use mathlib.Core.Path.{◌≡◌, refl, sym, ap, ◌∙◌, subst}
use mathlib.Core.Bool.{Bool, true, false}
use mathlib.Core.List.{List, []}
use Prim.Native.Nat.{ℕ, ◌+◌, ◌-◌, ◌<◌, ◌≤◌}
use native.Mathlib.Omega.{arith}
use lib.IntN.{ℤ, pos}
use lib.ListN.{length, drop, take}
use lib.Seq.{take_all}
use Rattle.expression.specs.Expression.{Kind, Range}
use Rattle.folding.specs.Sum.{Sum}
use Rattle.folding.specs.Working.{small_sum}
use Rattle.words.specs.Words.{sum_words}
use Rattle.words.specs.Merged.{blended}
use Rattle.words.specs.Promises.{Puts, Merges, Reckons}
use Rattle.words.proofs.Tests.{clash}
use Rattle.rules.specs.Outcome.{max_terms}
use Rattle.rules.specs.Rewriting.{Judges, Written, Settles, Holds, Joins}
use Rattle.rules.proofs.Standing.{sum-rest, front-stands, puts-below, puts-end, puts-stand, part-take, kept-part, kept-front}

-- the part from 0 on is the front
front-part : (made : List ℤ) (to : ℕ) → take (to - 0) (drop 0 made) ≡ take to made
front-part made to = let e : to - 0 ≡ to = omega arith in ap (λ (n : ℕ). take n made) e

-- nothing was written
pub unwritten : (w : List ℤ) (p : ℕ) → p ≤ length w → Written w w p 0 p
unwritten w p h = record { same = refl; below = refl; low = omega arith; high = h; few = omega arith }

pub judges : (w : List ℤ) (p n : ℕ) (ok : Bool) (l h : ℤ) → Reckons w p n (pos 0) (pos 0) ok l h → Judges w p n ok
unfolding small_sum
judges w p n ok l h r = record { is = λ β t x e f. r.is β t x e f }

module _ (made : List ℤ) (n to : ℕ) (w : List ℤ) (p : ℕ) (room : p ≤ length w) where
  -- too many terms
  pub settles-many : max_terms < n → Settles made n to w w p false 0 p
  settles-many h = record { written = unwritten w p room; settled = λ β t e f g k. absurd (omega arith) }

  -- made up to `to` is made from 0 on
  from_front : (β : Kind → ℕ → Range) (t : Sum) → take to made ≡ sum_words β t [] → drop 0 made ≡ sum_words β t (drop to made)
  from_front β t e = front-stands made to (sum_words β t []) e ∙ sym (sum-rest β t (drop to made))

  pub settles-passed : Judges made 0 n false → Settles made n to w w p false 0 p
  settles-passed j =
      record {
        written = unwritten w p room;
        settled = λ β t e f g k. record { judged = j.is β t (drop to made) e (from_front β t g); standing = λ i. clash i; counted = λ i. clash i };
      }

  pub settles-kept : (w' : List ℤ) (r : ℕ) → n ≤ max_terms → Judges made 0 n true → Puts w w' p r (take (to - 0) (drop 0 made)) → Settles made n to w w' p true n r
  settles-kept w' r m j q0 =
      let q = subst (λ (l : List ℤ). Puts w w' p r l) (front-part made to) q0 in
      record {
        written = record { same = q.same; below = puts-below w w' p r (take to made) room q; low = q.low; high = q.high; few = m };
        settled = λ β t e f g k. record {
          judged = j.is β t (drop to made) e (from_front β t g);
          standing = λ i. puts-stand w w' p r (take to made) room (subst (λ (l : List ℤ). p + length l ≤ length w) (sym g) k) q ∙ g;
          counted = λ i. e;
        };
      }

-- two parts written one after the other
pub holds : (made : List ℤ) (to restTo : ℕ) (w w1 w2 : List ℤ) (p a r : ℕ) → to ≤ restTo → restTo ≤ length made → p ≤ length w
    → Puts w w1 p a (take (restTo - to) (drop to made)) → Puts w1 w2 a r (take (to - 0) (drop 0 made)) → Holds made to restTo w w2 p a
holds made to restTo w w1 w2 p a r h k i f g0 =
    let g = subst (λ (l : List ℤ). Puts w1 w2 a r l) (front-part made to) g0 in
    let ha : a ≤ length w1 = omega (arith, f.high, f.same) in
    let kb = puts-below w1 w2 a r (take to made) ha g in
    record {
      same = g.same ∙ f.same;
      below = kept-front w1 w2 p a f.low kb ∙ puts-below w w1 p a (take (restTo - to) (drop to made)) i f;
      low = f.low;
      high = f.high;
      both = λ rest front e1 e2 room.
          let er : take (restTo - to) (drop to made) ≡ rest = part-take to (restTo - to) restTo made (omega arith) ∙ e1 in
          let room1 : p + length (take (restTo - to) (drop to made)) ≤ length w = subst (λ (l : List ℤ). p + length l ≤ length w) (sym er) (omega arith) in
          let ea : a ≡ p + length rest = puts-end w w1 p a (take (restTo - to) (drop to made)) i room1 f ∙ ap (λ (l : List ℤ). p + length l) er in
          let room2 : a + length (take to made) ≤ length w1 = subst (λ (l : List ℤ). a + length l ≤ length w1) (sym e2) (omega (arith, f.same)) in
          let er2 : r ≡ a + length front = puts-end w1 w2 a r (take to made) ha room2 g ∙ ap (λ (l : List ℤ). a + length l) e2 in (
            ea,
            kept-part w1 w2 p a rest kb (puts-stand w w1 p a (take (restTo - to) (drop to made)) i room1 f ∙ er),
            part-take a (length front) r w2 er2 ∙ puts-stand w1 w2 a r (take to made) ha room2 g ∙ e2,
          );
    }

-- two sums blended, and settled
pub joins : (factor : ℤ) (w w' : List ℤ) (a n p m : ℕ) (o o' : List ℤ) (k at : ℕ) (small : Bool) (terms end : ℕ)
    → Merges (blended factor) w a n w p m o o' 0 k at → Settles o' k at w w' p small terms end → Joins factor w w' a n p m (length o) small terms end
joins factor w w' a n p m o o' k at small terms end b s =
    record {
      written = s.written;
      settled = λ β t u x y en em ea ep few room fit.
          let M = b.made β t u x y en em ea ep in
          s.settled β (blended factor t u) M.1 (subst (λ (i : ℕ). i ≤ max_terms) (sym M.1) few)
          (M.0 ∙ take_all (length o) (sum_words β (blended factor t u) []) room) fit;
    }
