-- Rows filled entry by entry, and several rows one after the other. Assumes nothing.
use Prim.Native.Nat.{ℕ, suc, ◌+◌, ◌*◌, ◌-◌, ◌≤◌, ◌<◌, min}
use mathlib.Core.Path.{◌≡◌, refl, sym, ap, subst, ◌∙◌}
use mathlib.Core.Bool.{Bool, true, false}
use mathlib.Core.List.{List}
use native.Mathlib.Omega.{arith}
use native.Mathlib.Numerals.{add-one}
use native.Mathlib.Decide.{ℕ_discrete}
use borrow.Author.Tests.{le-leb, lt-leb}
use lib.Dec.{leb, ltb}
use Rattle.plan.specs.Value.{pick}
use Rattle.tree_plan.specs.Merge.{lowest}
use Rattle.tree_plan.specs.Weight.{far_weight}
use Rattle.tree_plan.proofs.Lowest.{lowest-cap, lowest-agree, lowest-cut}
use Rattle.tree_planner.specs.declared.Weight.{Weight}
use Rattle.tree_planner.specs.Words.{value_of, Worded, Good, words_at, weight_at, Sound}
use Rattle.tree_planner.specs.Rows.{Stored, Entry, Row, Rows, Kept, later, lowered, together}
use Rattle.tree_planner.proofs.Adding.{sums, sum_more, sums_more, smaller-second, smaller-first}

pub good-at : (T : List ℕ) (e : ℕ) (w : Weight) → Sound T → w ≡ words_at T e → Good w
good-at T e w S q = subst Good (sym q) (S.good e)

-- One entry.
pub entry-stored : (T T' : List ℕ) (e : ℕ) (w : Weight) (v : ℕ) → Sound T → Good w → value_of w ≡ v → Stored T T' e w → Entry T T' e v
entry-stored T T' e w v S g q s =
    record {
      long = s.long;
      sound =
          record {
            good =
                λ x.
                elim (ℕ_discrete x e) [
                  | yes z ↦ subst (λ (y : ℕ). Good (words_at T' y)) (sym z) (subst Good (sym s.here) g)
                  | no z ↦ subst Good (sym (s.other x z)) (S.good x)
                ];
          };
      here = ap value_of s.here ∙ q;
      other = s.other;
    }

entry-same : (T : List ℕ) (e v : ℕ) → Sound T → weight_at T e ≡ v → Entry T T e v
entry-same T e v S q = record { long = refl; sound = S; here = q; other = λ x z. refl }

module _ (T : List ℕ) (e : ℕ) (x y : Weight) (S : Sound T) where
  abbrev pub lesser : ℕ
  lesser = min (weight_at T e) (value_of x + value_of y)

  -- the top words tell that the sum is not less
  pub entry-above : (words_at T e).top < x.top + y.top → Entry T T e lesser
  entry-above h = entry-same T e lesser S (sum_more (words_at T e) x y (S.good e).words h)

  -- all the words tell it
  pub entry-up-to : (l : Weight) → l ≡ words_at T e → value_of l ≤ value_of (sums x y) → Entry T T e lesser
  entry-up-to l p h = entry-same T e lesser S (sums_more (words_at T e) x y (subst (λ (z : Weight). value_of z ≤ value_of (sums x y)) p h))

  module _ (w l : Weight) (W : Worded w) (q : value_of w ≡ value_of x + value_of y) (p : l ≡ words_at T e) (r : Bool)
      (d : r ≡ ltb (value_of w) (value_of l)) where
    the-test : r ≡ ltb (value_of w) (weight_at T e)
    the-test = d ∙ ap (λ (z : Weight). ltb (value_of w) (value_of z)) p

    pub entry-lower : (T' : List ℕ) → r ≡ true → Stored T T' e w → Entry T T' e lesser
    entry-lower T' t s =
        let both = smaller-second (words_at T e) w r (S.good e) W the-test t in
        entry-stored T T' e w lesser S both.1 (both.0 ∙ ap (min (weight_at T e)) q) s

    pub entry_kept : r ≡ false → Entry T T e lesser
    entry_kept t = entry-same T e lesser S (smaller-first (words_at T e) w r the-test t ∙ ap (min (weight_at T e)) q)

-- One row.
module _ (T : List ℕ) (row : ℕ) (g : ℕ → ℕ) where
  pub row-start : (k : ℕ) → Sound T → ((x : ℕ) → x < k → weight_at T (row * 64 + x) ≡ g x) → Row T T row k g
  row-start k S h = record { long = refl; sound = S; right = h; rest = λ x l m. refl; other = λ y x n l. refl }

  pub row-none : Sound T → Row T T row 0 g
  row-none S = row-start 0 S (λ x l. absurd (omega arith))

  module _ (T' : List ℕ) where
    pub row_next :
        (T'' : List ℕ) (k v : ℕ) → k < 64 → Row T T' row k g → v ≡ g k → Entry T' T'' (row * 64 + k) v → Row T T'' row (k + 1) g
    row_next T'' k v l R q E =
        record {
          long = E.long ∙ R.long;
          sound = E.sound;
          right =
              λ x h.
              elim (ℕ_discrete x k) [
                | yes z ↦ subst (λ (y : ℕ). weight_at T'' (row * 64 + y) ≡ g y) (sym z) (E.here ∙ q)
                | no z ↦
                    ap value_of (E.other (row * 64 + x) (λ m. z (omega arith)))
                    ∙ R.right x (omega arith)
              ];
          rest = λ x h m. E.other (row * 64 + x) (λ z. omega arith) ∙ R.rest x (omega arith) m;
          other = λ y x n m. E.other (y * 64 + x) (λ z. n (omega arith)) ∙ R.other y x n m;
        }

    pub row-end : (k columns : ℕ) → k ≤ columns → columns ≤ k → Row T T' row k g → Row T T' row columns g
    row-end k columns l m = let z : k ≡ columns = omega arith in subst (λ (x : ℕ). Row T T' row x g) z

    pub row-agree : (k : ℕ) (h : ℕ → ℕ) → ((x : ℕ) → x < k → g x ≡ h x) → Row T T' row k g → Row T T' row k h
    row-agree k h q R =
        record { long = R.long; sound = R.sound; right = λ x l. R.right x l ∙ q x l; rest = R.rest; other = R.other }

    pub row-then : (T'' : List ℕ) (k : ℕ) (h : ℕ → ℕ) → Row T T' row k g → Row T' T'' row k h → Row T T'' row k h
    row-then T'' k h R Q =
        record {
          long = Q.long ∙ R.long;
          sound = Q.sound;
          right = Q.right;
          rest = λ x l m. Q.rest x l m ∙ R.rest x l m;
          other = λ y x n l. Q.other y x n l ∙ R.other y x n l;
        }

-- one entry of a row lowered
pub lowered-next :
    (room room' : List ℕ) (to : ℕ) (T : List ℕ) (row f y k : ℕ) (x z : Weight) →
    f ≤ k →
    k < 64 →
    Row room room' to k (lowered room to T row f y) →
    x ≡ words_at T (row * 64 + (k - f)) →
    value_of z ≡ y →
    min (weight_at room' (to * 64 + k)) (value_of x + value_of z) ≡ lowered room to T row f y k
unfolding lowered
lowered-next room room' to T row f y k x z l m R p q =
    ap (λ (w : ℕ). min w (value_of x + value_of z)) (ap value_of (R.rest k (omega arith) m))
    ∙ ap (λ (w : Weight). min (weight_at room (to * 64 + k)) (value_of w + value_of z)) p
    ∙ ap (λ (w : ℕ). min (weight_at room (to * 64 + k)) (weight_at T (row * 64 + (k - f)) + w)) q
    ∙ ap
    (λ (t : Bool). pick t (min (weight_at room (to * 64 + k)) (later T row f y k)) (weight_at room (to * 64 + k)))
    (sym (le-leb f k l))

pub lowered-start :
    (room : List ℕ) (to : ℕ) (T : List ℕ) (row f y x : ℕ) → x < f → weight_at room (to * 64 + x) ≡ lowered room to T row f y x
unfolding lowered
lowered-start room to T row f y x l =
    ap (λ (t : Bool). pick t (min (weight_at room (to * 64 + x)) (later T row f y x)) (weight_at room (to * 64 + x)))
    (sym (lt-leb f x l))

-- a row that is the least of b functions, lowered to one more
pub lowest-next :
    (T T' T'' : List ℕ) (to columns b : ℕ) (F : ℕ → ℕ → ℕ) (S : List ℕ) (row f y : ℕ) →
    ((x : ℕ) → x < columns → F x b ≡ pick (leb f x) (later S row f y x) far_weight) →
    Row T T' to columns (λ x. lowest far_weight b (F x)) →
    Row T' T'' to columns (lowered T' to S row f y) →
    Row T T'' to columns (λ x. lowest far_weight (b + 1) (F x))
unfolding lowest lowered
lowest-next T T' T'' to columns b F S row f y q R Q =
    row-then T to (λ x. lowest far_weight b (F x)) T' T'' columns (λ x. lowest far_weight (b + 1) (F x)) R
    (row-agree T' to (lowered T' to S row f y) T'' columns (λ x. lowest far_weight (b + 1) (F x)) each Q)
  where
    one : (t : Bool) (o z v : ℕ) → o ≤ far_weight → v ≡ pick t z far_weight → pick t (min o z) o ≡ min o v
    one true o z v l e = omega arith
    one false o z v l e = omega arith

    each : (x : ℕ) → x < columns → lowered T' to S row f y x ≡ lowest far_weight (b + 1) (F x)
    each x l =
        rw (add-one b)
        (one (leb f x) (weight_at T' (to * 64 + x)) (later S row f y x) (F x b)
        (subst (λ (o : ℕ). o ≤ far_weight) (sym (R.right x l)) (lowest-cap far_weight b (F x)))
        (q x l)
        ∙ ap (λ (o : ℕ). min o (F x b)) (R.right x l))

pub lowest_start :
    (T T' : List ℕ) (to columns : ℕ) (F : ℕ → ℕ → ℕ) (w : Weight) →
    value_of w ≡ far_weight →
    Row T T' to columns (λ x. value_of w) →
    Row T' T' to columns (λ x. lowest far_weight 0 (F x))
unfolding lowest
lowest_start T T' to columns F w e R = row-start T' to (λ x. lowest far_weight 0 (F x)) columns R.sound (λ x l. R.right x l ∙ e)

pub lowest-end :
    (T T' : List ℕ) (to columns b count : ℕ) (F : ℕ → ℕ → ℕ) →
    b ≤ count →
    count ≤ b →
    Row T T' to columns (λ x. lowest far_weight b (F x)) →
    Row T T' to columns (λ x. lowest far_weight count (F x))
lowest-end T T' to columns b count F l m =
    let z : b ≡ count = omega arith in
    subst (λ (n : ℕ). Row T T' to columns (λ x. lowest far_weight n (F x))) z

-- Several rows.
module _ (T : List ℕ) (base k : ℕ) (g : ℕ → ℕ → ℕ) where
  pub rows_same :
      (count : ℕ) → Sound T → ((a x : ℕ) → a < count → x < k → weight_at T ((base + a) * 64 + x) ≡ g a x) → Rows T T base count k g
  rows_same count S h = record { long = refl; sound = S; right = h; before = λ y x l m. refl; after = λ y x l m. refl }

  pub rows_start : Sound T → Rows T T base 0 k g
  rows_start S = rows_same 0 S (λ a x l m. absurd (omega arith))

  module _ (T' : List ℕ) where
    pub rows_next :
        (T'' : List ℕ) (b row : ℕ) (h : ℕ → ℕ) →
        k ≤ 64 →
        row ≡ base + b →
        ((x : ℕ) → x < k → h x ≡ g b x) →
        Rows T T' base b k g →
        Row T' T'' row k h →
        Rows T T'' base (b + 1) k g
    rows_next T'' b row h few e q R Q =
        record {
          long = Q.long ∙ R.long;
          sound = Q.sound;
          right =
              λ a x l m.
              elim (ℕ_discrete a b) [
                | yes z ↦
                    let w : (base + a) * 64 + x ≡ row * 64 + x = omega arith in
                    ap (weight_at T'') w ∙ Q.right x m ∙ q x m ∙ ap (λ (y : ℕ). g y x) (sym z)
                | no z ↦
                    ap value_of (Q.other (base + a) x (λ w. z (omega arith)) (omega arith))
                    ∙ R.right a x (omega arith) m
              ];
          before = λ y x l m. Q.other y x (λ w. omega arith) m ∙ R.before y x l m;
          after = λ y x l m. Q.other y x (λ w. omega arith) m ∙ R.after y x (omega arith) m;
        }

    pub rows_end : (b count : ℕ) → b ≤ count → count ≤ b → Rows T T' base b k g → Rows T T' base count k g
    rows_end b count l m = let z : b ≡ count = omega arith in subst (λ (x : ℕ). Rows T T' base x k g) z

    pub rows_agree :
        (count : ℕ) (h : ℕ → ℕ → ℕ) → ((a x : ℕ) → a < count → x < k → g a x ≡ h a x) → Rows T T' base count k g → Rows T T' base count k h
    rows_agree count h q R =
        record {
          long = R.long;
          sound = R.sound;
          right = λ a x l m. R.right a x l m ∙ q a x l m;
          before = R.before;
          after = R.after;
        }

-- The room.
pub kept_same : (room : List ℕ) → Sound room → Kept room room
kept_same room S = record { long = refl; sound = S; same = λ a x l m. refl }

pub kept_then : (room room' room'' : List ℕ) → Kept room room' → Kept room' room'' → Kept room room''
kept_then room room' room'' K Q =
    record { long = Q.long ∙ K.long; sound = Q.sound; same = λ a x l m. Q.same a x l m ∙ K.same a x l m }

pub row_kept : (room room' : List ℕ) (k : ℕ) (g : ℕ → ℕ) → Row room room' 8 k g → Kept room room'
row_kept room room' k g R =
    record { long = R.long; sound = R.sound; same = λ a x l m. R.other a x (λ z. omega arith) m }

-- the moves split between a row of the table and a row of the room, j of them for the room at most
unfoldable pub split : List ℕ → List ℕ → ℕ → ℕ → ℕ → ℕ → ℕ
split T room row a x j = pick (leb j x) (later T row j (weight_at room (a * 64 + j)) x) far_weight

pub split-is :
    (T room room' : List ℕ) (row a k j : ℕ) (g : ℕ → ℕ) (y : Weight) (x : ℕ) →
    a < 8 →
    j < 64 →
    Row room room' 8 k g →
    y ≡ words_at room' (a * 64 + j) →
    split T room row a x j ≡ pick (leb j x) (later T row j (value_of y) x) far_weight
unfolding split
split-is T room room' row a k j g y x l m R e =
    ap (λ (w : Weight). pick (leb j x) (later T row j (value_of w) x) far_weight) (sym (e ∙ R.other a j (λ z. omega arith) m))

module _ (T room room₁ room₂ : List ℕ) (row a columns : ℕ) (low : a < 8) (few : columns ≤ 64) (g : ℕ → ℕ) (A : Row room room₁ 8 columns g)
    (B : Row room₁ room₂ 8 columns (λ x. lowest far_weight columns (split T room₁ row a x))) where
  pub split-kept : Kept room room₂
  split-kept = kept_then room room₁ room₂ (row_kept room room₁ columns g A) (row_kept room₁ room₂ columns _ B)

  -- every split
  pub split-row :
      (T' : List ℕ) →
      Row T T' row columns (λ x. weight_at room₂ (8 * 64 + x)) →
      Row T T' row columns (together (λ k. weight_at T (row * 64 + k)) room a)
  unfolding split together
  split-row T' =
      row-agree T row (λ x. weight_at room₂ (8 * 64 + x)) T' columns (together (λ k. weight_at T (row * 64 + k)) room a)
      (λ x l.
      B.right x l
      ∙ lowest-cut far_weight columns x (λ j. later T row j (weight_at room₁ (a * 64 + j)) x) l
      ∙ lowest-agree far_weight (suc x) (λ j. later T row j (weight_at room₁ (a * 64 + j)) x) (λ j. later T row j (weight_at room (a * 64 + j)) x)
      (λ j h. ap (λ (w : Weight). later T row j (value_of w) x) (A.other a j (λ z. omega arith) (omega arith))))

-- Scans for the least.
pub scan-first : (f : ℕ → ℕ) (r : ℕ) → r ≡ far_weight → r ≡ lowest far_weight 0 f
unfolding lowest
scan-first f r e = e

pub scan-next : (f : ℕ → ℕ) (b best w r : ℕ) → best ≡ lowest far_weight b f → w ≡ f b → r ≡ min best w → r ≡ lowest far_weight (b + 1) f
unfolding lowest
scan-next f b best w r e g h = rw add-one (omega arith)

pub scan-end : (f : ℕ → ℕ) (b n r : ℕ) → b ≡ n → r ≡ lowest far_weight b f → r ≡ lowest far_weight n f
scan-end f b n r e h = h ∙ ap (λ (x : ℕ). lowest far_weight x f) e

pub scan-row :
    (w : ℕ) (room : List ℕ) (a k r : ℕ) →
    r ≡ lowest far_weight (k + 1) (λ j. w + weight_at room (a * 64 + j)) →
    r ≡ together (λ x. w) room a k
unfolding together
scan-row w room a k r e = e ∙ ap (λ (x : ℕ). lowest far_weight x (λ j. w + weight_at room (a * 64 + j))) (add-one k)
