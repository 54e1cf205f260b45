-- Words copied from the room's row to work in, all at once. Assumes nothing.
use Rattle.std.proofs.Common.{ℕ, ◌+◌, ◌*◌, ◌-◌, ◌<◌, ◌≤◌, ◌≡◌, List, length, get_or, take, drop, sym, ap, subst, ◌∙◌, arith}
use Rattle.std.proofs.lemmas.List.{places}
use mathlib.Core.Logic.{◌⊎◌, inl, inr, ⊎_elim}
use native.Mathlib.Decide.{dec_lt}
use borrow.Rule.Slice.PartMut.{put_mid}
use Rattle.tree_planner.specs.Words.{value_of, Good, words_at, weight_at}
use Rattle.tree_planner.specs.Rows.{table_words, room_words, Space, Row}
use Rattle.tree_planner.proofs.Adding.{word}

module _ (T ys : List ℕ) (a k : ℕ) (l : a + k ≤ length T) (m : length ys ≡ k) where
  mid-long : length (put_mid a k T ys) ≡ length T
  mid-long = grind (arith, places)

  mid-here : (x : ℕ) → x < k → get_or (put_mid a k T ys) (a + x) 0 ≡ get_or ys x 0
  mid-here x h = grind (arith, places)

  mid-before : (x : ℕ) → x < a → get_or (put_mid a k T ys) x 0 ≡ get_or T x 0
  mid-before x h = grind (arith, places)

  mid-after : (x : ℕ) → a + k ≤ x → get_or (put_mid a k T ys) x 0 ≡ get_or T x 0
  mid-after x h = grind (arith, places)

part-at : (room : List ℕ) (f w x : ℕ) → f + w ≤ length room → x < w → get_or (take w (drop f room)) x 0 ≡ get_or room (f + x) 0
part-at room f w x l h = grind (arith, places)

part-long : (room : List ℕ) (f w : ℕ) → f + w ≤ length room → length (take w (drop f room)) ≡ w
part-long room f w l = grind (arith, places)

-- entries of the same four words
same-words : (T S : List ℕ) (e f : ℕ) → ((i : ℕ) → i < 4 → get_or T (e * 4 + i) 0 ≡ get_or S (f * 4 + i) 0) → words_at T e ≡ words_at S f
same-words T S e f h =
    four _ _ _ _ _ _ _ _ (ap (λ (y : ℕ). get_or T y 0) p ∙ h 0 (omega arith) ∙ ap (λ (y : ℕ). get_or S y 0) q) (h 1 (omega arith)) (h 2 (omega arith)) (h 3 (omega arith))
  where
    p : e * 4 ≡ e * 4 + 0
    p = omega arith

    q : f * 4 + 0 ≡ f * 4
    q = omega arith

    four : (a b c d a' b' c' d' : ℕ) → a ≡ a' → b ≡ b' → c ≡ c' → d ≡ d' → word a b c d ≡ word a' b' c' d'
    four a b c d a' b' c' d' p q r s = cc

module _ (T room ys : List ℕ) (row columns k : ℕ) (S : Space T table_words) (R : Space room room_words) (low : row < 512) (few : columns ≤ 64)
    (k-is : k ≡ columns * 4) (ys-is : ys ≡ take (2048 + columns * 4 - 2048) (drop 2048 room)) where
  abbrev T' : List ℕ
  T' = put_mid (row * 64 * 4) k T ys

  w-is : 2048 + columns * 4 - 2048 ≡ columns * 4
  w-is = omega arith

  ys-part : ys ≡ take (columns * 4) (drop 2048 room)
  ys-part = ys-is ∙ ap (λ (w : ℕ). take w (drop 2048 room)) w-is

  fits : row * 64 * 4 + k ≤ length T
  fits = omega (arith, S.long)

  ys-long : length ys ≡ k
  ys-long = ap length ys-part ∙ part-long room 2048 (columns * 4) (omega (arith, R.long)) ∙ sym k-is

  here : (x : ℕ) → x < columns → words_at T' (row * 64 + x) ≡ words_at room (8 * 64 + x)
  here x l =
      same-words T' room (row * 64 + x) (8 * 64 + x)
      (λ i h.
      let p : (row * 64 + x) * 4 + i ≡ row * 64 * 4 + (x * 4 + i) = omega arith in
      let q : 2048 + (x * 4 + i) ≡ (8 * 64 + x) * 4 + i = omega arith in
      ap (λ (y : ℕ). get_or T' y 0) p
      ∙ mid-here T ys (row * 64 * 4) k fits ys-long (x * 4 + i) (omega arith)
      ∙ ap (λ (zs : List ℕ). get_or zs (x * 4 + i) 0) ys-part
      ∙ part-at room 2048 (columns * 4) (x * 4 + i) (omega (arith, R.long)) (omega arith)
      ∙ ap (λ (y : ℕ). get_or room y 0) q)

  outside : (e : ℕ) → (e < row * 64) ⊎ (row * 64 + columns ≤ e) → words_at T' e ≡ words_at T e
  outside e h =
      same-words T' T e e
      (λ i g.
      ⊎_elim (λ (b : e < row * 64). mid-before T ys (row * 64 * 4) k fits ys-long (e * 4 + i) (omega arith))
      (λ (b : row * 64 + columns ≤ e). mid-after T ys (row * 64 * 4) k fits ys-long (e * 4 + i) (omega arith))
      h)

  good : (e : ℕ) → Good (words_at T' e)
  good e =
      elim (dec_lt e (row * 64)) [
        | yes b ↦ subst Good (sym (outside e (inl b))) (S.sound.good e)
        | no n ↦
            elim (dec_lt e (row * 64 + columns)) [
              | yes b ↦
                  let p : row * 64 + (e - row * 64) ≡ e = omega arith in
                  subst (λ (x : ℕ). Good (words_at T' x)) p
                  (subst Good (sym (here (e - row * 64) (omega arith))) (R.sound.good (8 * 64 + (e - row * 64))))
              | no m ↦ subst Good (sym (outside e (inr (omega arith)))) (S.sound.good e)
            ]
      ]

  pub copied : Row T T' row columns (λ x. weight_at room (8 * 64 + x))
  copied =
      record {
        long = mid-long T ys (row * 64 * 4) k fits ys-long;
        sound = record { good = good };
        right = λ x l. ap value_of (here x l);
        rest = λ x l m. outside (row * 64 + x) (inr (omega arith));
        other =
            λ y x n m.
            elim (dec_lt y row) [
              | yes b ↦ outside (y * 64 + x) (inl (omega arith))
              | no b ↦ let r : row < y = omega arith in outside (y * 64 + x) (inr (omega arith))
            ];
      }
