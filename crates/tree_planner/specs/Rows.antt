-- Rows of 64 entries in a table, one for each number of moves left. Assumes nothing.
use Rattle.std.specs.Prelude.{ℕ, suc, ◌+◌, ◌*◌, ◌-◌, ◌≤◌, ◌<◌, min, ◌≡◌, List, length, leb}
use Rattle.plan.specs.Value.{pick}
use Rattle.tree_plan.specs.Merge.{lowest}
use Rattle.tree_plan.specs.Weight.{far_weight}
use Rattle.tree_planner.specs.declared.Weight.{Weight}
use Rattle.tree_planner.specs.Words.{words_at, weight_at, Sound}

-- the words of the table, a row for each place of each station, and of the room, one for each place and one to work in
abbrev pub table_words : ℕ
table_words = 131072

abbrev pub room_words : ℕ
room_words = 2304

-- a table of that many words
pub record Space (T : List ℕ) (words : ℕ) : Type 0 where
  pub sound : Sound T
  pub long : length T ≡ words

-- how many entries of a row are used
pub record Columns (columns : ℕ) : Type 0 where
  pub some : 1 ≤ columns
  pub few : columns ≤ 64

-- entry e holds w, the others what they held
pub record Stored (T T' : List ℕ) (e : ℕ) (w : Weight) : Type 0 where
  pub long : length T' ≡ length T
  pub here : words_at T' e ≡ w
  pub other : (x : ℕ) → (x ≡ e → ⊥) → words_at T' x ≡ words_at T x

-- entry e weighs w, the others hold what they held
pub record Entry (T T' : List ℕ) (e w : ℕ) : Type 0 where
  pub long : length T' ≡ length T
  pub sound : Sound T'
  pub here : weight_at T' e ≡ w
  pub other : (x : ℕ) → (x ≡ e → ⊥) → words_at T' x ≡ words_at T x

-- the first k entries of a row weigh what g says, the others hold what they held
pub record Row (T T' : List ℕ) (row k : ℕ) (g : ℕ → ℕ) : Type 0 where
  pub long : length T' ≡ length T
  pub sound : Sound T'
  pub right : (x : ℕ) → x < k → weight_at T' (row * 64 + x) ≡ g x
  pub rest : (x : ℕ) → k ≤ x → x < 64 → words_at T' (row * 64 + x) ≡ words_at T (row * 64 + x)
  pub other : (y x : ℕ) → (y ≡ row → ⊥) → x < 64 → words_at T' (y * 64 + x) ≡ words_at T (y * 64 + x)

-- the same for `count` rows from row `base` on; the rows before and after them hold what they held
pub record Rows (T T' : List ℕ) (base count k : ℕ) (g : ℕ → ℕ → ℕ) : Type 0 where
  pub long : length T' ≡ length T
  pub sound : Sound T'
  pub right : (a x : ℕ) → a < count → x < k → weight_at T' ((base + a) * 64 + x) ≡ g a x
  pub before : (y x : ℕ) → y < base → x < 64 → words_at T' (y * 64 + x) ≡ words_at T (y * 64 + x)
  pub after : (y x : ℕ) → base + count ≤ y → x < 64 → words_at T' (y * 64 + x) ≡ words_at T (y * 64 + x)

-- the room's rows for a parent's places hold what they held
pub record Kept (room room' : List ℕ) : Type 0 where
  pub long : length room' ≡ length room
  pub sound : Sound room'
  pub same : (a x : ℕ) → a < 8 → x < 64 → words_at room' (a * 64 + x) ≡ words_at room (a * 64 + x)

-- a row's weight f moves before x, and y more
abbrev pub later : List ℕ → ℕ → ℕ → ℕ → ℕ → ℕ
later T row f y x = weight_at T (row * 64 + (x - f)) + y

-- row `to` of a room lowered to that
unfoldable pub lowered : List ℕ → ℕ → List ℕ → ℕ → ℕ → ℕ → ℕ → ℕ
lowered room to T row f y x =
    pick (leb f x) (min (weight_at room (to * 64 + x)) (later T row f y x)) (weight_at room (to * 64 + x))

-- k moves left: j of them for row a of the room, the others for g
unfoldable pub together : (ℕ → ℕ) → List ℕ → ℕ → ℕ → ℕ
together g room a k = lowest far_weight (suc k) (λ j. g (k - j) + weight_at room (a * 64 + j))
