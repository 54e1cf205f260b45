-- What is kept of the stations read so far. Assumes nothing.
use Rattle.std.specs.Prelude.{ℕ, ◌+◌, ◌*◌, ◌/◌, ◌%◌, ◌≤◌, ◌<◌, min, ◌≡◌, Bool, true, ◌&&◌, cond, ◌⊎◌, List, [], ◌∷◌, leb, ltb, length, get_or, Ok, Err, Result}
use Rattle.refusal.specs.Judge.{Rule, rule, unless, judge}
use Rattle.refusal.specs.declared.Refusal.{Refusal}
use Rattle.refusal.specs.declared.Refusal.TheVariants.{PaddedSize, ShortBuffer}
use Rattle.refusal.specs.Judge.{Verdict}
use Rattle.radix.specs.Radix.{max_count}
use Rattle.shape.specs.Shape.{good_shape}
use Rattle.shape.specs.declared.Shape.{Shape}
use Rattle.layout.specs.Layout.{good_layout, padded_of}
use Rattle.plan.specs.Answer.{max_stations}
use Rattle.route.specs.Same.{move_of}
use Rattle.route.specs.Stations.{max_layouts, station_at, layout_at, layouts_kept, sizes_kept}
use Rattle.route.specs.LayoutRepeats.{all_different, repeat_in, repeat_rule}
use Rattle.route.specs.Route.{good_limits, numbers_kept, route_rules, route_answer, route_of}
use Rattle.route.specs.declared.Route.{Route}
use Rattle.route.specs.declared.Station.{Station}
use Rattle.route.specs.declared.load.Loaded.{Loaded}

-- how many records to read, n: none where the shape breaks its limits or there are too many stations
pub record Reads (s : Shape) (number len n : ℕ) : Type 0 where
  pub few : n ≤ max_stations
  pub held : n ≤ len
  pub shape : 0 < n → good_shape s ≡ true
  pub all : good_shape s ≡ true → number ≤ max_stations → n ≡ min number len

-- a station whose layouts keep their rule
pub record Fit (rank : ℕ) (x : Station) : Type 0 where
  pub few : x.count ≤ max_layouts
  pub good : (a : ℕ) → a < x.count → good_layout rank (layout_at x a) ≡ true

-- n entries from `at` on are f 0, f 1, .., and the others are as before
pub record Filled (before after : List ℕ) (at n : ℕ) (f : ℕ → ℕ) : Type 0 where
  pub long : length after ≡ length before
  pub inside : (t : ℕ) → t < n → get_or after (at + t) 0 ≡ f t
  pub outside : (k : ℕ) → (k < at) ⊎ (at + n ≤ k) → get_or after k 0 ≡ get_or before k 0

-- the station that feeds station i: its parent where that is an earlier one, else station i itself
abbrev pub feeding : ℕ → Station → ℕ
feeding i x = cond (ltb x.parent i) x.parent i

-- a padded size, exact up to 2^40 and 2^40 + 1 for anything above
abbrev pub capped_size : Shape → Station → ℕ → ℕ
capped_size s x a = min (padded_of s (layout_at x a)) (max_count + 1)

-- the moves from place t / 8 of a station to place t % 8 of another, and 0 past their counts
abbrev pub move_at : Station → Station → ℕ → ℕ
move_at x y t =
    cond (ltb (t / max_layouts) x.count && ltb (t % max_layouts) y.count) (move_of (layout_at x (t / max_layouts)) (layout_at y (t % max_layouts))) 0

-- the first of two verdicts, in their order, that refuses
abbrev pub first_refusal : Verdict → Verdict → Verdict
first_refusal (Ok _) w = w
first_refusal (Err r) w = Err r

-- what the list of station i says by itself: refused at its first repeat
abbrev pub station_repeat : Station → ℕ → Verdict
station_repeat x i = unless (all_different x) (repeat_in x i) (Ok tt)

-- the tables hold what the first n stations give
pub record Entered (s : Shape) (ys : List Station) (n : ℕ) (h : Loaded) : Type 0 where
  pub parents : (i : ℕ) → i + 1 < n → get_or h.parents (i + 1) 0 ≡ (station_at ys (i + 1)).parent
  pub counts : (i : ℕ) → i < n → get_or h.counts i 0 ≡ (station_at ys i).count
  pub sizes : (i a : ℕ) → i < n → a < (station_at ys i).count → get_or h.sizes (i * 8 + a) 0 ≡ capped_size s (station_at ys i) a
  pub moved :
      (i a b : ℕ) →
      i < n →
      a < (station_at ys (feeding i (station_at ys i))).count →
      b < (station_at ys i).count →
      get_or h.moved ((i * 8 + a) * 8 + b) 0
      ≡ move_of (layout_at (station_at ys (feeding i (station_at ys i))) a) (layout_at (station_at ys i) b)

-- the tables' numbers, whatever the stations were
pub record Sound (h : Loaded) : Type 0 where
  pub parents : (i : ℕ) → get_or h.parents (i + 1) 0 < i + 1
  pub counts : (i : ℕ) → get_or h.counts i 0 ≤ max_layouts
  pub sizes : (k : ℕ) → get_or h.sizes k 0 ≤ max_count + 1
  pub ones : (k : ℕ) → get_or h.moved k 0 ≤ 1

-- what reading station i, which `from` feeds, asks: as long as all stations keep their rules 2 and 3, so does `from`
pub record Ready (s : Shape) (h : Loaded) (i : ℕ) (x from : Station) : Type 0 where
  pub shape : good_shape s ≡ true
  pub few : i < max_stations
  pub sound : Sound h
  pub fit : h.numbers_kept ≡ true → h.layouts_kept ≡ true → Fit s.rank x → Fit s.rank from

-- the first n stations are read
pub record Holds (s : Shape) (ys : List Station) (n : ℕ) (h : Loaded) : Type 0 where
  pub sound : Sound h
  pub numbers : h.numbers_kept ≡ numbers_kept ys n
  pub layouts : numbers_kept ys n ≡ true → h.layouts_kept ≡ layouts_kept s ys n
  pub repeat : numbers_kept ys n ≡ true → layouts_kept s ys n ≡ true → h.repeat ≡ judge (repeat_rule ys n ∷ [])
  pub sizes : numbers_kept ys n ≡ true → layouts_kept s ys n ≡ true → h.sizes_kept ≡ sizes_kept s ys n
  pub entered : numbers_kept ys n ≡ true → layouts_kept s ys n ≡ true → Entered s ys n h

-- nothing is read yet
pub record Starts (h : Loaded) : Type 0 where
  pub none : (s : Shape) (ys : List Station) → Holds s ys 0 h

-- what reading n records of a list asks
pub record Loads (s : Shape) (ys : List Station) (n : ℕ) (h : Loaded) : Type 0 where
  pub few : n ≤ max_stations
  pub held : n ≤ length ys
  pub shape : 0 < n → good_shape s ≡ true
  pub none : Holds s ys 0 h

-- the station x, which `from` feeds, is read after the first i
pub record Adds (s : Shape) (h : Loaded) (i : ℕ) (x from : Station) (r : Loaded) : Type 0 where
  pub more :
      (ys : List Station) → Holds s ys i h → station_at ys i ≡ x → station_at ys (feeding i x) ≡ from → Holds s ys (i + 1) r

-- the rules 4 and 9: whether the padded sizes keep their rule, and the length of the list
abbrev pub size_rules : Bool → ℕ → ℕ → List Rule
size_rules sizes len number = rule sizes PaddedSize ∷ rule (leb number len) ShortBuffer ∷ []

-- what the rules 1 to 9 say of every list of length len of which this was read
pub record Judges (s : Shape) (h : Loaded) (len number cells moves : ℕ) (v : Verdict) : Type 0 where
  pub limits : v ≡ Ok tt → good_limits number cells moves ≡ true
  pub judged :
      (ys : List Station) (n : ℕ) →
      length ys ≡ len →
      Reads s number len n →
      Holds s ys n h →
      v ≡ judge (route_rules s ys number cells moves)

-- what the whole call says of it
pub record Answers (s : Shape) (h : Loaded) (len number cells moves : ℕ) (r : Result Route Refusal) : Type 0 where
  pub answer :
      (ys : List Station) (n : ℕ) →
      length ys ≡ len →
      Reads s number len n →
      Holds s ys n h →
      route_answer r ≡ route_of s ys number cells moves
