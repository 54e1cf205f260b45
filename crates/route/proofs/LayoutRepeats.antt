-- Laws of a layout that stands twice in a list: a station by itself, one station more, what the rule names, and what it
-- says where it is kept. Assumes nothing.
use Rattle.std.specs.Prelude.{Ok, Err}
use mathlib.Core.Path.{◌≡◌, refl, sym, ap, ◌∙◌, subst}
use mathlib.Core.Bool.{Bool, true, false, not}
use mathlib.Core.Logic.{⊎_elim}
use mathlib.Core.List.{List, [], ◌∷◌}
use Prim.Native.Nat.{ℕ, ◌+◌, ◌<◌, ◌≤◌}
use native.Mathlib.Omega.{arith}
use borrow.Author.Count.{below_more}
use borrow.Author.Tests.{not-true, not-false, leb-true, leb-false, le-leb, lt-leb}
use Rattle.radix.specs.Radix.{first}
use Rattle.radix.proofs.Lists.{le-or-lt}
use Rattle.radix.proofs.Tests.{first-is, first-none, first-true, first-before}
use Rattle.refusal.specs.Judge.{judge}
use Rattle.refusal.specs.declared.Refusal.TheVariants.{RepeatedLayout}
use Rattle.shape.specs.Repeats.{is_repeat, earlier_in, later_in, FirstRepeat, Different}
use Rattle.shape.proofs.FirstRepeats.{later-found, earlier-found, found-not-free, first_found, none-later, different-free, free-different, repeat-alike}
use Rattle.route.specs.Stations.{station_at}
use Rattle.route.specs.LayoutRepeats.{same_at, all_different, repeat_in, repeat_station, repeat_rule, FirstLayoutRepeat}
use Rattle.route.specs.Loading.{first_refusal, station_repeat}
use Rattle.route.specs.declared.Station.{Station}

-- a search of a station's list that stops at the places e and l, and one that finds nothing
pub repeat-named : (x : Station) (i : ℕ) {e l : ℕ} → FirstRepeat (same_at x) x.count e l → repeat_in x i ≡ RepeatedLayout i e l
repeat-named x i F = rw (earlier-found _ _ F, later-found _ _ F)

pub station-found : (x : Station) (i : ℕ) {e l : ℕ} → FirstRepeat (same_at x) x.count e l → Err (RepeatedLayout i e l) ≡ station_repeat x i
station-found x i F = rw (found-not-free _ _ F) (ap Err (sym (repeat-named x i F)))

pub station-free : (x : Station) (i : ℕ) → ((k : ℕ) → k < x.count → is_repeat (same_at x) k ≡ false) → (Ok tt) ≡ station_repeat x i
station-free x i h = rw (le-leb x.count (later_in (same_at x) x.count) (omega (arith, none-later (same_at x) x.count h)))

module _ (ys : List Station) where
  -- the test of a station: its list holds a layout twice
  abbrev twice : ℕ → Bool
  twice i = not (all_different (station_at ys i))

  -- one station more
  abbrev Next : ℕ → Type 0
  Next n =
      judge (repeat_rule ys (n + 1) ∷ []) ≡ first_refusal (judge (repeat_rule ys n ∷ [])) (station_repeat (station_at ys n) n)

  pub repeat-next : (n : ℕ) → Next n
  unfolding repeat_station
  repeat-next n = ⊎_elim none_before some-before (le-or-lt n (first twice n))
    where
      some-before : first twice n < n → Next n
      some-before h =
          let e = first-is twice (n + 1) (first twice n) (omega arith) (first-true twice n h) (first-before twice n) in
          rw (e, lt-leb (n + 1) (first twice n) (omega arith), lt-leb n (first twice n) h)

      none_before : n ≤ first twice n → Next n
      none_before h = go (all_different (station_at ys n)) refl
        where
          before : (j : ℕ) → j < n → twice j ≡ false
          before j l = first-before twice n j (omega arith)

          go : (b : Bool) → all_different (station_at ys n) ≡ b → Next n
          go true q =
              let e = first-none twice (n + 1) (below_more _ n before (ap not q)) in
              rw (e, first-none twice n before, le-leb (n + 1) (n + 1) (omega arith), le-leb n n (omega arith), q)
          go false q =
              let e = first-is twice (n + 1) n (omega arith) (ap not q) before in
              rw (e, first-none twice n before, lt-leb (n + 1) n (omega arith), le-leb n n (omega arith), q)

  module _ (n : ℕ) where
    -- the first repeat is the one that the rule names
    module _ {i e l : ℕ} (F : FirstLayoutRepeat ys n i e l) where
      station-is : repeat_station ys n ≡ i
      unfolding repeat_station
      station-is =
          first-is twice n i F.read (ap not (found-not-free _ _ F.here))
          (λ j h. ap not (different-free (same_at (station_at ys j)) (station_at ys j).count (F.before j h)))

      pub rule-named : judge (repeat_rule ys n ∷ []) ≡ Err (RepeatedLayout i e l)
      rule-named = rw (station-is, lt-leb n i F.read) (ap Err (repeat-named (station_at ys i) i F.here))

    -- and where the rule is broken, what it names is the first repeat
    abbrev found : Station
    found = station_at ys (repeat_station ys n)

    pub named-first :
        (repeat_rule ys n).kept ≡ false →
        FirstLayoutRepeat ys n (repeat_station ys n) (earlier_in (same_at found) found.count) (later_in (same_at found) found.count)
    unfolding repeat_station
    named-first b =
        let h = leb-false n (first twice n) b in
        record {
          read = h;
          here = first_found (same_at found) found.count (leb-false _ _ (not-true _ (first-true twice n h)));
          before = λ j l. free-different _ _ (not-false _ (first-before twice n j l));
        }

    -- where it is kept, no list holds a layout twice, and only there
    pub kept-different : (repeat_rule ys n).kept ≡ true → (i : ℕ) → i < n → Different (same_at (station_at ys i)) (station_at ys i).count
    unfolding repeat_station
    kept-different k i h =
        free-different _ _ (not-false _ (first-before twice n i (omega (arith, leb-true n (first twice n) k))))

    pub different-kept : ((i : ℕ) → i < n → Different (same_at (station_at ys i)) (station_at ys i).count) → (repeat_rule ys n).kept ≡ true
    unfolding repeat_station
    different-kept d =
        let e = first-none twice n (λ i h. ap not (different-free (same_at (station_at ys i)) (station_at ys i).count (d i h))) in
        le-leb n (first twice n) (omega (arith, e))

    pub twice-broken : (i a b : ℕ) → i < n → a < b → b < (station_at ys i).count → same_at (station_at ys i) a b ≡ true → (repeat_rule ys n).kept ≡ false
    twice-broken i a b h l g e = go (repeat_rule ys n).kept refl
      where
        go : (t : Bool) → (repeat_rule ys n).kept ≡ t → t ≡ false
        go true k = sym e ∙ kept-different k i h a b l g
        go false k = refl

-- lists of stations whose layouts compare alike below their counts
pub rule-alike :
    (xs ys : List Station) (n : ℕ) →
    ((i : ℕ) → i < n → (station_at xs i).count ≡ (station_at ys i).count) →
    ((i a b : ℕ) → i < n → a < b → b < (station_at xs i).count → same_at (station_at xs i) a b ≡ same_at (station_at ys i) a b) →
    judge (repeat_rule xs n ∷ []) ≡ judge (repeat_rule ys n ∷ [])
rule-alike xs ys n c s = go (repeat_rule xs n).kept refl
  where
    different : (i : ℕ) → i < n → Different (same_at (station_at xs i)) (station_at xs i).count → Different (same_at (station_at ys i)) (station_at ys i).count
    different i h d a b l g =
        let k : b < (station_at xs i).count = omega (arith, c i h) in
        sym (s i a b h l k) ∙ d a b l k

    over : {i e l : ℕ} → FirstLayoutRepeat xs n i e l → FirstLayoutRepeat ys n i e l
    over {i} {e} {l} F =
        record {
          read = F.read;
          here =
              subst (λ (m : ℕ). FirstRepeat (same_at (station_at ys i)) m e l) (c i F.read)
              (repeat-alike (same_at (station_at xs i)) (same_at (station_at ys i)) (station_at xs i).count (λ a b. s i a b F.read) F.here);
          before = λ j h. different j (omega (arith, F.read)) (F.before j h);
        }

    go : (b : Bool) → (repeat_rule xs n).kept ≡ b → judge (repeat_rule xs n ∷ []) ≡ judge (repeat_rule ys n ∷ [])
    go true k = rw (k, different-kept ys n (λ i h. different i h (kept-different xs n k i h)))
    go false k = let F = named-first xs n k in rule-named xs n F ∙ sym (rule-named ys n (over F))
