-- One station more: what is kept of the stations read so far holds of it too. Assumes nothing.
use Rattle.std.specs.Prelude.{Ok, Err}
use Rattle.std.specs.Result.{result_and}
use mathlib.Core.Path.{◌≡◌, refl, sym, ap, ap₂, ◌∙◌, subst}
use mathlib.Core.Bool.{Bool, true, false, ◌&&◌, cond}
use mathlib.Core.Logic.{inl, inr, ⊎_elim}
use mathlib.Core.List.{List}
use Prim.Native.Nat.{ℕ, suc, ◌+◌, ◌*◌, ◌/◌, ◌%◌, ◌<◌, ◌≤◌}
use native.Mathlib.Numerals.{add-one}
use native.Mathlib.Omega.{arith}
use borrow.Author.Tests.{leb-true, ltb-true, lt-ltb}
use lib.Dec.{leb, ltb}
use lib.ListN.{length, get_or, set, replicate}
use lib.Seq.{get_or-set_same, get_or-set_other}
use Rattle.radix.specs.Radix.{max_count}
use Rattle.radix.proofs.Tests.{and-true, and_left, and_right, every-at}
use Rattle.refusal.specs.Judge.{Verdict}
use Rattle.shape.specs.declared.Shape.{Shape}
use Rattle.layout.specs.Layout.{good_layout}
use Rattle.layout.specs.declared.Layout.{Layout}
use Rattle.plan.specs.Answer.{max_stations}
use Rattle.plan.proofs.Zeros.{zeros-at}
use Rattle.route.specs.Same.{same_layout, move_of}
use Rattle.route.specs.Stations.{max_layouts, station_at, layout_at, good_count, good_parent, good_layouts, good_sizes, counts_kept, parents_kept, layouts_kept, sizes_kept}
use Rattle.route.specs.LayoutRepeats.{repeat_station}
use Rattle.route.specs.Route.{numbers_kept}
use Rattle.route.specs.Loading.{Fit, Filled, feeding, capped_size, move_at, first_refusal, station_repeat, Entered, Sound, Holds, Starts, Adds}
use Rattle.route.specs.declared.Station.{Station}
use Rattle.route.specs.declared.load.Loaded.{Loaded}
use Rattle.route.proofs.LayoutRepeats.{repeat-next}
use Rattle.route.proofs.Tables.{clash, and_both, every-next, still_kept, now-broken, was-kept, same_or_not, below_of, upto, filled-bound}

-- the tests over one station more
counts-next : (ys : List Station) (i : ℕ) → counts_kept ys (i + 1) ≡ (counts_kept ys i && good_count (station_at ys i))
unfolding counts_kept
counts-next ys i = every-next (λ (k : ℕ). good_count (station_at ys k)) i

parents-next : (ys : List Station) (i : ℕ) → parents_kept ys (i + 1) ≡ (parents_kept ys i && good_parent i (station_at ys i))
unfolding parents_kept
parents-next ys i = every-next (λ (k : ℕ). good_parent k (station_at ys k)) i

-- the numbers of one record keep their rules
abbrev pub good_numbers : ℕ → Station → Bool
good_numbers i x = good_count x && good_parent i x

numbers-next : (ys : List Station) (i : ℕ) → numbers_kept ys (i + 1) ≡ (numbers_kept ys i && good_numbers i (station_at ys i))
unfolding numbers_kept
numbers-next ys i =
    ap₂ ◌&&◌ (counts-next ys i) (parents-next ys i)
    ∙ and_both (counts_kept ys i) (good_count (station_at ys i)) (parents_kept ys i) (good_parent i (station_at ys i))

layouts-next : (s : Shape) (ys : List Station) (i : ℕ) → layouts_kept s ys (i + 1) ≡ (layouts_kept s ys i && good_layouts s.rank (station_at ys i))
unfolding layouts_kept
layouts-next s ys i = every-next (λ (k : ℕ). good_layouts s.rank (station_at ys k)) i

sizes-next : (s : Shape) (ys : List Station) (i : ℕ) → sizes_kept s ys (i + 1) ≡ (sizes_kept s ys i && good_sizes s (station_at ys i))
unfolding sizes_kept
sizes-next s ys i = every-next (λ (k : ℕ). good_sizes s (station_at ys k)) i

-- a count that keeps its rule
pub count_low : (x : Station) → good_count x ≡ true → (1 ≤ x.count) × (x.count ≤ max_layouts)
count_low x e = (
  leb-true 1 x.count (and_left (leb 1 x.count) (leb x.count max_layouts) e),
  leb-true x.count max_layouts (and_right (leb 1 x.count) (leb x.count max_layouts) e),
)

-- a parent that keeps its rule
pub parent-low : (i : ℕ) (x : Station) → good_parent (i + 1) x ≡ true → x.parent < i + 1
parent-low i x e =
    let t : ltb x.parent (suc i) ≡ true = rw add-one at e in
    omega (arith, ltb-true x.parent (suc i) t)

-- the same of every station read
module _ (ys : List Station) (n : ℕ) (e : numbers_kept ys n ≡ true) where
  pub counts-kept : counts_kept ys n ≡ true
  unfolding numbers_kept
  counts-kept = and_left (counts_kept ys n) (parents_kept ys n) e

  pub parents-kept : parents_kept ys n ≡ true
  unfolding numbers_kept
  parents-kept = and_right (counts_kept ys n) (parents_kept ys n) e

  pub counts-low : (i : ℕ) → i < n → (1 ≤ (station_at ys i).count) × ((station_at ys i).count ≤ max_layouts)
  unfolding counts_kept
  counts-low i l = count_low (station_at ys i) (every-at (λ (k : ℕ). good_count (station_at ys k)) n counts-kept i l)

  pub parents-low : (i : ℕ) → i + 1 < n → (station_at ys (i + 1)).parent < i + 1
  unfolding parents_kept
  parents-low i l = parent-low i (station_at ys (i + 1)) (every-at (λ (k : ℕ). good_parent k (station_at ys k)) n parents-kept (i + 1) l)

-- a station whose count and layouts keep their rules
pub fit-of : (rank : ℕ) (x : Station) → good_count x ≡ true → good_layouts rank x ≡ true → Fit rank x
fit-of rank x c l = record { few = (count_low x c).1; good = every-at (λ (a : ℕ). good_layout rank (layout_at x a)) x.count l }

-- a move is one or none
pub move-low : (a b : Layout) → move_of a b ≤ 1
move-low a b = go (same_layout a b)
  where
    go : (q : Bool) → cond q 0 1 ≤ 1
    go true = omega arith
    go false = omega arith

move-at-low : (x y : Station) (t : ℕ) → move_at x y t ≤ 1
move-at-low x y t = go (ltb (t / max_layouts) x.count && ltb (t % max_layouts) y.count)
  where
    go : (p : Bool) → cond p (move_of (layout_at x (t / max_layouts)) (layout_at y (t % max_layouts))) 0 ≤ 1
    go true = move-low _ _
    go false = omega arith

-- the move between two places that there are
move-at-is :
    (x y : Station) (a b t : ℕ) →
    t ≡ a * 8 + b →
    x.count ≤ max_layouts →
    y.count ≤ max_layouts →
    a < x.count →
    b < y.count →
    move_at x y t ≡ move_of (layout_at x a) (layout_at y b)
move-at-is x y a b t e u v h g =
    let q : t / max_layouts ≡ a = omega arith in
    let r : t % max_layouts ≡ b = omega arith in
    rw (q, r) (simp (lt-ltb _ _ h, lt-ltb _ _ g))

-- the marks and tables beside the one that is altered
abbrev pub marked : Loaded → Bool → Bool → Loaded
marked h numbers layouts =
    record {
      numbers_kept = numbers;
      layouts_kept = layouts;
      repeat = h.repeat;
      sizes_kept = h.sizes_kept;
      parents = h.parents;
      counts = h.counts;
      sizes = h.sizes;
      moved = h.moved;
    }

still-sound : (h : Loaded) (numbers layouts : Bool) → Sound h → Sound (marked h numbers layouts)
still-sound h numbers layouts S = record { parents = S.parents; counts = S.counts; sizes = S.sizes; ones = S.ones }

module _ (s : Shape) (h : Loaded) (i : ℕ) (x from : Station) where
  -- a broken count or parent
  pub broken-numbers : good_numbers i x ≡ false → Adds s h i x from (marked h false h.layouts_kept)
  broken-numbers b =
      record {
        more =
            λ ys H e d.
            let f : numbers_kept ys (i + 1) ≡ false = now-broken (numbers_kept ys i) _ (numbers-next ys i) (ap (good_numbers i) e ∙ b) in
            record {
              sound = still-sound h false h.layouts_kept H.sound;
              numbers = sym f;
              layouts = λ c. clash _ c f;
              repeat = λ c l. clash _ c f;
              sizes = λ c l. clash _ c f;
              entered = λ c l. clash _ c f;
            };
      }

  module _ (g : good_numbers i x ≡ true) where
    module _ (ys : List Station) (H : Holds s ys i h) (e : station_at ys i ≡ x) where
      -- the numbers are kept as before
      numbers-still : numbers_kept ys (i + 1) ≡ numbers_kept ys i
      numbers-still = still_kept (numbers_kept ys i) _ (numbers-next ys i) (ap (good_numbers i) e ∙ g)

    -- a broken layout
    pub broken-layouts : good_layouts s.rank x ≡ false → Adds s h i x from (marked h h.numbers_kept false)
    broken-layouts b =
        record {
          more =
              λ ys H e d.
              let f : layouts_kept s ys (i + 1) ≡ false = now-broken (layouts_kept s ys i) _ (layouts-next s ys i) (ap (good_layouts s.rank) e ∙ b) in
              record {
                sound = still-sound h h.numbers_kept false H.sound;
                numbers = H.numbers ∙ sym (numbers-still ys H e);
                layouts = λ c. sym f;
                repeat = λ c l. clash _ l f;
                sizes = λ c l. clash _ l f;
                entered = λ c l. clash _ l f;
              };
        }

    -- an earlier station breaks its rule 2 or 3
    pub broken-before :
        good_layouts s.rank x ≡ true → (h.numbers_kept && h.layouts_kept) ≡ false → Adds s h i x from h
    broken-before l b =
        record {
          more =
              λ ys H e d.
              let q = numbers-still ys H e in
              let r : layouts_kept s ys (i + 1) ≡ layouts_kept s ys i = still_kept (layouts_kept s ys i) _ (layouts-next s ys i) (ap (good_layouts s.rank) e ∙ l) in
              let both : numbers_kept ys (i + 1) ≡ true → layouts_kept s ys (i + 1) ≡ true → (h.numbers_kept && h.layouts_kept) ≡ true =
              λ c k. and-true (H.numbers ∙ sym q ∙ c) (H.layouts (sym q ∙ c) ∙ sym r ∙ k)
              in
              record {
                sound = H.sound;
                numbers = H.numbers ∙ sym q;
                layouts = λ c. H.layouts (sym q ∙ c) ∙ sym r;
                repeat = λ c k. clash _ (both c k) b;
                sizes = λ c k. clash _ (both c k) b;
                entered = λ c k. clash _ (both c k) b;
              };
        }

-- as long as all stations read keep their rules 2 and 3, so does the one that feeds the next
pub feeds-fit :
    (s : Shape) (ys : List Station) (i : ℕ) (h : Loaded) →
    Holds s ys i h →
    h.numbers_kept ≡ true →
    h.layouts_kept ≡ true →
    Fit s.rank (station_at ys i) →
    Fit s.rank (station_at ys (feeding i (station_at ys i)))
unfolding counts_kept layouts_kept
feeds-fit s ys i h H n l F = go (ltb (station_at ys i).parent i) refl
  where
    all : numbers_kept ys i ≡ true
    all = sym H.numbers ∙ n

    earlier : (k : ℕ) → k < i → Fit s.rank (station_at ys k)
    earlier k m =
        fit-of s.rank (station_at ys k) (every-at (λ (j : ℕ). good_count (station_at ys j)) i (counts-kept ys i all) k m)
        (every-at (λ (j : ℕ). good_layouts s.rank (station_at ys j)) i (sym (H.layouts all) ∙ l) k m)

    go : (t : Bool) → ltb (station_at ys i).parent i ≡ t → Fit s.rank (station_at ys (cond t (station_at ys i).parent i))
    go true e = earlier (station_at ys i).parent (ltb-true (station_at ys i).parent i e)
    go false e = F

-- what is entered of a station whose numbers and layouts keep their rules
pub record Enters (s : Shape) (h : Loaded) (i : ℕ) (x from : Station) (repeat : Verdict) (kept : Bool) (parent : ℕ) (sizes moved : List ℕ) : Type 0 where
  pub few : i < max_stations
  pub parents-room : i < length h.parents
  pub counts-room : i < length h.counts
  pub sound : Sound h
  pub numbers : good_numbers i x ≡ true
  pub layouts : good_layouts s.rank x ≡ true
  pub few-from : from.count ≤ max_layouts
  pub here : Verdict
  pub here-is : here ≡ station_repeat x i
  pub repeat-is : repeat ≡ first_refusal h.repeat here
  pub kept-is : kept ≡ (h.sizes_kept && good_sizes s x)
  pub parent_is : parent ≡ feeding i x
  pub sizes-in : Filled h.sizes sizes (i * 8) x.count (capped_size s x)
  pub moves-in : Filled h.moved moved (i * 64) (max_layouts * max_layouts) (move_at from x)

abbrev pub entry : Loaded → ℕ → Station → Verdict → Bool → ℕ → List ℕ → List ℕ → Loaded
entry h i x repeat kept parent sizes moved =
    record {
      numbers_kept = h.numbers_kept;
      layouts_kept = h.layouts_kept;
      repeat = repeat;
      sizes_kept = kept;
      parents = set h.parents i parent;
      counts = set h.counts i x.count;
      sizes = sizes;
      moved = moved;
    }

-- the station that feeds one with an earlier parent
pub feeding-is : (i : ℕ) (x : Station) → x.parent < i → feeding i x ≡ x.parent
feeding-is i x l = rw (lt-ltb x.parent i l)

-- a station is fed by itself or an earlier one
pub feeding-low : (i : ℕ) (x : Station) → feeding i x ≤ i
feeding-low i x = go (ltb x.parent i) refl
  where
    go : (t : Bool) → ltb x.parent i ≡ t → cond t x.parent i ≤ i
    go true e = omega (arith, ltb-true x.parent i e)
    go false e = omega arith

module _ (s : Shape) (h : Loaded) (i : ℕ) (x from : Station) (repeat : Verdict) (kept : Bool) (parent : ℕ) (sizes moved : List ℕ) (E : Enters s h i x from repeat kept parent sizes moved) where
  parent-here : (k : ℕ) → k + 1 ≡ i → parent < i
  parent-here k q =
      let l : x.parent < k + 1 = parent-low k x (ap (λ (j : ℕ). good_parent j x) q ∙ and_right (good_count x) (good_parent i x) E.numbers) in
      omega (arith, E.parent_is, feeding-is i x (omega arith))

  parent-bound : (k : ℕ) → get_or (set h.parents i parent) (k + 1) 0 < k + 1
  parent-bound k =
      elim (same_or_not (k + 1) i) [
        | inl q ↦
            omega (
              arith,
              ap (λ (j : ℕ). get_or (set h.parents i parent) j 0) q,
              get_or-set_same h.parents i parent 0 E.parents-room,
              parent-here k q,
            )
        | inr q ↦ omega (arith, get_or-set_other h.parents i (k + 1) parent 0 q, E.sound.parents k)
      ]

  count-bound : (k : ℕ) → get_or (set h.counts i x.count) k 0 ≤ max_layouts
  count-bound k =
      elim (same_or_not k i) [
        | inl q ↦
            omega (
              arith,
              ap (λ (j : ℕ). get_or (set h.counts i x.count) j 0) q,
              get_or-set_same h.counts i x.count 0 E.counts-room,
              (count_low x (and_left (good_count x) (good_parent i x) E.numbers)).1,
            )
        | inr q ↦ omega (arith, get_or-set_other h.counts i k x.count 0 q, E.sound.counts k)
      ]

  new-sound : Sound (entry h i x repeat kept parent sizes moved)
  new-sound =
      record {
        parents = parent-bound;
        counts = count-bound;
        sizes = filled-bound (max_count + 1) E.sizes-in E.sound.sizes (λ t l. omega arith);
        ones = filled-bound 1 E.moves-in E.sound.ones (λ t l. move-at-low from x t);
      }

-- with station i of a list for x, and the one that feeds it
module _ (s : Shape) (h : Loaded) (i : ℕ) (ys : List Station) (repeat : Verdict) (kept : Bool) (parent : ℕ) (sizes moved : List ℕ)
    (E : Enters s h i (station_at ys i) (station_at ys (feeding i (station_at ys i))) repeat kept parent sizes moved) (H : Holds s ys i h) where
  module _ (c : numbers_kept ys (i + 1) ≡ true) (l : layouts_kept s ys (i + 1) ≡ true) where
    old : Entered s ys i h
    old = H.entered (was-kept (numbers_kept ys i) _ (numbers-next ys i) E.numbers c) (was-kept (layouts_kept s ys i) _ (layouts-next s ys i) E.layouts l)

    low : (k : ℕ) → k < i + 1 → (station_at ys k).count ≤ max_layouts
    low k m = (counts-low ys (i + 1) c k m).1

    parents-at : (k : ℕ) → k + 1 < i + 1 → get_or (set h.parents i parent) (k + 1) 0 ≡ (station_at ys (k + 1)).parent
    parents-at k m =
        elim (same_or_not (k + 1) i) [
          | inl q ↦
              let p : (station_at ys i).parent < i = subst (λ (j : ℕ). (station_at ys j).parent < j) q (parents-low ys (i + 1) c k m) in
              ap (λ (j : ℕ). get_or (set h.parents i parent) j 0) q
              ∙ get_or-set_same h.parents i parent 0 E.parents-room
              ∙ E.parent_is
              ∙ feeding-is i (station_at ys i) p
              ∙ ap (λ (j : ℕ). (station_at ys j).parent) (sym q)
          | inr q ↦ get_or-set_other h.parents i (k + 1) parent 0 q ∙ old.parents k (below_of (k + 1) i m q)
        ]

    counts-at : (k : ℕ) → k < i + 1 → get_or (set h.counts i (station_at ys i).count) k 0 ≡ (station_at ys k).count
    counts-at k m =
        elim (same_or_not k i) [
          | inl q ↦
              ap (λ (j : ℕ). get_or (set h.counts i (station_at ys i).count) j 0) q
              ∙ get_or-set_same h.counts i (station_at ys i).count 0 E.counts-room
              ∙ ap (λ (j : ℕ). (station_at ys j).count) (sym q)
          | inr q ↦ get_or-set_other h.counts i k (station_at ys i).count 0 q ∙ old.counts k (below_of k i m q)
        ]

    sizes-at : (k a : ℕ) → k < i + 1 → a < (station_at ys k).count → get_or sizes (k * 8 + a) 0 ≡ capped_size s (station_at ys k) a
    sizes-at k a m g =
        ⊎_elim
        (λ (q : k ≡ i).
        subst (λ (j : ℕ). a < (station_at ys j).count → get_or sizes (j * 8 + a) 0 ≡ capped_size s (station_at ys j) a) (sym q)
        (λ f. E.sizes-in.inside a f)
        g)
        (λ (q : k < i). E.sizes-in.outside (k * 8 + a) (inl (omega (arith, low k m))) ∙ old.sizes k a q g)
        (upto k i m)

    -- the moves to station k
    abbrev Moves : ℕ → ℕ → ℕ → Type 0
    Moves k a b =
        a < (station_at ys (feeding k (station_at ys k))).count →
        b < (station_at ys k).count →
        get_or moved ((k * 8 + a) * 8 + b) 0
        ≡ move_of (layout_at (station_at ys (feeding k (station_at ys k))) a) (layout_at (station_at ys k) b)

    moves-here : (a b : ℕ) → Moves i a b
    moves-here a b g f =
        let u = E.few-from in
        let v = low i (omega arith) in
        let p : (i * 8 + a) * 8 + b ≡ i * 64 + (a * 8 + b) = omega arith in
        ap (λ (j : ℕ). get_or moved j 0) p
        ∙ E.moves-in.inside (a * 8 + b) (omega arith)
        ∙ move-at-is (station_at ys (feeding i (station_at ys i))) (station_at ys i) a b (a * 8 + b) refl u v g f

    moved_at : (k a b : ℕ) → k < i + 1 → Moves k a b
    moved_at k a b m g f =
        ⊎_elim
        (λ (q : k ≡ i). subst (λ (j : ℕ). Moves j a b) (sym q) (moves-here a b) g f)
        (λ (q : k < i).
        E.moves-in.outside ((k * 8 + a) * 8 + b)
        (inl (omega (arith, low (feeding k (station_at ys k)) (omega (arith, feeding-low k (station_at ys k))), low k m)))
        ∙ old.moved k a b q g f)
        (upto k i m)

    new-entered : Entered s ys (i + 1) (entry h i (station_at ys i) repeat kept parent sizes moved)
    new-entered = record { parents = parents-at; counts = counts-at; sizes = sizes-at; moved = moved_at }

  new-holds : Holds s ys (i + 1) (entry h i (station_at ys i) repeat kept parent sizes moved)
  new-holds =
      record {
        sound = new-sound s h i (station_at ys i) _ repeat kept parent sizes moved E;
        numbers = H.numbers ∙ sym (still_kept (numbers_kept ys i) _ (numbers-next ys i) E.numbers);
        layouts =
            λ c.
            H.layouts (was-kept (numbers_kept ys i) _ (numbers-next ys i) E.numbers c)
            ∙ sym (still_kept (layouts_kept s ys i) _ (layouts-next s ys i) E.layouts);
        repeat =
            λ c l.
            E.repeat-is
            ∙ ap₂ first_refusal
            (H.repeat (was-kept (numbers_kept ys i) _ (numbers-next ys i) E.numbers c) (was-kept (layouts_kept s ys i) _ (layouts-next s ys i) E.layouts l))
            E.here-is
            ∙ sym (repeat-next ys i);
        sizes =
            λ c l.
            E.kept-is
            ∙ ap (λ (b : Bool). b && good_sizes s (station_at ys i))
            (H.sizes (was-kept (numbers_kept ys i) _ (numbers-next ys i) E.numbers c) (was-kept (layouts_kept s ys i) _ (layouts-next s ys i) E.layouts l))
            ∙ sym (sizes-next s ys i);
        entered = new-entered;
      }

pub entered :
    (s : Shape) (h : Loaded) (i : ℕ) (x from : Station) (repeat : Verdict) (kept : Bool) (parent : ℕ) (sizes moved : List ℕ) →
    Enters s h i x from repeat kept parent sizes moved →
    Adds s h i x from (entry h i x repeat kept parent sizes moved)
entered s h i x from repeat kept parent sizes moved E =
    record {
      more =
          λ ys H e d.
          subst
          (λ (y : Station).
          station_at ys (feeding i y) ≡ from →
          Enters s h i y from repeat kept parent sizes moved →
          Holds s ys (i + 1) (entry h i y repeat kept parent sizes moved))
          e
          (λ d' F.
          new-holds s h i ys repeat kept parent sizes moved
          (subst (λ (z : Station). Enters s h i (station_at ys i) z repeat kept parent sizes moved) (sym d') F)
          H)
          d
          E;
    }

-- the first of two verdicts that refuses, as `and` gives it
pub and-first : (v w : Verdict) → result_and v w ≡ first_refusal v w
and-first (Ok tt) w = refl
and-first (Err r) w = refl

-- nothing is read yet
pub started :
    (h : Loaded) →
    h.numbers_kept ≡ true →
    h.layouts_kept ≡ true →
    h.repeat ≡ Ok tt →
    h.sizes_kept ≡ true →
    h.parents ≡ replicate 64 0 →
    h.counts ≡ replicate 64 0 →
    h.sizes ≡ replicate 512 0 →
    h.moved ≡ replicate 4096 0 →
    Starts h
unfolding numbers_kept counts_kept parents_kept layouts_kept sizes_kept repeat_station
started h c l r z parents counts sizes moved =
    record {
      none =
          λ s ys.
          record {
            sound =
                record {
                  parents = λ k. omega (arith, ap (λ (xs : List ℕ). get_or xs (k + 1) 0) parents, zeros-at 64 (k + 1));
                  counts = λ k. omega (arith, ap (λ (xs : List ℕ). get_or xs k 0) counts, zeros-at 64 k);
                  sizes = λ k. omega (arith, ap (λ (xs : List ℕ). get_or xs k 0) sizes, zeros-at 512 k);
                  ones = λ k. omega (arith, ap (λ (xs : List ℕ). get_or xs k 0) moved, zeros-at 4096 k);
                };
            numbers = c;
            layouts = λ p. l;
            repeat = λ p q. r;
            sizes = λ p q. z;
            entered =
                λ p q.
                record {
                  parents = λ i m. absurd (omega arith);
                  counts = λ i m. absurd (omega arith);
                  sizes = λ i a m. absurd (omega arith);
                  moved = λ i a b m. absurd (omega arith);
                };
          };
    }
