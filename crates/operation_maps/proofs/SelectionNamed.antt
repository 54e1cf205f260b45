-- The two maps of an operation that selects coordinates name its pairs. Assumes nothing.
use mathlib.Core.Path.{◌≡◌, refl, sym, ap, ap₂, ◌∙◌, subst}
use mathlib.Core.Logic.{⊎_elim}
use mathlib.Core.Bool.{Bool, true, false, cond}
use mathlib.Core.List.{List, [], ◌∷◌, ◌++◌, map}
use Prim.Native.Nat.{ℕ, zero, suc, ◌+◌, ◌<◌}
use native.Mathlib.Nat.{le_of_suc-le-suc, eq-or-lt_of_le}
use native.Mathlib.Omega.{arith}
use borrow.Author.Tests.{ltb-true, lt-ltb}
use lib.IntN.{ℤ, pos}
use lib.ListN.{length, get_or, length-append, length-map, get_or-append, get_or-map}
use lib.Seq.{ext_get_or, get_or_at}
use Rattle.radix.specs.Radix.{In, none, more}
use Rattle.radix.proofs.Radix.{in-length, in-at}
use Rattle.shape.specs.Dimensions.{place}
use Rattle.shape.proofs.Repeats.{place_is, place_at}
use Rattle.expression.specs.Expression.{d, s, Expr, eval}
use Rattle.expression.specs.Value.{point_of}
use Rattle.folding.specs.Map.{values_of, Holds}
use Rattle.encoding.proofs.Lists.{map_at}
use Rattle.encoding.specs.Trees.{listed}
use Rattle.encoding.proofs.Listed.{listed-length, listed_at, listed_same, listed-is, listed-map}
use Rattle.operation_maps.specs.Points as points
use Rattle.map_builder.specs.Raw.{whole_of}
use Rattle.operation_maps.specs.Points.{Inside, Names, Points, Means}
use Rattle.operation_maps.specs.Reshape.{Positive}
use Rattle.operation_maps.specs.Lists.{select, is_listed, others}
use Rattle.operation_maps.specs.Selection.{select_map, variable_for, spread_map, select_pairs, Choice}
use Rattle.operation_maps.proofs.ReshapeNamed.{inside-natural, natural-inside}

-- ---- entries selected

pub select-at : (l xs : List ℕ) (k : ℕ) → k < length l → get_or (select l xs) k 0 ≡ get_or xs (get_or l k 0) 0
select-at l xs k h = map_at (λ (k : ℕ). get_or xs k 0) l k 0 0 h

pub select-length : (l xs : List ℕ) → length (select l xs) ≡ length l
select-length l xs = length-map l (λ (k : ℕ). get_or xs k 0)

select_in : (l xs ns : List ℕ) → ((k : ℕ) → k < length l → get_or l k 0 < length ns) → In xs ns → In (select l xs) (select l ns)
select_in [] xs ns h i = none
select_in (j ∷ l) xs ns h i = more (in-at i j (h 0 (omega arith))) (select_in l xs ns (λ k g. h (suc k) (omega arith)) i)

in-of : (es ds : List ℕ) → length es ≡ length ds → ((j : ℕ) → j < length ds → get_or es j 0 < get_or ds j 0) → In es ds
in-of [] [] e h = none
in-of [] (x ∷ ds) e h = absurd (omega arith)
in-of (y ∷ es) [] e h = absurd (omega arith)
in-of (y ∷ es) (x ∷ ds) e h = more (h 0 (omega arith)) (in-of es ds (omega arith) (λ j l. h (suc j) (omega arith)))

pub positive-at : (ns : List ℕ) → Positive ns → (k : ℕ) → k < length ns → 0 < get_or ns k 0
positive-at [] g k h = absurd (omega arith)
positive-at (n ∷ ns) g zero h = g.0
positive-at (n ∷ ns) g (suc k) h = positive-at ns g.1 k (omega arith)

pub select-positive : (l ns : List ℕ) → Positive ns → ((k : ℕ) → k < length l → get_or l k 0 < length ns) → Positive (select l ns)
select-positive [] ns g h = tt
select-positive (j ∷ l) ns g h = (positive-at ns g j (h 0 (omega arith)), select-positive l ns g (λ k i. h (suc k) (omega arith)))

-- ---- the numbers that are not listed

module _ (l : List ℕ) where
  others-kept : (n : ℕ) → is_listed l n ≡ true → others l (suc n) ≡ others l n
  unfolding others
  others-kept n e = ap (λ (b : Bool). cond b (others l n) (others l n ++ (n ∷ []))) e

  others-next : (n : ℕ) → is_listed l n ≡ false → others l (suc n) ≡ others l n ++ (n ∷ [])
  unfolding others
  others-next n e = ap (λ (b : Bool). cond b (others l n) (others l n ++ (n ∷ []))) e

  -- each is below n and greater than those before it
  record Rising (n : ℕ) (xs : List ℕ) : Type 0 where
    below : (k : ℕ) → k < length xs → get_or xs k 0 < n
    rising : (i j : ℕ) → i < j → j < length xs → get_or xs i 0 < get_or xs j 0

  rising-next : (n : ℕ) (xs : List ℕ) → Rising n xs → Rising (suc n) (xs ++ (n ∷ []))
  rising-next n xs r =
      record {
        below = λ k h. ⊎_elim (λ (q : k ≡ length xs). omega (arith, last k q)) (λ (q : k < length xs). omega (arith, first k q, r.below k q)) (eq-or-lt_of_le (le_of_suc-le-suc (omega (arith, size, h))));
        rising = λ i j g h.
            ⊎_elim
            (λ (q : j ≡ length xs). let i-first : i < length xs = omega arith in omega (arith, last j q, first i i-first, r.below i i-first))
            (λ (q : j < length xs). let i-first : i < length xs = omega arith in omega (arith, first j q, first i i-first, r.rising i j g q))
            (eq-or-lt_of_le (le_of_suc-le-suc (omega (arith, size, h))));
      }
    where
      size : length (xs ++ (n ∷ [])) ≡ length xs + 1
      size = length-append xs (n ∷ [])

      last : (k : ℕ) → k ≡ length xs → get_or (xs ++ (n ∷ [])) k 0 ≡ n
      last k q = get_or_at xs n [] 0 k (sym q)

      first : (k : ℕ) → k < length xs → get_or (xs ++ (n ∷ [])) k 0 ≡ get_or xs k 0
      first k q = get_or-append xs (n ∷ []) 0 k q

  rising_none : Rising zero (others l zero)
  unfolding others
  rising_none = record { below = λ k h. absurd (omega arith); rising = λ i j g h. absurd (omega arith) }

  others-rising : (n : ℕ) → Rising n (others l n)
  others-rising zero = rising_none
  others-rising (suc n) = go (is_listed l n) refl (others-rising n)
    where
      go : (b : Bool) → is_listed l n ≡ b → Rising n (others l n) → Rising (suc n) (others l (suc n))
      go true e r = subst (Rising (suc n)) (sym (others-kept n e)) (record { below = λ k h. omega (arith, r.below k h); rising = r.rising })
      go false e r = subst (Rising (suc n)) (sym (others-next n e)) (rising-next n (others l n) r)

  pub others-choice : (n : ℕ) → Choice (others l n) n
  others-choice n = let r = others-rising n in record { inside = r.below; apart = λ i j g h q. omega (arith, r.rising i j g h, q) }

  -- a number that is not listed stands after the others below it
  pub others-at : (n j : ℕ) → j < n → is_listed l j ≡ false → (length (others l j) < length (others l n)) × (get_or (others l n) (length (others l j)) 0 ≡ j)
  others-at zero j h e = absurd (omega arith)
  others-at (suc n) j h e = ⊎_elim here (λ (q : j < n). before (others-at n j q e)) (eq-or-lt_of_le (le_of_suc-le-suc h))
    where
      here : j ≡ n → (length (others l j) < length (others l (suc n))) × (get_or (others l (suc n)) (length (others l j)) 0 ≡ j)
      here q =
          subst (λ (i : ℕ). (length (others l i) < length (others l (suc n))) × (get_or (others l (suc n)) (length (others l i)) 0 ≡ i)) (sym q)
          (let f = others-next n (subst (λ (i : ℕ). is_listed l i ≡ false) q e) in
          (omega (arith, ap length f, length-append (others l n) (n ∷ [])), ap (λ (x : List ℕ). get_or x (length (others l n)) 0) f ∙ get_or_at (others l n) n [] 0 (length (others l n)) refl))

      before : (length (others l j) < length (others l n)) × (get_or (others l n) (length (others l j)) 0 ≡ j)
          → (length (others l j) < length (others l (suc n))) × (get_or (others l (suc n)) (length (others l j)) 0 ≡ j)
      before = go (is_listed l n) refl
        where
          go : (b : Bool) → is_listed l n ≡ b → (length (others l j) < length (others l n)) × (get_or (others l n) (length (others l j)) 0 ≡ j)
              → (length (others l j) < length (others l (suc n))) × (get_or (others l (suc n)) (length (others l j)) 0 ≡ j)
          go true t r = subst (λ (x : List ℕ). (length (others l j) < length x) × (get_or x (length (others l j)) 0 ≡ j)) (sym (others-kept n t)) r
          go false t r =
              subst (λ (x : List ℕ). (length (others l j) < length x) × (get_or x (length (others l j)) 0 ≡ j)) (sym (others-next n t))
              (omega (arith, r.0, length-append (others l n) (n ∷ [])), get_or-append (others l n) (n ∷ []) 0 (length (others l j)) r.0 ∙ r.1)

-- ---- larger to smaller

module _ (l ns : List ℕ) (g : Positive ns) where
  selected : (x v : List ℤ) (xs : List ℕ) → x ≡ map pos xs → (k : List ℕ) → values_of (point_of x v) (map (λ (k : ℕ). Expr.var d k) k) ≡ map pos (select k xs)
  unfolding eval point_of
  selected x v xs e [] = refl
  selected x v xs e (j ∷ k) = ap₂ (λ (z : ℤ) (zs : List ℤ). z ∷ zs) (ap (λ (y : List ℤ). get_or y j (pos 0)) e ∙ get_or-map pos xs j 0) (selected x v xs e k)

  pub select-means : Means (select_map l ns) (select_pairs l ns)
  unfolding select_map Holds
  select-means x y = (to, from)
    where
      to : Names (select_map l ns) x y → Points (select_pairs l ns) x y
      to h =
          let w = inside-natural x ns g h.inside-dims in
          record {
            from = w.point;
            to = select l w.point;
            from_is = w.is;
            to_is = sym h.results ∙ selected x h.values w.point w.is l;
            related = (w.inside, refl);
          }

      from : Points (select_pairs l ns) x y → Names (select_map l ns) x y
      from p =
          record {
            values = [];
            inside-dims = subst (λ (z : List ℤ). Inside z (whole_of ns)) (sym p.from_is) (natural-inside p.related.0);
            inside-ranges = points.none;
            holds = tt;
            results = selected x [] p.from p.from_is l ∙ ap (map pos) (sym p.related.1) ∙ sym p.to_is;
          }

-- ---- smaller to larger

module _ (l ns : List ℕ) (g : Positive ns) (c : Choice l (length ns)) where
  -- coordinate j of the larger point
  abbrev coordinate : List ℕ → List ℕ → ℕ → ℕ
  coordinate xs vs j = cond (is_listed l j) (get_or xs (place j l) 0) (get_or vs (length (others l j)) 0)

  variable-value : (x v : List ℤ) (xs vs : List ℕ) → x ≡ map pos xs → v ≡ map pos vs → (j : ℕ) → eval (point_of x v) (variable_for l j) ≡ pos (coordinate xs vs j)
  unfolding eval point_of
  variable-value x v xs vs e f j = go (is_listed l j)
    where
      go : (b : Bool)
          → eval (point_of x v) (cond b (Expr.var d (place j l)) (Expr.var s (length (others l j)))) ≡ pos (cond b (get_or xs (place j l) 0) (get_or vs (length (others l j)) 0))
      go true = ap (λ (y : List ℤ). get_or y (place j l) (pos 0)) e ∙ get_or-map pos xs (place j l) 0
      go false = ap (λ (y : List ℤ). get_or y (length (others l j)) (pos 0)) f ∙ get_or-map pos vs (length (others l j)) 0

  abbrev larger : List ℕ → List ℕ → List ℕ
  larger xs vs = listed (coordinate xs vs) (length ns)

  larger-value : (x v : List ℤ) (xs vs : List ℕ) → x ≡ map pos xs → v ≡ map pos vs → values_of (point_of x v) (listed (variable_for l) (length ns)) ≡ map pos (larger xs vs)
  larger-value x v xs vs e f =
      listed-map (λ (t : Expr). eval (point_of x v) t) (variable_for l) (length ns)
      ∙ listed_same _ _ (length ns) (λ j h. variable-value x v xs vs e f j)
      ∙ sym (listed-map pos (coordinate xs vs) (length ns))

  abbrev rest : List ℕ
  rest = others l (length ns)

  rest-inside : (k : ℕ) → k < length rest → get_or rest k 0 < length ns
  rest-inside = (others-choice l (length ns)).inside

  -- a coordinate that is listed, and one that is not
  listed-coordinate : (xs vs : List ℕ) (j : ℕ) → is_listed l j ≡ true → coordinate xs vs j ≡ get_or xs (place j l) 0
  listed-coordinate xs vs j e = ap (λ (b : Bool). cond b (get_or xs (place j l) 0) (get_or vs (length (others l j)) 0)) e

  other-coordinate : (xs vs : List ℕ) (j : ℕ) → is_listed l j ≡ false → coordinate xs vs j ≡ get_or vs (length (others l j)) 0
  other-coordinate xs vs j e = ap (λ (b : Bool). cond b (get_or xs (place j l) 0) (get_or vs (length (others l j)) 0)) e

  coordinate-below : (xs vs : List ℕ) → In xs (select l ns) → In vs (select rest ns) → (j : ℕ) → j < length ns → coordinate xs vs j < get_or ns j 0
  coordinate-below xs vs a b j h = go (is_listed l j) refl
    where
      go : (t : Bool) → is_listed l j ≡ t → coordinate xs vs j < get_or ns j 0
      go true e =
          let p = ltb-true (place j l) (length l) e in
          omega (arith, listed-coordinate xs vs j e, in-at a (place j l) (omega (arith, p, select-length l ns)), select-at l ns (place j l) p, ap (λ (k : ℕ). get_or ns k 0) (place_at j l p))
      go false e =
          let o = others-at l (length ns) j h e in
          omega (arith, other-coordinate xs vs j e, in-at b (length (others l j)) (omega (arith, o.0, select-length rest ns)), select-at rest ns (length (others l j)) o.0, ap (λ (k : ℕ). get_or ns k 0) o.1)

  place-own : (k : ℕ) → k < length l → place (get_or l k 0) l ≡ k
  place-own k h = place_is (get_or l k 0) l k h refl (λ i q e. c.apart i k q h e)

  larger-selected : (xs vs : List ℕ) → In xs (select l ns) → xs ≡ select l (larger xs vs)
  larger-selected xs vs a =
      let n : length xs ≡ length l = in-length a ∙ select-length l ns in
      ext_get_or 0 xs (select l (larger xs vs)) (n ∙ sym (select-length l (larger xs vs)))
      (λ k h.
      let q : k < length l = omega arith in
      let p = place-own k q in
      sym
      (select-at l (larger xs vs) k q
      ∙ listed_at (coordinate xs vs) (length ns) (get_or l k 0) 0 (c.inside k q)
      ∙ listed-coordinate xs vs (get_or l k 0) (lt-ltb (place (get_or l k 0) l) (length l) (omega (arith, p)))
      ∙ ap (λ (i : ℕ). get_or xs i 0) p))

  larger-back : (large : List ℕ) → In large ns → larger (select l large) (select rest large) ≡ large
  larger-back large i = listed-is (coordinate (select l large) (select rest large)) (length ns) large 0 (sym (in-length i)) (λ j h. go j h (is_listed l j) refl)
    where
      go : (j : ℕ) → j < length ns → (t : Bool) → is_listed l j ≡ t → coordinate (select l large) (select rest large) j ≡ get_or large j 0
      go j h true e =
          let p = ltb-true (place j l) (length l) e in
          listed-coordinate (select l large) (select rest large) j e ∙ select-at l large (place j l) p ∙ ap (λ (k : ℕ). get_or large k 0) (place_at j l p)
      go j h false e =
          let o = others-at l (length ns) j h e in
          other-coordinate (select l large) (select rest large) j e ∙ select-at rest large (length (others l j)) o.0 ∙ ap (λ (k : ℕ). get_or large k 0) o.1

  pub spread-means : Means (spread_map l ns) (λ (small large : List ℕ). select_pairs l ns large small)
  unfolding spread_map Holds
  spread-means x y = (to, from)
    where
      to : Names (spread_map l ns) x y → Points (λ (small large : List ℕ). select_pairs l ns large small) x y
      to h =
          let a = inside-natural x (select l ns) (select-positive l ns g c.inside) h.inside-dims in
          let b = inside-natural h.values (select rest ns) (select-positive rest ns g rest-inside) h.inside-ranges in
          record {
            from = a.point;
            to = larger a.point b.point;
            from_is = a.is;
            to_is = sym h.results ∙ larger-value x h.values a.point b.point a.is b.is;
            related = (
              in-of (larger a.point b.point) ns (listed-length (coordinate a.point b.point) (length ns))
                  (λ j q. subst (λ (m : ℕ). m < get_or ns j 0) (sym (listed_at (coordinate a.point b.point) (length ns) j 0 q)) (coordinate-below a.point b.point a.inside b.inside j q)),
              larger-selected a.point b.point a.inside,
            );
          }

      from : Points (λ (small large : List ℕ). select_pairs l ns large small) x y → Names (spread_map l ns) x y
      from p =
          let i = p.related.0 in
          let e : x ≡ map pos (select l p.to) = p.from_is ∙ ap (map pos) p.related.1 in
          record {
            values = map pos (select rest p.to);
            inside-dims = subst (λ (z : List ℤ). Inside z (whole_of (select l ns))) (sym e) (natural-inside (select_in l p.to ns c.inside i));
            inside-ranges = natural-inside (select_in rest p.to ns rest-inside i);
            holds = tt;
            results = larger-value x (map pos (select rest p.to)) (select l p.to) (select rest p.to) e refl ∙ ap (map pos) (larger-back p.to i) ∙ sym p.to_is;
          }

-- ---- the order of a list does not matter to what it leaves

pub others_same : (l k : List ℕ) → ((j : ℕ) → is_listed l j ≡ is_listed k j) → (n : ℕ) → others l n ≡ others k n
unfolding others
others_same l k h zero = refl
others_same l k h (suc n) = ap₂ (λ (b : Bool) (o : List ℕ). cond b o (o ++ (n ∷ []))) (h n) (others_same l k h n)
