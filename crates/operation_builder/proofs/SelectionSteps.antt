-- Maps that select dimensions, made by steps, and the dimensions that a list leaves. Assumes nothing.
use mathlib.Core.Path.{◌≡◌, refl, sym, ap, ap₂, ◌∙◌, subst}
use mathlib.Core.Bool.{Bool, true, false, cond}
use mathlib.Core.List.{List, [], ◌∷◌, ◌++◌}
use Prim.Native.Nat.{ℕ, suc, ◌+◌, ◌-◌, ◌<◌, ◌≤◌}
use native.Mathlib.Omega.{arith}
use native.Mathlib.Numerals.{add-one}
use borrow.Author.Tests.{ltb-true}
use lib.IntN.{pos}
use lib.ListN.{length, get_or, take, drop, set, replicate, length-map, length-append}
use lib.Seq.{take_at}
use Rattle.shape.specs.Shape.{max_rank}
use Rattle.shape.specs.Dimensions.{place}
use Rattle.expression.specs.Expression.{d, s, Expr, Range}
use Rattle.expression.specs.Node.{max_variables}
use Rattle.indexing.specs.declared.IndexingMap.{IndexingMap}
use Rattle.encoding.specs.Postfix.{variable_of, postfix, value_of}
use Rattle.encoding.specs.Encode.{filled}
use Rattle.encoding.proofs.Lists.{map-append, map_at}
use Rattle.encoding.proofs.Filled.{filled_is, filled_next}
use Rattle.encoding.specs.Trees.{listed}
use Rattle.encoding.proofs.Listed.{listed-is}
use Rattle.map_builder.specs.Raw.{Raw, up_to, whole_of, encoded}
use Rattle.map_builder.specs.Draft.{empty_draft, add_range, push_variable, end_result, steps, add_size, add_selected, add_variable}
use Rattle.map_builder.specs.declared.Draft.{Draft}
use Rattle.map_builder.proofs.Drafted.{Drafted, drafted-encoded, range-drafted, node-drafted, result-drafted, variable-value, range-value}
use Rattle.map_builder.proofs.Steps.{Grows, steps-drafted, bounds-drafted, sizes-whole, variables-drafted}
use Rattle.operation_maps.specs.Lists.{select, is_listed, others}
use Rattle.operation_maps.specs.Selection.{variable_for, select_map, spread_map}
use Rattle.operation_maps.proofs.Fitted.{choice-few}
use Rattle.operation_maps.proofs.SelectionNamed.{select-length, others-choice}
use Rattle.operation_builder.specs.SelectionDraft.{add_coordinate, Choosable, none_kept, keep_next, KeptAs}
use Rattle.operation_builder.specs.declared.Kept.{Kept}

-- ---- smaller to larger

module _ (ns l : List ℕ) where
  pub coordinate-grows : (j : ℕ) (x : Draft) → Grows x (add_coordinate ns l j x) 1
  coordinate-grows j x = go (is_listed l j)
    where
      go : (b : Bool)
          → Grows x (cond b (end_result (push_variable x (place j l))) (end_result (push_variable (add_range x (pos 0) (pos (get_or ns j 0 - 1))) (max_variables + x.map.ranges)))) 1
      go true = record { dims = omega arith; ranges = omega arith; results = omega arith; constraints = omega arith; nodes = omega arith; under = λ u. refl }
      go false = record { dims = omega arith; ranges = omega arith; results = omega arith; constraints = omega arith; nodes = omega arith; under = λ u. refl }

  abbrev chosen : ℕ → Range
  chosen k = up_to (get_or ns (get_or l k 0) 0)

  abbrev coordinate_part : ℕ → Raw
  coordinate_part j = record { dims = whole_of (select l ns); ranges = whole_of (select (others l j) ns); results = listed (variable_for l) j; constraints = [] }

  abbrev ended_with : ℕ → List ℕ → Expr → Raw
  ended_with j k e = record { dims = whole_of (select l ns); ranges = whole_of (select k ns); results = listed (variable_for l) j ++ (e ∷ []); constraints = [] }

  chosen-whole : listed chosen (length l) ≡ whole_of (select l ns)
  chosen-whole =
      listed-is chosen (length l) (whole_of (select l ns)) (up_to 0) (sym (length-map (select l ns) up_to ∙ select-length l ns))
      (λ k h. sym (map_at up_to (select l ns) k 0 (up_to 0) (omega (arith, h, select-length l ns)) ∙ ap up_to (map_at (λ (k : ℕ). get_or ns k 0) l k 0 0 h)))

  module _ (r : Choosable ns l) where
    pub short : length l ≤ max_rank
    short = let c = choice-few l (length ns) r.choice in omega (arith, c, r.few)

    few-others : (j : ℕ) → length (others l j) ≤ j
    few-others j = choice-few (others l j) j (others-choice l j)

    others-whole : (j : ℕ) → length (whole_of (select (others l j) ns)) ≡ length (others l j)
    others-whole j = length-map (select (others l j) ns) up_to ∙ select-length (others l j) ns

    coordinate-next : (j : ℕ) (y : Draft) → j < length ns → Drafted (coordinate_part j) [] y → Drafted (coordinate_part (suc j)) [] (add_coordinate ns l j y)
    unfolding listed others postfix
    coordinate-next j y h w = go (is_listed l j) refl
      where
        few : length (whole_of (select (others l j) ns)) < max_variables
        few = omega (arith, h, r.few, few-others j, others-whole j)

        one : select (others l j ++ (j ∷ [])) ns ≡ select (others l j) ns ++ (get_or ns j 0 ∷ [])
        one = map-append (λ (k : ℕ). get_or ns k 0) (others l j) (j ∷ [])

        more : whole_of (select (others l j) ns) ++ (up_to (get_or ns j 0) ∷ []) ≡ whole_of (select (others l j ++ (j ∷ [])) ns)
        more = sym (ap whole_of one ∙ map-append up_to (select (others l j) ns) (get_or ns j 0 ∷ []))

        counted : y.map.ranges ≡ length (others l j)
        counted = ap (λ (m : IndexingMap). m.ranges) w.map ∙ others-whole j

        go : (b : Bool) → is_listed l j ≡ b
            → Drafted
            (ended_with j (cond b (others l j) (others l j ++ (j ∷ []))) (cond b (Expr.var d (place j l)) (Expr.var s (length (others l j))))) []
            (cond b (end_result (push_variable y (place j l))) (end_result (push_variable (add_range y (pos 0) (pos (get_or ns j 0 - 1))) (max_variables + y.map.ranges))))
        go true e =
            let p : place j l < max_variables = omega (arith, ltb-true (place j l) (length l) e, short) in
            result-drafted (coordinate_part j) (push_variable y (place j l)) (Expr.var d (place j l)) refl
            (node-drafted (coordinate_part j) [] y (variable_of d (place j l)) 0 (pos (place j l)) refl (variable-value (place j l) p) w)
        go false e =
            let a = range-drafted (coordinate_part j) [] y (up_to (get_or ns j 0)) few w in
            let x1 : Raw = record { dims = whole_of (select l ns); ranges = whole_of (select (others l j ++ (j ∷ [])) ns); results = listed (variable_for l) j; constraints = [] } in
            let z = add_range y (pos 0) (pos (get_or ns j 0 - 1)) in
            let a1 = subst (λ (rs : List Range). Drafted (record { dims = whole_of (select l ns); ranges = rs; results = listed (variable_for l) j; constraints = [] }) [] z) more a in
            let k = length (others l j) in
            let q : k < max_variables = omega (arith, few, others-whole j) in
            let v : pos (max_variables + y.map.ranges) ≡ value_of (variable_of s k) = ap (λ (n : ℕ). pos (max_variables + n)) counted ∙ range-value k q in
            result-drafted x1 (push_variable z (max_variables + y.map.ranges)) (Expr.var s k) refl
            (node-drafted x1 [] z (variable_of s k) 0 (pos (max_variables + y.map.ranges)) refl v a1)

    coordinate-none : Drafted (coordinate_part 0) [] (steps (add_selected ns l) (length l) empty_draft)
    unfolding listed others
    coordinate-none =
        bounds-drafted chosen (length l) (omega (arith, short)) (whole_of (select l ns)) chosen-whole

    -- THE MAP THAT SPREADS, AS IT IS MADE
    pub spread-made : (steps (add_coordinate ns l) (length ns) (steps (add_selected ns l) (length l) empty_draft)).map ≡ encoded (spread_map l ns)
    unfolding spread_map
    spread-made =
        let x = steps (add_selected ns l) (length l) empty_draft in
        let w = steps-drafted (add_coordinate ns l) coordinate_part (length ns) x coordinate-none coordinate-next (length ns) (omega arith) in
        drafted-encoded (spread_map l ns) (steps (add_coordinate ns l) (length ns) x) (omega (arith, short, length-map (select l ns) up_to, select-length l ns)) w

-- ---- larger to smaller

-- THE MAP THAT SELECTS, AS IT IS MADE
pub select-made : (ns l : List ℕ) → Choosable ns l → (steps (add_variable l) (length l) (steps (add_size ns) (length ns) empty_draft)).map ≡ encoded (select_map l ns)
unfolding select_map
select-made ns l r =
    let a = bounds-drafted (λ (k : ℕ). up_to (get_or ns k 0)) (length ns) (omega (arith, r.few)) (whole_of ns) (sizes-whole ns) in
    let x = steps (add_size ns) (length ns) empty_draft in
    let b = variables-drafted l (whole_of ns) (λ k h. omega (arith, r.choice.inside k h, r.few)) x a in
    drafted-encoded (select_map l ns) (steps (add_variable l) (length l) x) (omega (arith, r.few, length-map ns up_to)) b

-- ---- the dimensions that a list leaves

module _ (l ns : List ℕ) where
  pub none-kept : KeptAs l ns 0 none_kept
  unfolding others
  none-kept = record { count = refl; dims = refl; sizes = refl }

  pub few-kept : (j : ℕ) (k : Kept) → KeptAs l ns j k → k.count ≤ j
  few-kept j k h = omega (arith, h.count, choice-few (others l j) j (others-choice l j))

  pub kept_next : (j : ℕ) (k r : Kept) → r ≡ keep_next l j (get_or ns j 0) k → KeptAs l ns j k → KeptAs l ns (j + 1) r
  unfolding others
  kept_next j k r e h = subst (λ (n : ℕ). KeptAs l ns n r) (sym (add-one j)) (subst (KeptAs l ns (suc j)) (sym e) (let g = go (is_listed l j) in record { count = g.0; dims = g.1.0; sizes = g.1.1 }))
    where
      long : length (select (others l j) ns) ≡ length (others l j)
      long = select-length (others l j) ns

      go : (b : Bool)
          → ((cond b k (record { count = k.count + 1; dims = set k.dims k.count j; sizes = set k.sizes k.count (get_or ns j 0) })).count ≡ length (cond b (others l j) (others l j ++ (j ∷ []))))
          × (((cond b k (record { count = k.count + 1; dims = set k.dims k.count j; sizes = set k.sizes k.count (get_or ns j 0) })).dims ≡ filled max_rank 0 (cond b (others l j) (others l j ++ (j ∷ []))))
          × ((cond b k (record { count = k.count + 1; dims = set k.dims k.count j; sizes = set k.sizes k.count (get_or ns j 0) })).sizes ≡ filled max_rank 0 (select (cond b (others l j) (others l j ++ (j ∷ []))) ns)))
      go true = (h.count, (h.dims, h.sizes))
      go false = (
        omega (arith, h.count, length-append (others l j) (j ∷ [])),
        (
          ap₂ (λ (xs : List ℕ) (i : ℕ). set xs i j) h.dims h.count ∙ sym (filled_next max_rank 0 (others l j) j),
          ap₂ (λ (xs : List ℕ) (i : ℕ). set xs i (get_or ns j 0)) h.sizes (h.count ∙ sym long)
              ∙ sym (filled_next max_rank 0 (select (others l j) ns) (get_or ns j 0))
              ∙ ap (filled max_rank 0) (sym (map-append (λ (k : ℕ). get_or ns k 0) (others l j) (j ∷ []))),
        ),
      )

-- the front of an array is its list
pub front-is : (n : ℕ) (xs a : List ℕ) (c : ℕ) → a ≡ filled n 0 xs → c ≡ length xs → length xs ≤ n → take c a ≡ xs
front-is n xs a c e f h =
    ap₂ take f (e ∙ filled_is n 0 xs h) ∙ take_at xs (drop (length xs) (replicate n 0)) (length xs) refl
