-- The map of a reshape names the pairs of points with one row-major number. Assumes nothing.
use mathlib.Core.Path.{◌≡◌, refl, sym, ap, ap₂, ◌∙◌, subst}
use mathlib.Core.List.{List, [], ◌∷◌, map}
use Prim.Native.Nat.{ℕ, suc, ◌+◌, ◌-◌, ◌*◌, ◌/◌, ◌%◌, ◌<◌}
use native.Mathlib.Nat.{mul-add-div_right, mul-add-mod_self_right, mod-eq_of_lt, mod-lt, mul_comm, mul_assoc, div-add-mod', div-lt_iff_lt-mul, mul-pos}
use native.Mathlib.Omega.{arith}
use lib.IntN.{ℤ, pos, ◌+ℤ◌, ◌*ℤ◌, +ℤ_assoc, +ℤ_idr}
use Rattle.integer.specs.Floor.{floor_div, floor_mod}
use Rattle.radix.specs.Radix.{prod, row_major, digits, In, none, more}
use Rattle.radix.proofs.Radix.{below, digits-row_major, row_major-digits, digits_in}
use Rattle.expression.specs.Expression.{Kind, d, Expr, eval, op_of}
use Rattle.expression.specs.Value.{point_of}
use Rattle.folding.specs.Map.{values_of, Holds}
use Rattle.operation_maps.specs.Points as points
use Rattle.map_builder.specs.Raw.{whole_of}
use Rattle.operation_maps.specs.Points.{Inside, Names, Points, Means}
use Rattle.operation_maps.specs.Reshape.{linear_from, linear, digit_trees, split_trees, reshape_map, reshape_pairs, Positive}
use Rattle.operation_maps.proofs.AxesNamed.{in_whole, whole_in, At, at_all}

-- ---- points inside a shape

pub record Natural (xs : List ℤ) (ns : List ℕ) : Type 0 where
  pub point : List ℕ
  pub is : xs ≡ map pos point
  pub inside : In point ns

pub inside-natural : (xs : List ℤ) (ns : List ℕ) → Positive ns → Inside xs (whole_of ns) → Natural xs ns
inside-natural [] [] g points.none = record { point = []; is = refl; inside = none }
inside-natural [] (n ∷ ns) g i = elim i [ ]
inside-natural (x ∷ xs) [] g i = elim i [ ]
inside-natural (x ∷ xs) (n ∷ ns) g (points.more h i) =
    let w = in_whole x 0 (n - 1) h in
    let r = inside-natural xs ns g.1 i in
    let l : w.n < n = omega (arith, w.high, g.0) in
    record {
      point = w.n ∷ r.point;
      is = ap₂ (λ (z : ℤ) (zs : List ℤ). z ∷ zs) w.is r.is;
      inside = more l r.inside;
    }

pub natural-inside : {xs ns : List ℕ} → In xs ns → Inside (map pos xs) (whole_of ns)
natural-inside none = points.none
natural-inside (more {e} {d} h i) = points.more (whole_in e 0 (d - 1) (omega arith) (omega arith)) (natural-inside i)

-- ---- the linear index

module _ (ρ : Kind → ℕ → ℤ) where
  linear-from : (acc : Expr) (k : ℕ) {xs ns : List ℕ} → In xs ns → At ρ k (map pos xs) → eval ρ (linear_from acc k ns) ≡ eval ρ acc +ℤ pos (row_major ns xs)
  unfolding linear_from eval
  linear-from acc k none a = sym (+ℤ_idr (eval ρ acc))
  linear-from acc k (more {e = x} {d = n} {es = xs} {ds = ns} h i) a =
      linear-from (Expr.add acc (Expr.mul (pos (prod ns)) (Expr.var d k))) (suc k) i a.1
      ∙ ap (λ (z : ℤ). (eval ρ acc +ℤ pos (prod ns) *ℤ z) +ℤ pos (row_major ns xs)) a.0
      ∙ +ℤ_assoc (eval ρ acc) (pos (prod ns * x)) (pos (row_major ns xs))
      ∙ ap (λ (m : ℕ). eval ρ acc +ℤ pos (m + row_major ns xs)) (mul_comm (prod ns) x)

  pub linear-value : {xs ns : List ℕ} → In xs ns → At ρ 0 (map pos xs) → eval ρ (linear ns) ≡ pos (row_major ns xs)
  unfolding linear eval
  linear-value none a = refl
  linear-value (more {e = x} {d = n} {es = xs} {ds = ns} h i) a =
      linear-from (Expr.mul (pos (prod ns)) (Expr.var d 0)) 1 i a.1
      ∙ ap (λ (z : ℤ). pos (prod ns) *ℤ z +ℤ pos (row_major ns xs)) a.0
      ∙ ap (λ (m : ℕ). pos (m + row_major ns xs)) (mul_comm (prod ns) x)

-- ---- its digits

module _ (l n p : ℕ) (hn : 0 < n) (hp : 0 < p) where
  whole : l ≡ l / (n * p) * n * p + l % (n * p)
  whole = sym (div-add-mod' l (n * p)) ∙ ap (λ (m : ℕ). m + l % (n * p)) (sym (mul_assoc (l / (n * p)) n p))

  rest_lt : l % (n * p) < n * p
  rest_lt = mod-lt l (mul-pos hn hp)

  digit : l / p % n ≡ l % (n * p) / p
  digit =
      ap (λ (m : ℕ). m / p % n) whole
      ∙ ap (λ (m : ℕ). m % n) (mul-add-div_right hp (l / (n * p) * n) (l % (n * p)))
      ∙ mul-add-mod_self_right (l / (n * p)) n (l % (n * p) / p)
      ∙ mod-eq_of_lt ((div-lt_iff_lt-mul hp).1 rest_lt)

  rest : l % (n * p) % p ≡ l % p
  rest = sym (ap (λ (m : ℕ). m % p) whole ∙ mul-add-mod_self_right (l / (n * p) * n) p (l % (n * p)))

pub prod-positive : (ns : List ℕ) → Positive ns → 0 < prod ns
prod-positive [] h = omega arith
prod-positive (n ∷ ns) h = mul-pos h.0 (prod-positive ns h.1)

module _ (ρ : Kind → ℕ → ℤ) (e : Expr) (v : ℕ) (is : eval ρ e ≡ pos v) where
  digits_value : (ns : List ℕ) → Positive ns → values_of ρ (digit_trees ns e) ≡ map pos (digits ns (v % prod ns))
  unfolding digit_trees eval op_of
  digits_value [] h = refl
  digits_value (n ∷ ns) h =
      let p = prod-positive ns h.1 in
      ap₂ (λ (x : ℤ) (y : List ℤ). x ∷ y)
      (ap (λ (z : ℤ). floor_mod (floor_div z (prod ns)) n) is ∙ ap pos (digit v n (prod ns) h.0 p))
      (digits_value ns h.1 ∙ ap (λ (m : ℕ). map pos (digits ns m)) (sym (rest v n (prod ns) h.0 p)))

  pub split-value : (ns : List ℕ) → Positive ns → values_of ρ (split_trees ns e) ≡ map pos (digits ns v)
  unfolding split_trees eval op_of
  split-value [] h = refl
  split-value (n ∷ ns) h = ap₂ (λ (x : ℤ) (y : List ℤ). x ∷ y) (ap (λ (z : ℤ). floor_div z (prod ns)) is) (digits_value ns h.1)

-- ---- the map

module _ (src dst : List ℕ) (gs : Positive src) (gd : Positive dst) (same : prod src ≡ prod dst) where
  value : (x : List ℤ) (xs : List ℕ) (v : List ℤ) → x ≡ map pos xs → In xs src → values_of (point_of x v) (split_trees dst (linear src)) ≡ map pos (digits dst (row_major src xs))
  value x xs v e i =
      split-value (point_of x v) (linear src) (row_major src xs)
      (linear-value (point_of x v) i (subst (λ (l : List ℤ). At (point_of x v) 0 l) e (at_all x v))) dst gd

  pub reshape-means : Means (reshape_map src dst) (reshape_pairs src dst)
  unfolding reshape_map Holds
  reshape-means x y = (to, from)
    where
      to : Names (reshape_map src dst) x y → Points (reshape_pairs src dst) x y
      to h =
          let w = inside-natural x src gs h.inside-dims in
          let l : row_major src w.point < prod dst = omega (arith, below w.inside, same) in
          record {
            from = w.point;
            to = digits dst (row_major src w.point);
            from_is = w.is;
            to_is = sym h.results ∙ value x w.point h.values w.is w.inside;
            related = (w.inside, (digits_in dst (row_major src w.point) l, sym (row_major-digits dst (row_major src w.point) l)));
          }

      from : Points (reshape_pairs src dst) x y → Names (reshape_map src dst) x y
      from p =
          let r = p.related in
          record {
            values = [];
            inside-dims = subst (λ (l : List ℤ). Inside l (whole_of src)) (sym p.from_is) (natural-inside r.0);
            inside-ranges = points.none;
            holds = tt;
            results =
                value x p.from [] p.from_is r.0
                ∙ ap (λ (n : ℕ). map pos (digits dst n)) r.1.1
                ∙ ap (map pos) (digits-row_major r.1.0)
                ∙ sym p.to_is;
          }

-- Both maps of a reshape name its pairs.
module _ (out inn : List ℕ) (go : Positive out) (gi : Positive inn) (same : prod out ≡ prod inn) where
  pub reshape-out : Means (reshape_map out inn) (reshape_pairs out inn)
  reshape-out = reshape-means out inn go gi same

  pub reshape-in : Means (reshape_map inn out) (λ (i o : List ℕ). reshape_pairs out inn o i)
  reshape-in x y =
      let m = reshape-means inn out gi go (sym same) x y in (
        λ h. let p = m.0 h in let r = p.related in record { from = p.from; to = p.to; from_is = p.from_is; to_is = p.to_is; related = (r.1.0, (r.0, sym r.1.1)) },
        λ p. let r = p.related in m.1 (record { from = p.from; to = p.to; from_is = p.from_is; to_is = p.to_is; related = (r.1.0, (r.0, sym r.1.1)) }),
      )
