-- A reshape's map made by steps: its coordinates, a turn of the loop, and what it means. Assumes nothing.
use mathlib.Core.Path.{◌≡◌, refl, sym, ap, ap₂, ◌∙◌, subst}
use mathlib.Core.Bool.{Bool, true, false, cond}
use mathlib.Core.List.{List, [], ◌∷◌, ◌++◌, append_assoc, append-nil}
use Prim.Native.Nat.{ℕ, suc, ◌+◌, ◌*◌, ◌<◌, ◌≤◌}
use native.Mathlib.Omega.{arith}
use native.Mathlib.Numerals.{add-one}
use borrow.Author.Tests.{ne_eqb}
use lib.Dec.{eqb}
use lib.IntN.{pos}
use lib.ListN.{length, get_or, drop, length-map, drop_of_length-le}
use Rattle.radix.specs.Radix.{prod}
use Rattle.radix.proofs.Lists.{rest-of}
use Rattle.expression.specs.Expression.{d, floordiv, modulo, Expr}
use Rattle.expression.specs.Node.{max_variables}
use Rattle.expression.specs.declared.Node.{Node}
use Rattle.expression.specs.declared.Node.TheVariants as N
use Rattle.expression.specs.declared.Leaf.TheVariants.{Constant}
use Rattle.expression.specs.declared.One.TheVariants.{Product, Floordiv, Mod}
use Rattle.folding.specs.Map.{Constraint}
use Rattle.encoding.specs.Postfix.{variable_of, postfix}
use Rattle.map_builder.specs.Raw.{Raw, up_to, whole_of, encoded}
use Rattle.map_builder.specs.Draft.{empty_draft, push_floordiv, push_mod, push_terms, push_linear, steps, add_size}
use Rattle.map_builder.specs.declared.Draft.{Draft}
use Rattle.map_builder.proofs.Drafted.{Drafted, drafted-encoded, with_result, node-drafted, result-drafted}
use Rattle.map_builder.proofs.Steps.{Grown, bounds-drafted, sizes-whole}
use Rattle.map_builder.proofs.Linear.{term_nodes, terms-drafted, linear-grown}
use Rattle.operation_maps.specs.Reshape.{linear_from, linear, digit_trees, split_trees, reshape_map}
use Rattle.operation_builder.specs.ReshapeDraft.{add_digit, add_digits}

-- ---- the loop

module _ (src : List ℕ) (after n : ℕ) (x l q r : Draft) (el : l ≡ push_linear src x) (eq : q ≡ push_floordiv l after) where
  divided : q ≡ push_floordiv (push_linear src x) after
  divided = eq ∙ ap (λ (u : Draft). push_floordiv u after) el

-- a coordinate more: one result, few nodes, no tree under way
pub digit-grown : (src : List ℕ) (first : Bool) (after n : ℕ) (x y : Draft) (m : ℕ) → length src ≤ m → 0 < m → y ≡ add_digit src first after n x
    → (y.at ≤ x.at + (3 * m + 2)) × ((y.under ≡ 0) × (y.map.results ≡ x.map.results + 1))
digit-grown src first after n x y m l p e = go first e
  where
    g : Grown x (push_linear src x) (3 * m)
    g = linear-grown src x (push_linear src x) m l p refl

    go : (b : Bool) → y ≡ add_digit src b after n x → (y.at ≤ x.at + (3 * m + 2)) × ((y.under ≡ 0) × (y.map.results ≡ x.map.results + 1))
    go true e = (
      omega (arith, ap (λ (u : Draft). u.at) e, g.nodes),
      (ap (λ (u : Draft). u.under) e, ap (λ (u : Draft). u.map.results) e ∙ ap (λ (k : ℕ). k + 1) g.results),
    )
    go false e = (
      omega (arith, ap (λ (u : Draft). u.at) e, g.nodes),
      (ap (λ (u : Draft). u.under) e, ap (λ (u : Draft). u.map.results) e ∙ ap (λ (k : ℕ). k + 1) g.results),
    )

pub digits-next : (src dst : List ℕ) (i : ℕ) (x y z : Draft) (first : Bool) (after n : ℕ) → i < length dst → y ≡ add_digit src first after n x → first ≡ eqb i 0 → after ≡ prod (drop (i + 1) dst) → n ≡ get_or dst i 0
    → add_digits src i (drop i dst) x ≡ z → add_digits src (i + 1) (drop (i + 1) dst) y ≡ z
unfolding add_digits
digits-next src dst i x y z first after n h e f a s w =
    ap (add_digits src (i + 1) (drop (i + 1) dst)) (e ∙ ap (λ (b : Bool). add_digit src b after n x) f ∙ ap₂ (λ (p q : ℕ). add_digit src (eqb i 0) p q x) a s)
    ∙ sym (ap (λ (l : List ℕ). add_digits src i l x) (rest-of dst i h))
    ∙ w

pub digits-end : (src dst : List ℕ) (i : ℕ) (x : Draft) → length dst ≤ i → add_digits src i (drop i dst) x ≡ x
unfolding add_digits
digits-end src dst i x h = ap (λ (l : List ℕ). add_digits src i l x) (drop_of_length-le dst h)

-- ---- what it means: the nodes of the linear index

linear-nodes-from : (e : Expr) (k : ℕ) (ns : List ℕ) → 0 < k → postfix (linear_from e k ns) ≡ postfix e ++ term_nodes k ns
unfolding linear_from postfix
linear-nodes-from e k [] h = sym (append-nil (postfix e))
linear-nodes-from e k (n ∷ ns) h =
    let three = variable_of d k ∷ N.One (Product (pos (prod ns))) ∷ N.Sum ∷ [] in
    linear-nodes-from (Expr.add e (Expr.mul (pos (prod ns)) (Expr.var d k))) (suc k) ns (omega arith)
    ∙ append_assoc (postfix e) three (term_nodes (suc k) ns)
    ∙ ap (λ (l : List Node). postfix e ++ l)
    (ap₂ (λ (b : Bool) (m : ℕ). cond b (variable_of d k ∷ N.One (Product (pos (prod ns))) ∷ []) three ++ term_nodes m ns) (sym (ne_eqb k 0 (λ q. omega (arith, q, h)))) (sym (add-one k)))

linear-drafted : (x : Raw) (y : Draft) (ns : List ℕ) → length ns ≤ max_variables → Drafted x [] y → Drafted x (postfix (linear ns)) (push_linear ns y)
unfolding linear postfix
linear-drafted x y [] h w = node-drafted x [] y (N.Leaf (Constant (pos 0))) 1 (pos 0) refl refl w
linear-drafted x y (n ∷ ns) h w =
    subst (λ (l : List Node). Drafted x l (push_terms 0 (n ∷ ns) y)) (sym (linear-nodes-from (Expr.mul (pos (prod ns)) (Expr.var d 0)) 1 ns (omega arith)))
    (terms-drafted x [] y 0 (n ∷ ns) (omega arith) w)

-- ---- the coordinates over the other shape

digit_tree : List ℕ → Bool → ℕ → ℕ → Expr
digit_tree src true after n = Expr.op floordiv (linear src) after
digit_tree src false after n = Expr.op modulo (Expr.op floordiv (linear src) after) n

digit-drafted : (src : List ℕ) (first : Bool) (after n : ℕ) (x : Raw) (y : Draft) → x.constraints ≡ [] → length src ≤ max_variables → Drafted x [] y → Drafted (with_result x (digit_tree src first after n)) [] (add_digit src first after n y)
unfolding digit_tree postfix
digit-drafted src true after n x y c h w =
    let a = linear-drafted x y src h w in
    let b = node-drafted x (postfix (linear src)) (push_linear src y) (N.One (Floordiv (pos after))) 4 (pos after) refl refl a in
    result-drafted x (push_floordiv (push_linear src y) after) (Expr.op floordiv (linear src) after) c b
digit-drafted src false after n x y c h w =
    let a = linear-drafted x y src h w in
    let b = node-drafted x (postfix (linear src)) (push_linear src y) (N.One (Floordiv (pos after))) 4 (pos after) refl refl a in
    let e = node-drafted x (postfix (Expr.op floordiv (linear src) after)) (push_floordiv (push_linear src y) after) (N.One (Mod (pos n))) 5 (pos n) refl refl b in
    result-drafted x (push_mod (push_floordiv (push_linear src y) after) n) (Expr.op modulo (Expr.op floordiv (linear src) after) n) c e

abbrev with_results : Raw → List Expr → Raw
with_results x es = record { dims = x.dims; ranges = x.ranges; results = x.results ++ es; constraints = [] }

abbrev digits_from : List ℕ → ℕ → List ℕ → List Expr
digits_from src k [] = []
digits_from src k (n ∷ ns) = digit_tree src (eqb k 0) (prod ns) n ∷ digits_from src (k + 1) ns

digits-drafted : (src : List ℕ) (k : ℕ) (dst : List ℕ) (x : Raw) (y : Draft) → x.constraints ≡ [] → length src ≤ max_variables → Drafted x [] y → Drafted (with_results x (digits_from src k dst)) [] (add_digits src k dst y)
unfolding add_digits
digits-drafted src k [] x y c h w =
    subst (λ (es : List Expr). Drafted (record { dims = x.dims; ranges = x.ranges; results = es; constraints = [] }) [] y) (sym (append-nil x.results))
    (subst (λ (cs : List Constraint). Drafted (record { dims = x.dims; ranges = x.ranges; results = x.results; constraints = cs }) [] y) c w)
digits-drafted src k (n ∷ dst) x y c h w =
    let t = digit_tree src (eqb k 0) (prod dst) n in
    let z = add_digit src (eqb k 0) (prod dst) n y in
    let v = digit-drafted src (eqb k 0) (prod dst) n x y c h w in
    let r = digits-drafted src (k + 1) dst (with_result x t) z refl h v in
    subst (λ (es : List Expr). Drafted (record { dims = x.dims; ranges = x.ranges; results = es; constraints = [] }) [] (add_digits src (k + 1) dst z)) (append_assoc x.results (t ∷ []) (digits_from src (k + 1) dst)) r

later-digits : (src : List ℕ) (k : ℕ) (dst : List ℕ) → 0 < k → digits_from src k dst ≡ digit_trees dst (linear src)
unfolding digit_trees digit_tree
later-digits src k [] h = refl
later-digits src k (n ∷ dst) h =
    ap₂ (λ (e : Expr) (es : List Expr). e ∷ es) (ap (λ (b : Bool). digit_tree src b (prod dst) n) (ne_eqb k 0 (λ q. omega (arith, q, h)))) (later-digits src (k + 1) dst (omega arith))

all_digits : (src dst : List ℕ) → digits_from src 0 dst ≡ split_trees dst (linear src)
unfolding split_trees digit_tree
all_digits src [] = refl
all_digits src (n ∷ dst) = ap (λ (es : List Expr). Expr.op floordiv (linear src) (prod dst) ∷ es) (later-digits src 1 dst (omega arith))

-- THE MAP OF A RESHAPE, AS IT IS MADE
pub reshape-made : (src dst : List ℕ) → length src ≤ max_variables → (add_digits src 0 dst (steps (add_size src) (length src) empty_draft)).map ≡ encoded (reshape_map src dst)
unfolding reshape_map
reshape-made src dst n =
    let z = steps (add_size src) (length src) empty_draft in
    let x : Raw = record { dims = whole_of src; ranges = []; results = []; constraints = [] } in
    let a = bounds-drafted (λ (k : ℕ). up_to (get_or src k 0)) (length src) n (whole_of src) (sizes-whole src) in
    let b = digits-drafted src 0 dst x z refl n a in
    let e = subst (λ (es : List Expr). Drafted (record { dims = whole_of src; ranges = []; results = es; constraints = [] }) [] (add_digits src 0 dst z)) (all_digits src dst) b in
    drafted-encoded (reshape_map src dst) (add_digits src 0 dst z) (omega (arith, n, length-map src up_to)) e
