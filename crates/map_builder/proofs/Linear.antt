-- The linear index made term by term: a turn of its loop, how it grows, and its nodes. Assumes nothing.
use mathlib.Core.Path.{◌≡◌, refl, sym, ap, ap₂, ◌∙◌, subst}
use mathlib.Core.Bool.{Bool, true, false, cond}
use mathlib.Core.List.{List, [], ◌∷◌, ◌++◌, append_assoc, append-nil}
use Prim.Native.Nat.{ℕ, zero, suc, ◌+◌, ◌-◌, ◌*◌, ◌<◌, ◌≤◌, min}
use native.Mathlib.Nat.{mul-le-mul_right, min-eq_left}
use native.Mathlib.Omega.{arith}
use borrow.Author.Tests.{eq-eqb}
use lib.Dec.{eqb}
use lib.IntN.{ℤ, pos}
use lib.ListN.{length, take, drop, length-drop, drop_of_length-le}
use lib.Seq.{take_all}
use Rattle.radix.specs.Radix.{max_size, max_count, prod, Bounded}
use Rattle.radix.proofs.Lists.{rest-of}
use Rattle.expression.specs.Expression.{d}
use Rattle.expression.specs.Node.{max_variables}
use Rattle.expression.specs.declared.Node.{Node}
use Rattle.expression.specs.declared.Node.TheVariants as N
use Rattle.expression.specs.declared.One.TheVariants.{Product}
use Rattle.encoding.specs.Postfix.{variable_of}
use Rattle.map_builder.specs.Raw.{Raw}
use Rattle.map_builder.specs.Draft.{push_variable, push_sum, push_product, push_term, push_terms, push_linear}
use Rattle.map_builder.specs.declared.Draft.{Draft}
use Rattle.map_builder.proofs.Drafted.{Drafted, node-drafted, variable-value}
use Rattle.map_builder.proofs.Steps.{Grown, pushed-grown, grown-then}

-- ---- a turn of the loop

module _ (x y z : Draft) (k f : ℕ) (w : ℤ) (e : y ≡ push_variable x k) (g : z ≡ push_product y w) (ew : w ≡ pos f) where
  two : z ≡ push_product (push_variable x k) (pos f)
  two = g ∙ ap₂ push_product e ew

  pub term-first : k ≡ 0 → z ≡ push_term x k f
  term-first q =
      two
      ∙ sym (ap (λ (b : Bool). cond b (push_product (push_variable x k) (pos f)) (push_sum (push_product (push_variable x k) (pos f)))) (eq-eqb k 0 q))

pub terms-next : (ns : List ℕ) (i : ℕ) (x y z : Draft) (f : ℕ) → i < length ns → y ≡ push_term x i f → f ≡ prod (drop (i + 1) ns) → push_terms i (drop i ns) x ≡ z → push_terms (i + 1) (drop (i + 1) ns) y ≡ z
unfolding push_terms
terms-next ns i x y z f h e p w =
    ap (push_terms (i + 1) (drop (i + 1) ns)) (e ∙ ap (push_term x i) p)
    ∙ sym (ap (λ (l : List ℕ). push_terms i l x) (rest-of ns i h))
    ∙ w

pub terms-end : (ns : List ℕ) (i : ℕ) (x : Draft) → length ns ≤ i → push_terms i (drop i ns) x ≡ x
unfolding push_terms
terms-end ns i x h = ap (λ (l : List ℕ). push_terms i l x) (drop_of_length-le ns h)

pub linear-some : (ns : List ℕ) (x : Draft) → (length ns ≡ 0 → ⊥) → push_terms 0 ns x ≡ push_linear ns x
linear-some [] x h = absurd (h refl)
linear-some (n ∷ ns) x h = refl

-- products of the sizes from a place on
pub rest-product : (ns : List ℕ) (i : ℕ) → Bounded max_size ns → prod (drop i ns) ≤ prod ns
unfolding Bounded
rest-product ns zero b = omega arith
rest-product [] (suc i) b = omega arith
rest-product (n ∷ ns) (suc i) b =
    omega (arith, rest-product ns i (λ k h. b (suc k) (omega arith)), mul-le-mul_right (prod ns) (b 0 (omega arith)).0)

pub rest-bounded : (ns : List ℕ) (i : ℕ) → Bounded max_size ns → Bounded max_size (drop i ns)
unfolding Bounded
rest-bounded ns zero b k h = b k h
rest-bounded [] (suc i) b k h = absurd (omega arith)
rest-bounded (n ∷ ns) (suc i) b k h = rest-bounded ns i (λ j g. b (suc j) (omega arith)) k h

-- the part of a slice from a place on
pub rest-whole : (ns : List ℕ) (i : ℕ) → take (length ns - i) (drop i ns) ≡ drop i ns
rest-whole ns i = take_all (length ns - i) (drop i ns) (omega (arith, length-drop i ns))

pub part-bounded : (ns : List ℕ) (i : ℕ) → Bounded max_size ns → Bounded max_size (take (length ns - i) (drop i ns))
part-bounded ns i b = subst (Bounded max_size) (sym (rest-whole ns i)) (rest-bounded ns i b)

pub part-product : (ns : List ℕ) (i r : ℕ) → Bounded max_size ns → prod ns ≤ max_count → r ≡ min (prod (take (length ns - i) (drop i ns))) (max_count + 1) → r ≡ prod (drop i ns)
part-product ns i r b m e =
    e ∙ ap (λ (l : List ℕ). min (prod l) (max_count + 1)) (rest-whole ns i) ∙ min-eq_left (omega (arith, rest-product ns i b))

-- ---- growth

pub term-grown : (x : Draft) (k f : ℕ) → Grown x (push_term x k f) 3
term-grown x k f = go (eqb k 0)
  where
    go : (b : Bool) → Grown x (cond b (push_product (push_variable x k) (pos f)) (push_sum (push_product (push_variable x k) (pos f)))) 3
    go true = record { nodes = omega arith; under = λ h. omega (arith, h); results = refl; constraints = refl }
    go false = record { nodes = omega arith; under = λ h. omega (arith, h); results = refl; constraints = refl }

terms-grown : (k : ℕ) (ns : List ℕ) (x : Draft) → Grown x (push_terms k ns x) (3 * length ns)
unfolding push_terms
terms-grown k [] x = record { nodes = omega arith; under = λ h. h; results = refl; constraints = refl }
terms-grown k (n ∷ ns) x =
    let g = grown-then x (push_term x k (prod ns)) (push_terms (k + 1) ns (push_term x k (prod ns))) 3 (3 * length ns) (term-grown x k (prod ns)) (terms-grown (k + 1) ns (push_term x k (prod ns))) in
    record { nodes = omega (arith, g.nodes); under = g.under; results = g.results; constraints = g.constraints }

pub linear-grown : (ns : List ℕ) (x y : Draft) (m : ℕ) → length ns ≤ m → 0 < m → y ≡ push_linear ns x → Grown x y (3 * m)
linear-grown [] x y m l p e = let g = pushed-grown x y 1 (pos 0) e in record { nodes = omega (arith, g.nodes); under = g.under; results = g.results; constraints = g.constraints }
linear-grown (n ∷ ns) x y m l p e =
    let g = terms-grown 0 (n ∷ ns) x in
    let h = subst (λ (u : Draft). Grown x u (3 * length (n ∷ ns))) (sym e) g in
    record { nodes = omega (arith, h.nodes); under = h.under; results = h.results; constraints = h.constraints }

-- ---- its nodes

abbrev pub term_node : ℕ → ℕ → List Node
term_node k f = cond (eqb k 0) (variable_of d k ∷ N.One (Product (pos f)) ∷ []) (variable_of d k ∷ N.One (Product (pos f)) ∷ N.Sum ∷ [])

abbrev pub term_nodes : ℕ → List ℕ → List Node
term_nodes k [] = []
term_nodes k (n ∷ ns) = term_node k (prod ns) ++ term_nodes (k + 1) ns

two-drafted : (x : Raw) (ns : List Node) (y : Draft) (k f : ℕ) → k < max_variables → Drafted x ns y
    → Drafted x (ns ++ (variable_of d k ∷ N.One (Product (pos f)) ∷ [])) (push_product (push_variable y k) (pos f))
two-drafted x ns y k f h w =
    let a = node-drafted x ns y (variable_of d k) 0 (pos k) refl (variable-value k h) w in
    let b = node-drafted x (ns ++ (variable_of d k ∷ [])) (push_variable y k) (N.One (Product (pos f))) 3 (pos f) refl refl a in
    subst (λ (l : List Node). Drafted x l (push_product (push_variable y k) (pos f))) (append_assoc ns (variable_of d k ∷ []) (N.One (Product (pos f)) ∷ [])) b

term-drafted : (x : Raw) (ns : List Node) (y : Draft) (k f : ℕ) → k < max_variables → Drafted x ns y → Drafted x (ns ++ term_node k f) (push_term y k f)
term-drafted x ns y k f h w = go (eqb k 0)
  where
    go : (b : Bool)
        → Drafted x (ns ++ cond b (variable_of d k ∷ N.One (Product (pos f)) ∷ []) (variable_of d k ∷ N.One (Product (pos f)) ∷ N.Sum ∷ []))
        (cond b (push_product (push_variable y k) (pos f)) (push_sum (push_product (push_variable y k) (pos f))))
    go true = two-drafted x ns y k f h w
    go false =
        let a = two-drafted x ns y k f h w in
        let b = node-drafted x (ns ++ (variable_of d k ∷ N.One (Product (pos f)) ∷ [])) (push_product (push_variable y k) (pos f)) N.Sum 2 (pos 0) refl refl a in
        subst (λ (l : List Node). Drafted x l (push_sum (push_product (push_variable y k) (pos f)))) (append_assoc ns (variable_of d k ∷ N.One (Product (pos f)) ∷ []) (N.Sum ∷ [])) b

pub terms-drafted : (x : Raw) (ns : List Node) (y : Draft) (k : ℕ) (sizes : List ℕ) → k + length sizes ≤ max_variables → Drafted x ns y → Drafted x (ns ++ term_nodes k sizes) (push_terms k sizes y)
unfolding push_terms
terms-drafted x ns y k [] h w = subst (λ (l : List Node). Drafted x l y) (sym (append-nil ns)) w
terms-drafted x ns y k (n ∷ sizes) h w =
    let a = term-drafted x ns y k (prod sizes) (omega arith) w in
    let b = terms-drafted x (ns ++ term_node k (prod sizes)) (push_term y k (prod sizes)) (k + 1) sizes (omega arith) a in
    subst (λ (l : List Node). Drafted x l (push_terms (k + 1) sizes (push_term y k (prod sizes)))) (append_assoc ns (term_node k (prod sizes)) (term_nodes (k + 1) sizes)) b
