-- A folded sum, as a tree, folds to itself: folding again changes nothing. Assumes nothing.
use mathlib.Core.Path.{◌≡◌, refl, sym, ap, ap₂, ◌∙◌, subst}
use mathlib.Core.Logic.{◌≢◌}
use mathlib.Core.Bool.{Bool, true, false, cond}
use Prim.Native.Nat.{ℕ, zero, suc, ◌+◌, ◌*◌, ◌^◌}
use lib.Dec.{T}
use lib.IntN.{ℤ, pos, negsuc, +ℤ_idl, *ℤ_comm, *ℤ-zero}
use Rattle.expression.specs.Expression.{Kind, Op, Expr, Range, eqℤ}
use Rattle.expression.proofs.Within.{eqℤ-eq}
use Rattle.folding.specs.Sum.{Atom, Sum, sum_size}
use Rattle.folding.specs.Fold.{cons_term, place_term, insert_term, add_constant, add_sums, scale_sum, stays, apply_rule, apply_rules, fuel_for, fold_sum, term_tree, constant_tree, atom_tree, sum_tree, join_terms}
use Rattle.folding.specs.Folded.{Above, FoldedA, FoldedS}
use Rattle.folding.proofs.Atoms.{outcome}
use Rattle.folding.proofs.Divisors.{one-l, PosE}
pub use Rattle.folding.proofs.Merging.{above-trans, above-insert, above-plusℤ}
unfoldable pub use Rattle.folding.proofs.Ending.{Good}
pub use Rattle.folding.proofs.Ending.{step-good, flag-le, weight-enough, fold-folded}

-- u put behind t, whose constant is dropped
unfoldable pub app : Sum → Sum → Sum
app (Sum.const k) u = u
app (Sum.term c a t) u = Sum.term c a (app t u)

app_assoc : (t u v : Sum) → app (app t u) v ≡ app t (app u v)
unfolding app
app_assoc (Sum.const k) u v = refl
app_assoc (Sum.term c a t) u v = ap (λ x. Sum.term c a x) (app_assoc t u v)

-- the constant is 0
unfoldable pub Bare : Sum → Type 0
Bare (Sum.const k) = k ≡ pos 0
Bare (Sum.term c a t) = Bare t

bare-app : (t u : Sum) → Bare u → Bare (app t u)
unfolding app Bare
bare-app (Sum.const k) u h = h
bare-app (Sum.term c a t) u h = bare-app t u h

app-bare : (t : Sum) → Bare t → app t (Sum.const (pos 0)) ≡ t
unfolding app Bare
app-bare (Sum.const k) h = ap Sum.const (sym h)
app-bare (Sum.term c a t) h = ap (λ x. Sum.term c a x) (app-bare t h)

add-zero : (t : Sum) → add_constant (pos 0) t ≡ t
unfolding add_constant
add-zero (Sum.const k) = ap Sum.const (+ℤ_idl k)
add-zero (Sum.term c a t) = ap (λ x. Sum.term c a x) (add-zero t)

cons-is : (c : ℤ) (a : Atom) (t : Sum) → c ≢ pos 0 → cons_term c a t ≡ Sum.term c a t
unfolding cons_term
cons-is (pos zero) a t h = absurd (h refl)
cons-is (pos (suc n)) a t h = refl
cons-is (negsuc n) a t h = refl

insert-is : (c : ℤ) (a : Atom) (t : Sum) → c ≢ pos 0 → Above a t → insert_term c a t ≡ Sum.term c a t
unfolding insert_term place_term Above
insert-is c a (Sum.const k) h p = cons-is c a (Sum.const k) h
insert-is c a (Sum.term e b t) h p = ap (λ o. place_term o c a e b t (insert_term c a t)) p.0 ∙ cons-is c a (Sum.term e b t) h

module _ (β : Kind → ℕ → Range) where
  add_is : (t u : Sum) → Bare t → FoldedS β (app t u) → add_sums t u ≡ app t u
  unfolding add_sums app Bare FoldedS
  add_is (Sum.const k) u b p = ap (λ z. add_constant z u) b ∙ add-zero u
  add_is (Sum.term c a t) u b p = ap (λ x. insert_term c a x) (add_is t u b p.3) ∙ insert-is c a (app t u) p.0 p.2

  -- the front part of a folded sum is folded
  above-front : (a : Atom) (t u : Sum) → Above a (app t u) → Above a t
  unfolding app Above
  above-front a (Sum.const k) u h = tt
  above-front a (Sum.term c b t) u h = (h.0, above-front a t u h.1)

  folded-front : (t u : Sum) → FoldedS β (app t u) → FoldedS β t
  unfolding app FoldedS
  folded-front (Sum.const k) u p = tt
  folded-front (Sum.term c a t) u p = (p.0, p.1, above-front a t u p.2, folded-front t u p.3)

  pub one-term : (c : ℤ) (a : Atom) (x : Expr) → c ≢ pos 0 → fold_sum β x ≡ Sum.term (pos 1) a (Sum.const (pos 0))
      → fold_sum β (term_tree c x) ≡ Sum.term c a (Sum.const (pos 0))
  unfolding term_tree fold_sum scale_sum
  one-term c a x h e = go (eqℤ c (pos 1)) (λ w. eqℤ-eq c (pos 1) w)
    where
      go : (b : Bool) → (T b → c ≡ pos 1) → fold_sum β (cond b x (Expr.mul c x)) ≡ Sum.term c a (Sum.const (pos 0))
      go true f = e ∙ ap (λ z. Sum.term z a (Sum.const (pos 0))) (sym (f tt))
      go false f =
          ap (λ t. scale_sum c t) e
          ∙ ap₂ (λ y z. cons_term y a (Sum.const z)) (*ℤ_comm c (pos 1) ∙ one-l c) (*ℤ-zero c)
          ∙ cons-is c a (Sum.const (pos 0)) h

  stuck-run : (n : ℕ) (o : Op) (t : Sum) (c : ℕ) → apply_rule β o t c ≡ stays o t c
      → apply_rules (suc n) β o t c ≡ Sum.term (pos 1) (Atom.op o t c) (Sum.const (pos 0))
  unfolding apply_rules stays
  stuck-run n o t c e = ap (λ x. outcome (λ u d. apply_rules n β o u d) x) e

  pub folded_back : (t u : Sum) → FoldedS β (app t u) → FoldedS β u
  unfolding app FoldedS
  folded_back (Sum.const k) u p = p
  folded_back (Sum.term c a t) u p = folded_back t u p.3

  pub const-end : (k : ℤ) (x : Expr) → Bare (fold_sum β x) → FoldedS β (app (fold_sum β x) (Sum.const k))
      → fold_sum β (constant_tree k x) ≡ app (fold_sum β x) (Sum.const k)
  unfolding constant_tree fold_sum
  const-end k x b p = go (eqℤ k (pos 0)) (λ w. eqℤ-eq k (pos 0) w)
    where
      go : (y : Bool) → (T y → k ≡ pos 0) → fold_sum β (cond y x (Expr.add x (Expr.const k))) ≡ app (fold_sum β x) (Sum.const k)
      go true f = sym (ap (λ z. app (fold_sum β x) (Sum.const z)) (f tt) ∙ app-bare (fold_sum β x) b)
      go false f = add_is (fold_sum β x) (Sum.const k) b p

  -- one term more
  unfoldable pub single : ℤ → Atom → Sum
  single c a = Sum.term c a (Sum.const (pos 0))

  pub regroup : (t : Sum) (c : ℤ) (a : Atom) (u : Sum) → app (app t (single c a)) u ≡ app t (Sum.term c a u)
  unfolding app single
  regroup t c a u = app_assoc t (single c a) u

  pub term-end : (x y : Expr) (c : ℤ) (a : Atom) (t : Sum) → Bare (fold_sum β x) → FoldedS β (app (fold_sum β x) (Sum.term c a t))
      → fold_sum β y ≡ single c a → fold_sum β (Expr.add x y) ≡ app (fold_sum β x) (single c a)
  unfolding fold_sum
  term-end x y c a t b p e =
      let f = fold_sum β x in
      let whole = subst (λ u. FoldedS β u) (sym (regroup f c a t)) p in
      ap (λ u. add_sums f u) e ∙ add_is f (single c a) b (folded-front (app f (single c a)) t whole)

  pub bare-single : (t : Sum) (c : ℤ) (a : Atom) → Bare (app t (single c a))
  unfolding Bare single
  bare-single t c a = bare-app t (single c a) refl

  mutual
    unfolding atom_tree fold_sum fuel_for FoldedS app single

    pub atom-again : (a : Atom) → FoldedA β a → fold_sum β (atom_tree a) ≡ Sum.term (pos 1) a (Sum.const (pos 0))
    atom-again (Atom.var k n) p = refl
    atom-again (Atom.op o t c) p =
        ap (λ u. apply_rules (fuel_for u c) β o u c) (sum-again t p.1) ∙ stuck-run (sum_size t * (2 ^ 41 + 2) + (c + c + 1)) o t c p.2

    pub sum-again : (t : Sum) → FoldedS β t → fold_sum β (sum_tree t) ≡ t
    sum-again (Sum.const k) p = refl
    sum-again (Sum.term c a t) p =
        let e = one-term c a (atom_tree a) p.0 (atom-again a p.1) in
        join-again t (term_tree c (atom_tree a)) (subst (λ u. Bare u) (sym e) (bare-single (Sum.const (pos 0)) c a)) (subst (λ u. FoldedS β (app u t)) (sym e) p)
        ∙ ap (λ u. app u t) e

    join-again : (t : Sum) (x : Expr) → Bare (fold_sum β x) → FoldedS β (app (fold_sum β x) t) → fold_sum β (join_terms t x) ≡ app (fold_sum β x) t
    join-again (Sum.const k) x b p = const-end k x b p
    join-again (Sum.term c a t) x b p =
        let s = fold_sum β x in
        let y = term_tree c (atom_tree a) in
        let f = folded_back s (Sum.term c a t) p in
        let e = term-end x y c a t b p (one-term c a (atom_tree a) f.0 (atom-again a f.1)) in
        let whole = subst (λ u. FoldedS β u) (sym (regroup s c a t)) p in
        join-again t (Expr.add x y) (subst (λ u. Bare u) (sym e) (bare-single s c a)) (subst (λ u. FoldedS β (app u t)) (sym e) whole)
        ∙ ap (λ u. app u t) e
        ∙ regroup s c a t

  -- folding what was folded changes nothing
  pub fold-again : (e : Expr) → PosE e → fold_sum β (sum_tree (fold_sum β e)) ≡ fold_sum β e
  fold-again e h = sum-again (fold_sum β e) (fold-folded β e h)
