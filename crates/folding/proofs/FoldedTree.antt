-- The folded tree of a proper tree is proper: its variables are below their counts and its divisors above 0. Assumes nothing.
use mathlib.Core.Bool.{Bool, true, false, cond}
use Prim.Native.Nat.{ℕ}
use lib.IntN.{ℤ, pos}
use Rattle.expression.specs.Expression.{Kind, Expr, Range, eqℤ}
use Rattle.expression.proofs.Within.{Proper}
use Rattle.folding.specs.Sum.{Atom, Sum}
use Rattle.folding.specs.Fold.{fold_sum, term_tree, constant_tree, atom_tree, sum_tree, join_terms}
use Rattle.folding.specs.Folded.{FoldedA, FoldedS}
use Rattle.folding.specs.Map.{fold_tree}
use Rattle.folding.proofs.Divisors.{proper-positive}
use Rattle.folding.proofs.Ending.{fold-folded}
use Rattle.folding.proofs.Atoms.{EveryA, EveryS, Anything, variables-fold}

module _ (m r : ℕ) (β : Kind → ℕ → Range) where
  abbrev Below : Kind → ℕ → Type 0
  Below k n = Proper m r (Expr.var k n)

  term-proper : (c : ℤ) (x : Expr) → Proper m r x → Proper m r (term_tree c x)
  unfolding term_tree Proper
  term-proper c x h = go (eqℤ c (pos 1))
    where
      go : (b : Bool) → Proper m r (cond b x (Expr.mul c x))
      go true = h
      go false = h

  constant-proper : (k : ℤ) (x : Expr) → Proper m r x → Proper m r (constant_tree k x)
  unfolding constant_tree Proper
  constant-proper k x h = go (eqℤ k (pos 0))
    where
      go : (b : Bool) → Proper m r (cond b x (Expr.add x (Expr.const k)))
      go true = h
      go false = (h, tt)

  mutual
    unfolding atom_tree Proper FoldedA EveryA

    atom-proper : (a : Atom) → FoldedA β a → EveryA Below Anything a → Proper m r (atom_tree a)
    atom-proper (Atom.var k n) f h = h
    atom-proper (Atom.op o t c) f h = (f.0, sum-proper t f.1 h.1)

    sum-proper : (t : Sum) → FoldedS β t → EveryS Below Anything t → Proper m r (sum_tree t)
    sum-proper (Sum.const k) f h = tt
    sum-proper (Sum.term c a t) f h = join-proper t (term_tree c (atom_tree a)) f.3 h.1 (term-proper c (atom_tree a) (atom-proper a f.1 h.0))

    join-proper : (t : Sum) (x : Expr) → FoldedS β t → EveryS Below Anything t → Proper m r x → Proper m r (join_terms t x)
    join-proper (Sum.const k) x f h p = constant-proper k x p
    join-proper (Sum.term c a t) x f h p =
        join-proper t (Expr.add x (term_tree c (atom_tree a))) f.3 h.1 (p, term-proper c (atom_tree a) (atom-proper a f.1 h.0))

  pub fold-proper : (e : Expr) → Proper m r e → Proper m r (fold_tree β e)
  unfolding fold_tree
  fold-proper e h = sum-proper (fold_sum β e) (fold-folded β e (proper-positive m r e h)) (variables-fold Below β m r (λ k n p. p) e h)
