-- Reading a word, and the words after it. Assumes nothing.
use mathlib.Core.Path.{◌≡◌, sym, ap, ◌∙◌}
use mathlib.Core.List.{List, ◌∷◌}
use Prim.Native.Nat.{ℕ, suc, ◌+◌, ◌<◌, ◌≤◌}
use native.Mathlib.Omega.{arith}
use lib.IntN.{ℤ, pos, nat_abs}
use lib.ListN.{length, drop, get_or, length-drop}
use lib.Seq.{drop-drop, drop-cons}
use Rattle.folding.specs.Sum.{kind_number, op_number}
use Rattle.expression.specs.Expression.{Kind, d, s, rt, Op, floordiv, modulo}

-- ---- reading a word, and going on
pub long : (w : List ℤ) (p : ℕ) (x : ℤ) (r : List ℤ) → drop p w ≡ x ∷ r → p < length w
long w p x r e = omega (arith, length-drop p w, ap length e)

pub word-is : (w : List ℤ) (p : ℕ) (x : ℤ) (r : List ℤ) → drop p w ≡ x ∷ r → get_or w p (pos 0) ≡ x
word-is w p x r e = let h = long w p x r e in let f : get_or w p (pos 0) ∷ drop (suc p) w ≡ x ∷ r = sym (drop-cons w p (pos 0) h) ∙ e in cc

pub next-is : (w : List ℤ) (p : ℕ) (x : ℤ) (r : List ℤ) → drop p w ≡ x ∷ r → drop (p + 1) w ≡ r
next-is w p x r e = sym (drop-drop 1 p w) ∙ ap (λ (l : List ℤ). drop 1 l) e

pub kind-small : (k : Kind) → nat_abs (pos (kind_number k)) < 3
unfolding kind_number
kind-small d = omega arith
kind-small s = omega arith
kind-small rt = omega arith

pub op-large : (o : Op) → 3 ≤ nat_abs (pos (op_number o))
unfolding op_number
op-large floordiv = omega arith
op-large modulo = omega arith
