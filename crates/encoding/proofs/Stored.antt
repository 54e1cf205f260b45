-- Nodes stored one after another, up to the end of the lists. Assumes nothing.
use mathlib.Core.Path.{◌≡◌, refl, sym, ap, ◌∙◌}
use mathlib.Core.Bool.{Bool, false, cond}
use mathlib.Core.List.{List, [], ◌∷◌, ◌++◌, map}
use Prim.Native.Nat.{ℕ, suc, ◌+◌, ◌<◌, ◌≤◌, min}
use native.Mathlib.Omega.{arith}
use native.Mathlib.Nat.{add-zero, add-suc, suc-add}
use native.Mathlib.Decide.{dec_lt}
use lib.IntN.{ℤ, pos}
use lib.ListN.{length, set, length-append, length-set, length-map}
use lib.Seq.{sets, length-sets, set_out}
use Rattle.expression.specs.Node.{max_nodes}
use Rattle.expression.specs.declared.Node.{Node}
use Rattle.expression.specs.declared.Node.TheVariants as N
use Rattle.expression.specs.declared.Leaf.TheVariants.{Constant}
use Rattle.expression.specs.declared.One.TheVariants.{Product}
use Rattle.words.proofs.Trial.{try-yes, try-no}
use Rattle.encoding.specs.Postfix.{kind_of, value_of}
use Rattle.encoding.specs.Written.{counted, factor_nodes, constant_nodes, Room, Put, Written, Kept}
use Rattle.encoding.proofs.Lists.{map-append}

-- ---- stores

module _ {A : Type 0} where
  pub sets-past : (l : List A) (i : ℕ) (xs : List A) → length l ≤ i → sets l i xs ≡ l
  sets-past l i [] h = refl
  sets-past l i (x ∷ xs) h =
      ap (λ (m : List A). sets m (suc i) xs) (set_out l i x h) ∙ sets-past l (suc i) xs (omega arith)

  pub sets-append : (l : List A) (i : ℕ) (xs ys : List A) → sets l i (xs ++ ys) ≡ sets (sets l i xs) (i + length xs) ys
  sets-append l i [] ys = ap (λ (k : ℕ). sets l k ys) (sym (add-zero i))
  sets-append l i (x ∷ xs) ys =
      sets-append (set l i x) (suc i) xs ys
      ∙ ap (λ (k : ℕ). sets (sets (set l i x) (suc i) xs) k ys) (suc-add i (length xs) ∙ sym (add-suc i (length xs)))

  -- the place may be counted up to one past the end
  pub sets_then : (l m r : List A) (i e : ℕ) (xs ys : List A) → length l ≤ max_nodes → e ≡ min (i + length xs) counted
      → m ≡ sets l i xs → r ≡ sets m e ys → r ≡ sets l i (xs ++ ys)
  sets_then l m r i e xs ys h q f g =
      g ∙ ap (λ (k : List A). sets k e ys) f ∙ go (dec_lt (i + length xs) counted) ∙ sym (sets-append l i xs ys)
    where
      long : length (sets l i xs) ≤ max_nodes
      long = omega (arith, length-sets l i xs)

      go : Dec (i + length xs < counted) → sets (sets l i xs) e ys ≡ sets (sets l i xs) (i + length xs) ys
      go (yes k) = let z : e ≡ i + length xs = omega arith in ap (λ (k : ℕ). sets (sets l i xs) k ys) z
      go (no k) = sets-past (sets l i xs) e ys (omega (arith, long)) ∙ sym (sets-past (sets l i xs) (i + length xs) ys (omega (arith, long)))

-- ---- nodes

pub nothing : (ks : List ℕ) (vs : List ℤ) (at : ℕ) → at ≤ counted → Written [] ks ks vs vs at at
nothing ks vs at h = record { kinds = refl; values = refl; nodes = omega arith }

pub one : (n : Node) {ks ks' : List ℕ} {vs vs' : List ℤ} {at r : ℕ} → Put (kind_of n) (value_of n) ks ks' vs vs' at r
    → Written (n ∷ []) ks ks' vs vs' at r
one n p = record { kinds = p.kinds; values = p.values; nodes = p.nodes }

module _ {ms : List Node} {ks ks' : List ℕ} {vs vs' : List ℤ} {at e : ℕ} (o : Room ks vs at) (w : Written ms ks ks' vs vs' at e) where
  pub kept : Kept ks ks' vs vs' e
  kept =
      record {
        kinds = ap (λ (l : List ℕ). length l) w.kinds ∙ length-sets ks at (map kind_of ms);
        values = ap (λ (l : List ℤ). length l) w.values ∙ length-sets vs at (map value_of ms);
        most = omega (arith, w.nodes);
      }

  pub room : Room ks' vs' e
  room = let k = kept in record { kinds = omega (arith, k.kinds, o.kinds); values = omega (arith, k.values, o.values); most = k.most }

  -- some nodes, then others
  pub both : {ns : List Node} {ks'' : List ℕ} {vs'' : List ℤ} {r : ℕ} → Written ns ks' ks'' vs' vs'' e r → Written (ms ++ ns) ks ks'' vs vs'' at r
  both {ns} {ks''} {vs''} {r} x =
      record {
        kinds =
            sets_then ks ks' ks'' at e (map kind_of ms) (map kind_of ns) o.kinds (rw (length-map ms kind_of) w.nodes) w.kinds x.kinds
            ∙ ap (λ (l : List ℕ). sets ks at l) (sym (map-append kind_of ms ns));
        values =
            sets_then vs vs' vs'' at e (map value_of ms) (map value_of ns) o.values (rw (length-map ms value_of) w.nodes) w.values x.values
            ∙ ap (λ (l : List ℤ). sets vs at l) (sym (map-append value_of ms ns));
        nodes = omega (arith, length-append ms ns, w.nodes, x.nodes);
      }

pub put-kept : {kind : ℕ} {value : ℤ} {ks ks' : List ℕ} {vs vs' : List ℤ} {at r : ℕ} → Put kind value ks ks' vs vs' at r → Kept ks ks' vs vs' r
put-kept {kind} {value} {ks} {ks'} {vs} {vs'} {at} p =
    record {
      kinds = ap (λ (l : List ℕ). length l) p.kinds ∙ length-set ks at kind;
      values = ap (λ (l : List ℤ). length l) p.values ∙ length-set vs at value;
      most = omega (arith, p.nodes);
    }

-- after what keeps the lengths there is room again
pub still : {ks ks' : List ℕ} {vs vs' : List ℤ} {at r : ℕ} → Room ks vs at → Kept ks ks' vs vs' r → Room ks' vs' r
still o k = record { kinds = omega (arith, k.kinds, o.kinds); values = omega (arith, k.values, o.values); most = k.most }

pub kept_then : {ks ks' ks'' : List ℕ} {vs vs' vs'' : List ℤ} {e r : ℕ} → Kept ks ks' vs vs' e → Kept ks' ks'' vs' vs'' r → Kept ks ks'' vs vs'' r
kept_then k l = record { kinds = l.kinds ∙ k.kinds; values = l.values ∙ k.values; most = l.most }

-- ---- a coefficient, and a constant

pub factor-one : (c : ℤ) → c ≡ pos 1 → factor_nodes c ≡ []
factor-one c e = ap (λ (b : Bool). cond b [] (N.One (Product c) ∷ [])) (sym (try-yes c (pos 1) e))

pub factor-other : (c : ℤ) → (c ≡ pos 1 → ⊥) → factor_nodes c ≡ N.One (Product c) ∷ []
factor-other c e = ap (λ (b : Bool). cond b [] (N.One (Product c) ∷ [])) (sym (try-no c (pos 1) e))

constant-none : (k : ℤ) → k ≡ pos 0 → constant_nodes false k ≡ []
constant-none k e = ap (λ (b : Bool). cond b [] (N.Leaf (Constant k) ∷ N.Sum ∷ [])) (sym (try-yes k (pos 0) e))

constant-added : (k : ℤ) → (k ≡ pos 0 → ⊥) → constant_nodes false k ≡ N.Leaf (Constant k) ∷ N.Sum ∷ []
constant-added k e = ap (λ (b : Bool). cond b [] (N.Leaf (Constant k) ∷ N.Sum ∷ [])) (sym (try-no k (pos 0) e))

-- ---- a term's coefficient, and the sum with what stands before it

-- ---- a constant that stands alone, or is added

pub constant-zero : (alone : Bool) (k : ℤ) {ks : List ℕ} {vs : List ℤ} {at : ℕ} → alone ≡ false → k ≡ pos 0 → Room ks vs at
    → Written (constant_nodes alone k) ks ks vs vs at at
constant-zero alone k {ks} {vs} {at} h z o = rw (h, constant-none k z) (nothing ks vs at o.most)

pub constant-joined : (alone : Bool) (k : ℤ) {ks ks' ks'' : List ℕ} {vs vs' vs'' : List ℤ} {at e r : ℕ} → alone ≡ false → (k ≡ pos 0 → ⊥)
    → Room ks vs at → Put 1 k ks ks' vs vs' at e → Put 2 (pos 0) ks' ks'' vs' vs'' e r
    → Written (constant_nodes alone k) ks ks'' vs vs'' at r
constant-joined alone k h z o p q = rw (h, constant-added k z) (both o (one (N.Leaf (Constant k)) p) (one N.Sum q))
