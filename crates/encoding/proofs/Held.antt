-- Trees written one after another fill the arrays of the record that is made of them. Assumes nothing.
use mathlib.Core.Path.{◌≡◌, refl, sym, ap, ◌∙◌}
use mathlib.Core.List.{List, [], ◌∷◌, ◌++◌, map, append-nil}
use Prim.Native.Nat.{ℕ, ◌+◌, ◌-◌, ◌≤◌, min}
use native.Mathlib.Omega.{arith}
use lib.IntN.{ℤ, pos}
use lib.ListN.{length, replicate, length-append, length-map, length-replicate}
use lib.Seq.{sets}
use Rattle.expression.specs.Expression.{Expr, node_count}
use Rattle.expression.specs.Node.{max_nodes}
use Rattle.expression.specs.declared.Node.{Node}
use Rattle.encoding.specs.Postfix.{postfix, kind_of, value_of}
use Rattle.encoding.specs.Written.{counted, Room, Written}
use Rattle.encoding.specs.Encode.{nodes_of, filled, Holds}
use Rattle.encoding.proofs.Lists.{map-append}
use Rattle.encoding.proofs.Reading.{postfix-length}
use Rattle.encoding.proofs.Stored.{sets_then}
use Rattle.encoding.proofs.Filled.{filled-length}
use Rattle.encoding.proofs.Encoded.{nodes-append}

pub holds-none : Holds [] (replicate max_nodes 0) (replicate max_nodes (pos 0)) 0
holds-none = record { kinds = refl; values = refl; nodes = refl }

module _ {es : List Expr} {ks : List ℕ} {vs : List ℤ} {at : ℕ} (h : Holds es ks vs at) where
  pub holds-room : Room ks vs at
  holds-room =
      record {
        kinds = omega (arith, ap (λ (l : List ℕ). length l) h.kinds, filled-length max_nodes 0 (map kind_of (nodes_of es)));
        values = omega (arith, ap (λ (l : List ℤ). length l) h.values, filled-length max_nodes (pos 0) (map value_of (nodes_of es)));
        most = omega (arith, h.nodes);
      }

  -- no more nodes than a map has, where they are counted so
  pub holds-few : at ≤ max_nodes → (length (nodes_of es) ≤ max_nodes) × (at ≡ length (nodes_of es))
  holds-few k = (omega (arith, h.nodes), omega (arith, h.nodes))

  module _ (e : Expr) {ks' : List ℕ} {vs' : List ℤ} {r : ℕ} (w : Written (postfix e) ks ks' vs vs' at r) where
    more : nodes_of (es ++ (e ∷ [])) ≡ nodes_of es ++ postfix e
    more = nodes-append es (e ∷ []) ∙ ap (λ (l : List Node). nodes_of es ++ l) (append-nil (postfix e))

    array : {B : Type 0} (f : Node → B) (z : B) (l l' : List B) → l ≡ filled max_nodes z (map f (nodes_of es)) → l' ≡ sets l at (map f (postfix e))
        → l' ≡ filled max_nodes z (map f (nodes_of (es ++ (e ∷ []))))
    array {B} f z l l' q x =
        let n : at ≡ min (0 + length (map f (nodes_of es))) counted = omega (arith, h.nodes, length-map (nodes_of es) f) in
        sets_then (replicate max_nodes z) l l' 0 at (map f (nodes_of es)) (map f (postfix e)) (omega (arith, length-replicate max_nodes z)) n q x
        ∙ ap (filled max_nodes z) (sym (ap (map f) more ∙ map-append f (nodes_of es) (postfix e)))

    -- one tree more
    pub holds-next : Holds (es ++ (e ∷ [])) ks' vs' r
    holds-next =
        record {
          kinds = array kind_of 0 ks ks' h.kinds w.kinds;
          values = array value_of (pos 0) vs vs' h.values w.values;
          nodes = omega (arith, h.nodes, w.nodes, ap (λ (l : List Node). length l) more, length-append (nodes_of es) (postfix e));
        }

-- the number of nodes of one tree more is the difference of two places
pub count_next : (es : List Expr) (e : Expr) {ks ks' : List ℕ} {vs vs' : List ℤ} (at r : ℕ) → Holds es ks vs at → Written (postfix e) ks ks' vs vs' at r
    → length (nodes_of (es ++ (e ∷ []))) ≤ max_nodes → (length (nodes_of es) ≤ max_nodes) × (r - at ≡ node_count e)
count_next es e at r h w k =
    let l : length (nodes_of (es ++ (e ∷ []))) ≡ length (nodes_of es) + length (postfix e) =
    ap (λ (x : List Node). length x) (nodes-append es (e ∷ []) ∙ ap (λ (x : List Node). nodes_of es ++ x) (append-nil (postfix e))) ∙ length-append (nodes_of es) (postfix e) in
    (omega (arith, l), omega (arith, l, h.nodes, w.nodes, postfix-length e))
