-- Nodes of a run written one after another, as they are or with f's results put in. Assumes nothing.
use mathlib.Core.Path.{◌≡◌, sym, ap, ◌∙◌, subst}
use mathlib.Core.List.{List, [], ◌∷◌, ◌++◌}
use Prim.Native.Nat.{ℕ, zero, suc, ◌+◌, ◌<◌}
use native.Mathlib.Omega.{arith}
use native.Mathlib.Nat.{add-zero}
use lib.IntN.{ℤ, pos}
use lib.ListN.{get_or}
use Rattle.expression.specs.Node.{node_of, nodes_at}
use Rattle.expression.specs.Decode.{tree}
use Rattle.expression.specs.declared.Node.{Node}
use Rattle.expression.proofs.Reading.{node-sound}
use Rattle.expression.proofs.Within.{nodes-ok}
use Rattle.indexing.specs.Map.{start_of, count_of, runs, tree_at}
use Rattle.indexing.specs.Ready.{Formed, run_of}
use Rattle.indexing.specs.declared.IndexingMap.{IndexingMap}
use Rattle.indexing.proofs.Formed.{stands, nodes-here}
use Rattle.encoding.specs.Postfix.{postfix, Encodable}
use Rattle.encoding.specs.Written.{Room, Written}
use Rattle.encoding.proofs.Stored.{nothing, both}
use Rattle.encoding.proofs.Unique.{nodes-unique, run-encodable}
use Rattle.encoding.proofs.Trees.{runs-all, tree_is}
use Rattle.encoding.specs.Trees.{expr_at}
use Rattle.compose.specs.ComposeMap.{put_into}
use Rattle.compose.specs.Splice.{splice_node, splice, result_nodes}
use Rattle.compose.specs.Ready.{Spliced, SpliceRun}
use Rattle.compose.proofs.Substituted.{splice-append, splice-one, postfix-substitute}

-- ---- one node more
module _ (dims ranges : ℕ) (ks : List ℕ) (vs : List ℤ) where
  -- the node at a place
  abbrev pub node_at : ℕ → Node
  node_at i = node_of dims ranges (get_or ks i 0) (get_or vs i (pos 0))

  pub nodes-next : (i n : ℕ) → nodes_at dims ranges ks vs i (suc n) ≡ nodes_at dims ranges ks vs i n ++ (node_at (i + n) ∷ [])
  unfolding nodes_at
  nodes-next i zero = ap (λ (k : ℕ). node_at k ∷ []) (sym (add-zero i))
  nodes-next i (suc n) =
      let e : i + 1 + n ≡ i + suc n = omega arith in
      ap (λ (l : List Node). node_at i ∷ l) (nodes-next (i + 1) n ∙ ap (λ (k : ℕ). nodes_at dims ranges ks vs (i + 1) n ++ (node_at k ∷ [])) e)

  module _ {os os' os'' : List ℕ} {ws ws' ws'' : List ℤ} {at p q : ℕ} (o : Room os ws at) (i n : ℕ) where
    -- copied
    pub copied_next : Written (nodes_at dims ranges ks vs i n) os os' ws ws' at p → Written (node_at (i + n) ∷ []) os' os'' ws' ws'' p q
        → Written (nodes_at dims ranges ks vs i (suc n)) os os'' ws ws'' at q
    copied_next w x = rw (nodes-next i n) (both o w x)

    -- with other nodes put in
    pub spliced-next : (run : ℕ → List Node) (r : ℕ) → Written (splice run r (nodes_at dims ranges ks vs i n)) os os' ws ws' at p
        → Written (splice_node run r (node_at (i + n))) os' os'' ws' ws'' p q
        → Written (splice run r (nodes_at dims ranges ks vs i (suc n))) os os'' ws ws'' at q
    spliced-next run r w x =
        rw (nodes-next i n, splice-append run r (nodes_at dims ranges ks vs i n) (node_at (i + n) ∷ []), splice-one run r (node_at (i + n))) (both o w x)

pub copied_none : (dims ranges : ℕ) (ks : List ℕ) (vs : List ℤ) (i : ℕ) {os : List ℕ} {ws : List ℤ} {at : ℕ} → Room os ws at
    → Written (nodes_at dims ranges ks vs i 0) os os ws ws at at
unfolding nodes_at
copied_none dims ranges ks vs i {os} {ws} {at} o = nothing os ws at o.most

pub spliced-none : (dims ranges : ℕ) (ks : List ℕ) (vs : List ℤ) (i : ℕ) (run : ℕ → List Node) (r : ℕ) {os : List ℕ} {ws : List ℤ} {at : ℕ} → Room os ws at
    → Written (splice run r (nodes_at dims ranges ks vs i 0)) os os ws ws at at
unfolding nodes_at
spliced-none dims ranges ks vs i run r {os} {ws} {at} o = nothing os ws at o.most

-- a node that is read is one that f's results are put into
pub node-spliced : (f : IndexingMap) (dims ranges : ℕ) → SpliceRun f dims ranges → (ks : List ℕ) (vs : List ℤ) (i : ℕ) → Spliced f ranges (node_at dims ranges ks vs i)
node-spliced f dims ranges w ks vs i =
    record {
      formed = w.formed;
      few = w.few;
      sound = node-sound f.results ranges dims ranges (get_or ks i 0) (get_or vs i (pos 0)) (λ n h l. let e = w.fits in omega arith) (λ n h l. h);
    }

-- ---- a whole run

module _ (m : IndexingMap) (w : Formed m) (i : ℕ) (h : i < runs m) where
  tree-here : tree_at m i ≡ tree (expr_at m i)
  tree-here = tree_is m w i (omega (arith, runs-all m w))

  pub expr-encodable : Encodable m.dims m.ranges (expr_at m i)
  expr-encodable = run-encodable m i (expr_at m i) tree-here

  pub run-nodes : (a b : ℕ) → stands a b ≡ run_of m i → nodes_at m.dims m.ranges m.kinds m.values a b ≡ postfix (expr_at m i)
  unfolding tree_at
  run-nodes a b e =
      nodes-here m i a b e m.dims m.ranges
      ∙ nodes-unique m.dims m.ranges _ (expr_at m i) (nodes-ok m.dims m.ranges m.kinds m.values (start_of (count_of m) i) (count_of m i)) tree-here

  pub run-copied : (a b : ℕ) → stands a b ≡ run_of m i → {os os' : List ℕ} {ws ws' : List ℤ} {at r : ℕ}
      → Written (nodes_at m.dims m.ranges m.kinds m.values a b) os os' ws ws' at r → Written (postfix (expr_at m i)) os os' ws ws' at r
  run-copied a b e {os} {os'} {ws} {ws'} {at} {r} x = subst (λ (l : List Node). Written l os os' ws ws' at r) (run-nodes a b e) x

  pub run-spliced : (f : IndexingMap) (a b : ℕ) → stands a b ≡ run_of m i → {os os' : List ℕ} {ws ws' : List ℤ} {at r : ℕ}
      → Written (splice (result_nodes f) f.ranges (nodes_at m.dims m.ranges m.kinds m.values a b)) os os' ws ws' at r
      → Written (postfix (put_into f (expr_at m i))) os os' ws ws' at r
  run-spliced f a b e {os} {os'} {ws} {ws'} {at} {r} x =
      subst (λ (l : List Node). Written l os os' ws ws' at r)
      (ap (splice (result_nodes f) f.ranges) (run-nodes a b e) ∙ sym (postfix-substitute (expr_at f) f.ranges m.dims m.ranges (expr_at m i) expr-encodable)) x
