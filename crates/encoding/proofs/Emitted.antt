-- The nodes of a folded sum, atom by atom and term by term, as its words are read. Assumes nothing.
use mathlib.Core.Path.{◌≡◌, refl, sym, ap, ◌∙◌, subst}
use mathlib.Core.Bool.{Bool, true, false, cond}
use mathlib.Core.List.{List, [], ◌∷◌, ◌++◌, append_assoc, append-nil}
use Prim.Native.Nat.{ℕ, ◌-◌, ◌<◌, ◌≤◌}
use native.Mathlib.Omega.{arith}
use lib.IntN.{ℤ, pos, nat_abs}
use lib.ListN.{length, drop, get_or, length-drop}
use Rattle.integer.specs.Exact.{limit}
use Rattle.expression.specs.Expression.{Kind, d, s, rt, Op, floordiv, modulo, Range, Expr, eqℤ}
use Rattle.expression.specs.declared.Node.{Node}
use Rattle.expression.specs.declared.Node.TheVariants as N
use Rattle.expression.specs.declared.Leaf.TheVariants.{Constant}
use Rattle.expression.specs.declared.One.TheVariants.{Product}
use Rattle.folding.specs.Sum.{Atom, Sum, term_count, kind_number, op_number, atom_range}
use Rattle.folding.specs.Fold.{term_tree, constant_tree, atom_tree, sum_tree, join_terms}
use Rattle.words.specs.Words.{constant_of, atom_words, term_words, sum_words}
use Rattle.words.proofs.Reading.{word-is, kind-small, op-large}
use Rattle.words.specs.Promises.{Forward, SkipsAtom}
use Rattle.words.proofs.Skipping.{ahead, not-empty}
use Rattle.encoding.specs.Postfix.{postfix, variable_of, op_node, kind_of, value_of, Encodable, EncodableAtom, EncodableSum}
use Rattle.encoding.specs.Written.{factor_nodes, join_nodes, constant_nodes, sum_nodes, Room, Put, Written, IsPlace, IsOp, Kept, EmitsAtom, EmitsTerms, EmitsSum}
use Rattle.encoding.proofs.Stored.{one, both, kept, put-kept, still, kept_then}

-- ---- the nodes of a sum's tree

factor-nodes : (c : ℤ) (x : Expr) → postfix (term_tree c x) ≡ postfix x ++ factor_nodes c
unfolding term_tree postfix
factor-nodes c x = go (eqℤ c (pos 1))
  where
    go : (b : Bool) → postfix (cond b x (Expr.mul c x)) ≡ postfix x ++ cond b [] (N.One (Product c) ∷ [])
    go true = sym (append-nil (postfix x))
    go false = refl

constant-nodes : (k : ℤ) (x : Expr) → postfix (constant_tree k x) ≡ postfix x ++ constant_nodes false k
unfolding constant_tree postfix
constant-nodes k x = go (eqℤ k (pos 0))
  where
    go : (b : Bool) → postfix (cond b x (Expr.add x (Expr.const k))) ≡ postfix x ++ cond b [] (N.Leaf (Constant k) ∷ N.Sum ∷ [])
    go true = sym (append-nil (postfix x))
    go false = refl

join-nodes : (t : Sum) (x : Expr) → postfix (join_terms t x) ≡ postfix x ++ sum_nodes false t
unfolding join_terms sum_nodes postfix
join-nodes (Sum.const k) x = constant-nodes k x
join-nodes (Sum.term c a t) x =
    let y = term_tree c (atom_tree a) in
    let ns = sum_nodes false t in
    join-nodes t (Expr.add x y)
    ∙ append_assoc (postfix x) (postfix y ++ (N.Sum ∷ [])) ns
    ∙ ap (λ (l : List Node). postfix x ++ l)
    (ap (λ (l : List Node). (l ++ (N.Sum ∷ [])) ++ ns) (factor-nodes c (atom_tree a))
    ∙ ap (λ (l : List Node). l ++ ns) (append_assoc (postfix (atom_tree a)) (factor_nodes c) (N.Sum ∷ []))
    ∙ append_assoc (postfix (atom_tree a)) (factor_nodes c ++ (N.Sum ∷ [])) ns)

pub sum-nodes : (t : Sum) → postfix (sum_tree t) ≡ sum_nodes true t
unfolding sum_tree sum_nodes postfix
sum-nodes (Sum.const k) = refl
sum-nodes (Sum.term c a t) =
    join-nodes t (term_tree c (atom_tree a))
    ∙ ap (λ (l : List Node). l ++ sum_nodes false t) (factor-nodes c (atom_tree a))
    ∙ append_assoc (postfix (atom_tree a)) (factor_nodes c) (sum_nodes false t)
    ∙ ap (λ (l : List Node). postfix (atom_tree a) ++ (l ++ sum_nodes false t)) (sym (append-nil (factor_nodes c)))

-- ---- the tree of a sum is one that its nodes give back

module _ (dims ranges : ℕ) where
  term-encodable : (c : ℤ) (x : Expr) → nat_abs c ≤ limit → Encodable dims ranges x → Encodable dims ranges (term_tree c x)
  unfolding term_tree Encodable
  term-encodable c x h k = go (eqℤ c (pos 1))
    where
      go : (b : Bool) → Encodable dims ranges (cond b x (Expr.mul c x))
      go true = k
      go false = (h, k)

  constant-encodable : (c : ℤ) (x : Expr) → nat_abs c ≤ limit → Encodable dims ranges x → Encodable dims ranges (constant_tree c x)
  unfolding constant_tree Encodable
  constant-encodable c x h k = go (eqℤ c (pos 0))
    where
      go : (b : Bool) → Encodable dims ranges (cond b x (Expr.add x (Expr.const c)))
      go true = k
      go false = (k, h)

  mutual
    unfolding atom_tree EncodableAtom Encodable

    pub atom-encodable : (a : Atom) → EncodableAtom dims ranges a → Encodable dims ranges (atom_tree a)
    atom-encodable (Atom.var k n) h = h
    atom-encodable (Atom.op o t c) h = (h.0, (h.1.0, sum-encodable t h.1.1))

    pub sum-encodable : (t : Sum) → EncodableSum dims ranges t → Encodable dims ranges (sum_tree t)
    sum-encodable (Sum.const k) h = h
    sum-encodable (Sum.term c a t) h = join-encodable t _ h.1.1 (term-encodable c _ h.0 (atom-encodable a h.1.0))

    join-encodable : (t : Sum) (x : Expr) → EncodableSum dims ranges t → Encodable dims ranges x → Encodable dims ranges (join_terms t x)
    join-encodable (Sum.const k) x h p = constant-encodable k x h p
    join-encodable (Sum.term c a t) x h p = join-encodable t _ h.1.1 (p, term-encodable c _ h.0 (atom-encodable a h.1.0))

-- ---- at the end of the words stands nothing

same : (ks : List ℕ) (vs : List ℤ) (at : ℕ) → Room ks vs at → Kept ks ks vs vs at
same ks vs at o = record { kinds = refl; values = refl; most = o.most }

pub atom-end : (w : List ℤ) (p : ℕ) (ks : List ℕ) (vs : List ℤ) (at : ℕ) → Room ks vs at → length w ≤ p → EmitsAtom w p ks ks vs vs at at
atom-end w p ks vs at o h = record { kept = same ks vs at o; is = λ β a x e. absurd (omega (arith, length-drop p w, ap length e, not-empty β a x)) }

some : (β : Kind → ℕ → Range) (t : Sum) (x : List ℤ) → 0 < length (sum_words β t x)
unfolding sum_words term_words constant_of
some β (Sum.const k) x = omega arith
some β (Sum.term c a t) x = not-empty β a (c ∷ term_words β t (constant_of t ∷ x))

pub terms-end : (alone : Bool) (w : List ℤ) (p n : ℕ) (ks : List ℕ) (vs : List ℤ) (at : ℕ) → Room ks vs at → length w ≤ p → EmitsTerms alone w p n ks ks vs vs at at
terms-end alone w p n ks vs at o h = record { kept = same ks vs at o; is = λ β t x q e. absurd (omega (arith, length-drop p w, ap length e, some β t x)) }

-- ---- an atom

place-kind : (k : Kind) (n : ℕ) → kind_of (variable_of k n) ≡ 0
place-kind d n = refl
place-kind s n = refl
place-kind rt n = refl

op-value : (o : Op) (c : ℕ) → value_of (op_node o c) ≡ pos c
op-value floordiv c = refl
op-value modulo c = refl

module _ (w : List ℤ) (p kind second : ℕ) (g : kind ≡ nat_abs (get_or w p (pos 0))) (f : Forward w p 1 second) where
  pub of-variable : {ks ks' : List ℕ} {vs vs' : List ℤ} {at r : ℕ} {z : ℤ} → kind < 3 → IsPlace kind (nat_abs (get_or w second (pos 0))) z → Put 0 z ks ks' vs vs' at r
      → EmitsAtom w p ks ks' vs vs' at r
  unfolding atom_words atom_tree postfix
  of-variable {ks} {ks'} {vs} {vs'} {at} {r} {z} h i u = record { kept = put-kept u; is = go }
    where
      go : (β : Kind → ℕ → Range) (a : Atom) (x : List ℤ) → drop p w ≡ atom_words β a x → Written (postfix (atom_tree a)) ks ks' vs vs' at r
      go β (Atom.var k n) x e =
          let a1 = ahead w p 1 second (pos (kind_number k) ∷ []) (pos n ∷ (β k n).lo ∷ (β k n).hi ∷ x) e refl (omega arith) f in
          let z' : z ≡ value_of (variable_of k n) = i.is k (g ∙ ap nat_abs (word-is w p _ _ e)) ∙ ap (λ (y : ℤ). value_of (variable_of k (nat_abs y))) (word-is w second _ _ a1) in
          one (variable_of k n) (subst (λ (y : ℤ). Put (kind_of (variable_of k n)) y ks ks' vs vs' at r) z' (subst (λ (m : ℕ). Put m z ks ks' vs vs' at r) (sym (place-kind k n)) u))
      go β (Atom.op o t c) x e = absurd (omega (arith, op-large o, g ∙ ap nat_abs (word-is w p _ _ e)))

  pub of-op : (third inner n : ℕ) {ks ks' ks'' : List ℕ} {vs vs' vs'' : List ℤ} {at end r m : ℕ} → Room ks vs at → 3 ≤ kind → Forward w p 2 third → Forward w p 3 inner
      → n ≡ nat_abs (get_or w third (pos 0)) → EmitsTerms true w inner n ks ks' vs vs' at end → IsOp kind m
      → Put m (get_or w second (pos 0)) ks' ks'' vs' vs'' end r → EmitsAtom w p ks ks'' vs vs'' at r
  unfolding atom_words atom_tree postfix sum_words
  of-op third inner n {ks} {ks'} {ks''} {vs} {vs'} {vs''} {at} {end} {r} {m} o h ft fi en ts i u =
      record { kept = kept_then ts.kept (put-kept u); is = go }
    where
      go : (β : Kind → ℕ → Range) (a : Atom) (x : List ℤ) → drop p w ≡ atom_words β a x → Written (postfix (atom_tree a)) ks ks'' vs vs'' at r
      go β (Atom.var k l) x e = absurd (omega (arith, kind-small k, g ∙ ap nat_abs (word-is w p _ _ e)))
      go β (Atom.op q t c) x e =
          let y = atom_range (Atom.op q t c) β in
          let ws = term_words β t (constant_of t ∷ y.lo ∷ y.hi ∷ x) in
          let a1 = ahead w p 1 second (pos (op_number q) ∷ []) (pos c ∷ pos (term_count t) ∷ ws) e refl (omega arith) f in
          let a2 = ahead w p 2 third (pos (op_number q) ∷ pos c ∷ []) (pos (term_count t) ∷ ws) e refl (omega arith) ft in
          let a3 = ahead w p 3 inner (pos (op_number q) ∷ pos c ∷ pos (term_count t) ∷ []) ws e refl (omega arith) fi in
          let ns = ts.is β t (y.lo ∷ y.hi ∷ x) (en ∙ ap nat_abs (word-is w third _ _ a2)) a3 in
          let k' : m ≡ kind_of (op_node q c) = i.is q c (g ∙ ap nat_abs (word-is w p _ _ e)) in
          let v' : get_or w second (pos 0) ≡ value_of (op_node q c) = word-is w second _ _ a1 ∙ sym (op-value q c) in
          let u' = subst (λ (z : ℤ). Put (kind_of (op_node q c)) z ks' ks'' vs' vs'' end r) v' (subst (λ (l : ℕ). Put l (get_or w second (pos 0)) ks' ks'' vs' vs'' end r) k' u) in
          subst (λ (l : List Node). Written (l ++ (op_node q c ∷ [])) ks ks'' vs vs'' at r) (sym (sum-nodes t)) (both o ns (one (op_node q c) u'))

-- ---- terms

pub of-constant : (alone : Bool) (w : List ℤ) (p n : ℕ) {ks ks' : List ℕ} {vs vs' : List ℤ} {at r : ℕ} → Room ks vs at → n ≡ 0
    → Written (constant_nodes alone (get_or w p (pos 0))) ks ks' vs vs' at r → EmitsTerms alone w p n ks ks' vs vs' at r
unfolding sum_words term_words constant_of term_count sum_nodes
of-constant alone w p n {ks} {ks'} {vs} {vs'} {at} {r} o z u = record { kept = kept o u; is = go }
  where
    go : (β : Kind → ℕ → Range) (t : Sum) (x : List ℤ) → n ≡ term_count t → drop p w ≡ sum_words β t x → Written (sum_nodes alone t) ks ks' vs vs' at r
    go β (Sum.const k) x q e = subst (λ (l : ℤ). Written (constant_nodes alone l) ks ks' vs vs' at r) (word-is w p k x e) u
    go β (Sum.term c a t) x q e = absurd (omega arith)

pub of-term : (alone : Bool) (w : List ℤ) (p n q next : ℕ) {ks ks1 ks2 ks3 : List ℕ} {vs vs1 vs2 vs3 : List ℤ} {at end e r : ℕ} → Room ks vs at → (n ≡ 0 → ⊥)
    → EmitsAtom w p ks ks1 vs vs1 at end → SkipsAtom w p q → Written (factor_nodes (get_or w q (pos 0)) ++ join_nodes alone) ks1 ks2 vs1 vs2 end e
    → Forward w q 1 next → EmitsTerms false w next (n - 1) ks2 ks3 vs2 vs3 e r → EmitsTerms alone w p n ks ks3 vs vs3 at r
unfolding sum_words term_words constant_of term_count sum_nodes
of-term alone w p n q next {ks} {ks1} {ks2} {ks3} {vs} {vs1} {vs2} {vs3} {at} {end} {e} {r} o z a sk u f ts =
    record { kept = kept_then a.kept (kept_then (kept o1 u) ts.kept); is = go }
  where
    o1 : Room ks1 vs1 end
    o1 = still o a.kept

    go : (β : Kind → ℕ → Range) (t : Sum) (x : List ℤ) → n ≡ term_count t → drop p w ≡ sum_words β t x → Written (sum_nodes alone t) ks ks3 vs vs3 at r
    go β (Sum.const k) x i j = absurd (z i)
    go β (Sum.term c b t) x i j =
        let rest = term_words β t (constant_of t ∷ x) in
        let at_c = sk.past β b (c ∷ rest) j in
        let at-t = ahead w q 1 next (c ∷ []) rest at_c refl (omega arith) f in
        let u' = subst (λ (l : ℤ). Written (factor_nodes l ++ join_nodes alone) ks1 ks2 vs1 vs2 end e) (word-is w q c rest at_c) u in
        both o (a.is β b (c ∷ rest) j) (both o1 u' (ts.is β t x (omega arith) at-t))

-- ---- a sum

pub of-sum : (w : List ℤ) (p n : ℕ) {ks ks' : List ℕ} {vs vs' : List ℤ} {at r : ℕ} → EmitsTerms true w p n ks ks' vs vs' at r → EmitsSum w p n ks ks' vs vs' at r
of-sum w p n {ks} {ks'} {vs} {vs'} {at} {r} ts =
    record { kept = ts.kept; is = λ β t x q e. subst (λ (l : List Node). Written l ks ks' vs vs' at r) (sym (sum-nodes t)) (ts.is β t x q e) }
