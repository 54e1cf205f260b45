-- A station merged into its parent: the links between them, and what the table then says. Assumes nothing.
use Prim.Native.Nat.{ℕ, zero, suc, ◌+◌, ◌*◌, ◌-◌, ◌^◌, ◌≤◌, ◌<◌}
use mathlib.Core.Path.{◌≡◌, refl, sym, ap, ap₂, subst, ◌∙◌}
use mathlib.Core.Bool.{Bool, true, false, ◌||◌}
use mathlib.Core.List.{List}
use native.Mathlib.Omega.{arith}
use native.Mathlib.Numerals.{add-one}
use native.Mathlib.Decide.{ℕ_discrete, dec_lt}
use borrow.Author.Tests.{eq-eqb, ne_eqb}
use lib.Dec.{leb, eqb}
use lib.ListN.{length, get_or, take, drop}
use lib.Seq.{drop-cons}
use Rattle.std.specs.List.{list_any}
use Rattle.plan.specs.Net.{price}
use Rattle.plan.specs.Value.{pick}
use Rattle.plan.proofs.Bounds.{at_most}
use Rattle.tree_plan.specs.Tree.{Tree}
use Rattle.tree_plan.specs.Merge.{Table, lowest, via_place, reach, joined, merge, merged, least_in}
use Rattle.tree_plan.specs.Weight.{scale, far_weight, weighed, own, least_weight}
use Rattle.tree_plan.proofs.Lowest.{lowest-agree}
use Rattle.tree_plan.proofs.Agreeing.{Agree, least-agree}
use Rattle.tree_plan.proofs.Merging.{merge-at, merge-other}
use Rattle.tree_planner.specs.declared.Weight.{Weight}
use Rattle.tree_planner.specs.Words.{tabled, Usable, value_of, Good, weight_at, Sound}
use Rattle.tree_planner.specs.Rows.{table_words, Row, Rows, Kept, later, together}
use Rattle.tree_planner.specs.Merging.{Priced, own_at, linked, named, held, viewed, Merged, Shrunk}
use Rattle.tree_planner.proofs.Adding.{word, small-good, cost-value}
use Rattle.tree_planner.proofs.Filling.{row-agree}

cost-low : (f r : ℕ) → f ≤ 1 → r ≤ 2 ^ 42 → f * r ≤ 2 ^ 42
cost-low f r h l = omega (arith, at_most f r h)

pub cost-fits : (f r : ℕ) → f ≤ 1 → r ≤ 2 ^ 42 → f * r < 2 ^ 64
cost-fits f r h l = omega (arith, cost-low f r h l)

pub top-fits : (f r : ℕ) → f ≤ 1 → r ≤ 2 ^ 42 → f * r * 8 < 2 ^ 64
top-fits f r h l = omega (arith, cost-low f r h l)

-- what a link weighs
pub link-value :
    (f r p : ℕ) → f ≤ 1 → r ≤ 2 ^ 42 → r ≡ p → (value_of (word (f * r * 8) 0 0 0) ≡ f * p * scale) × Good (word (f * r * 8) 0 0 0)
link-value f r p h l e = (
  cost-value (f * r) ∙ ap (λ (x : ℕ). f * x * scale) e,
  small-good (f * r * 8) 0 0 0 (omega (arith, cost-low f r h l)) (omega arith) (omega arith) (omega arith),
)

-- a place of station v as the code reads it
pub linked-is :
    (sizes moved T : List ℕ) (u v a b y x : ℕ) →
    y ≡ get_or moved ((v * 8 + a) * 8 + b) 0 * price (get_or sizes (u * 8 + a) 0) (get_or sizes (v * 8 + b) 0) * scale →
    linked sizes moved T u v a x b
    ≡ pick (leb (get_or moved ((v * 8 + a) * 8 + b) 0) x) (later T (v * 8 + b) (get_or moved ((v * 8 + a) * 8 + b) 0) y x) far_weight
unfolding linked
linked-is sizes moved T u v a b y x e =
    ap
    (λ (z : ℕ). pick (leb (get_or moved ((v * 8 + a) * 8 + b) 0) x) (later T (v * 8 + b) (get_or moved ((v * 8 + a) * 8 + b) 0) z x) far_weight)
    (sym e)

-- one station more, from the front
pub named-next :
    (parents : List ℕ) (u i n : ℕ) → i < n → named parents u i (n - i) ≡ (eqb (get_or parents i 0) u || named parents u (i + 1) (n - (i + 1)))
unfolding named
named-next parents u i n l =
    let e : n - i ≡ suc (n - (i + 1)) = omega arith in
    ap (named parents u i) e ∙ ap (λ (x : ℕ). eqb (get_or parents i 0) u || named parents u x (n - (i + 1))) (sym (add-one i))

module _ (parents : List ℕ) (u i n : ℕ) (l : i < n) where
  pub named_here : get_or parents i 0 ≡ u → named parents u i (n - i) ≡ true
  named_here e =
      named-next parents u i n l
      ∙ ap (λ (t : Bool). t || named parents u (i + 1) (n - (i + 1))) (eq-eqb (get_or parents i 0) u e)

  pub named_past : (get_or parents i 0 ≡ u → ⊥) → named parents u i (n - i) ≡ named parents u (i + 1) (n - (i + 1))
  named_past e =
      named-next parents u i n l
      ∙ ap (λ (t : Bool). t || named parents u (i + 1) (n - (i + 1))) (ne_eqb (get_or parents i 0) u e)

-- what `contains` says of a part of the list
pub any-named :
    (parents : List ℕ) (u i d : ℕ) → i + d ≤ length parents → list_any (λ y. eqb y u) (take d (drop i parents)) ≡ named parents u i d
unfolding named
any-named parents u i zero l = refl
any-named parents u i (suc d) l =
    ap (λ (xs : List ℕ). list_any (λ y. eqb y u) (take (suc d) xs)) (drop-cons parents i 0 (omega arith))
    ∙ ap (λ (t : Bool). eqb (get_or parents i 0) u || t) (any-named parents u (suc i) d (omega arith))

pub named_end : (parents : List ℕ) (u i n : ℕ) → n ≤ i → named parents u i (n - i) ≡ false
unfolding named
named_end parents u i n l = let e : n - i ≡ 0 = omega arith in ap (named parents u i) e

module _ (merged : Bool) (T sizes : List ℕ) (cells u a k : ℕ) where
  pub held-table : merged ≡ true → held merged T sizes cells u a k ≡ weight_at T ((u * 8 + a) * 64 + k)
  unfolding held
  held-table e = ap (λ (t : Bool). pick t (weight_at T ((u * 8 + a) * 64 + k)) (own_at sizes cells u a)) e

  pub held-own : merged ≡ false → held merged T sizes cells u a k ≡ own_at sizes cells u a
  unfolding held
  held-own e = ap (λ (t : Bool). pick t (weight_at T ((u * 8 + a) * 64 + k)) (own_at sizes cells u a)) e

-- the same row joined to a row of the room, said otherwise
pub together-agree :
    (T T' : List ℕ) (row columns : ℕ) (f g : ℕ → ℕ) (room : List ℕ) (a : ℕ) →
    ((k : ℕ) → f k ≡ g k) →
    Row T T' row columns (together f room a) →
    Row T T' row columns (together g room a)
unfolding together
together-agree T T' row columns f g room a q =
    row-agree T row (together f room a) T' columns (together g room a)
    (λ x l. lowest-agree far_weight (suc x) _ _ (λ j h. ap (λ (y : ℕ). y + weight_at room (a * 64 + j)) (q (x - j))))

-- what a row joins is as it was before the rows below it were joined
pub together-kept :
    (sizes : List ℕ) (cells u a : ℕ) (merged : Bool) (room room' T T' : List ℕ) (columns : ℕ) (g : ℕ → ℕ → ℕ) (x : ℕ) →
    a < 8 →
    x < 64 →
    Rows T T' (u * 8) a columns g →
    Kept room room' →
    together (held merged T' sizes cells u a) room' a x ≡ together (held merged T sizes cells u a) room a x
unfolding together held
together-kept sizes cells u a merged room room' T T' columns g x l m R K =
    lowest-agree far_weight (suc x) _ _
    (λ j h.
    ap₂ (λ (v w : Weight). pick merged (value_of v) (own_at sizes cells u a) + value_of w)
    (R.after (u * 8 + a) (x - j) (omega arith) (omega arith))
    (K.same a j l (omega arith)))

module _ (parents counts sizes moved : List ℕ) (n cells : ℕ) (U : Usable parents counts sizes moved n cells) where
  abbrev pub tree : Tree
  tree = tabled parents counts sizes moved n cells

  pub priced : Priced sizes moved
  priced = record { sizes-in = U.sizes-in; moved_in = U.moved_in; low = U.low; ones = U.ones }

  pub parent-low : (v : ℕ) → 1 ≤ v → v < n → get_or parents v 0 < v
  parent-low zero h l = absurd (omega arith)
  parent-low (suc v) h l = rw add-one at (U.parent v (omega arith))

  pub earlier-of : (i : ℕ) → i < n - 1 → get_or parents (suc i) 0 ≤ i
  earlier-of i h = omega (arith, parent-low (suc i) (omega arith) (omega arith))

  -- what the code reads through a place of station v
  linked-via :
      (T : List ℕ) (t : Table) (v a k b : ℕ) →
      ((x : ℕ) → x ≤ k → weight_at T ((suc v * 8 + b) * 64 + x) ≡ t (suc v) b x) →
      linked sizes moved T (get_or parents (suc v) 0) (suc v) a k b ≡ via_place (weighed tree) t (suc v) a k b
  unfolding linked via_place
  linked-via T t v a k b h =
      ap
      (λ (x : ℕ).
      pick (leb (get_or moved ((suc v * 8 + a) * 8 + b) 0) k)
      (x
      + get_or moved ((suc v * 8 + a) * 8 + b) 0
      * price (get_or sizes (get_or parents (suc v) 0 * 8 + a) 0) (get_or sizes (suc v * 8 + b) 0)
      * scale)
      far_weight)
      (h (k - get_or moved ((suc v * 8 + a) * 8 + b) 0) (omega arith))

  module _ (columns v : ℕ) (few : columns ≤ 64) (within : suc v < n) (T T₁ T₂ room room₁ : List ℕ) where
    abbrev old : Table
    old = viewed parents sizes n cells T (suc v)

    abbrev u : ℕ
    u = get_or parents (suc v) 0

    module _ (leaf : Bool) (e : leaf ≡ named parents (suc v) (suc v + 1) (n - (suc v + 1)))
        (A : Rows T T₁ (suc v * 8) (get_or counts (suc v) 0) columns (held leaf T sizes cells (suc v)))
        (B : Rows room room₁ 0 (get_or counts u 0) columns (λ a k. lowest far_weight (get_or counts (suc v) 0) (linked sizes moved T₁ u (suc v) a k)))
        (merged : Bool) (m : merged ≡ named parents u (suc v + 1) (n - (suc v + 1)))
        (C : Rows T₁ T₂ (u * 8) (get_or counts u 0) columns
        (λ a. together (held merged T₁ sizes cells u a) room₁ a)) where
      low : u < suc v
      low = parent-low (suc v) (omega arith) within

      -- rows before station v's are as they were
      kept : (x a k : ℕ) → x < suc v → a < 8 → k < 64 → weight_at T₁ ((x * 8 + a) * 64 + k) ≡ weight_at T ((x * 8 + a) * 64 + k)
      kept x a k l h g = ap value_of (A.before (x * 8 + a) k (omega arith) g)

      row-right : (b x : ℕ) → b < get_or counts (suc v) 0 → x < columns → weight_at T₁ ((suc v * 8 + b) * 64 + x) ≡ old (suc v) b x
      unfolding viewed
      row-right b x l h = A.right b x l h ∙ ap (λ (t : Bool). held t T sizes cells (suc v) b x) e

      reached : (a j : ℕ) → a < get_or counts u 0 → j < columns → weight_at room₁ (a * 64 + j) ≡ reach (weighed tree) old (suc v) a j
      unfolding reach
      reached a j l g =
          let e : a * 64 + j ≡ (0 + a) * 64 + j = omega arith in
          ap (weight_at room₁) e
          ∙ B.right a j l g
          ∙ lowest-agree far_weight (get_or counts (suc v) 0) (linked sizes moved T₁ u (suc v) a j) (via_place (weighed tree) old (suc v) a j)
          (λ b h. linked-via T₁ old v a j b (λ x y. row-right b x h (omega arith)))

      below : (a : ℕ) → a < get_or counts u 0 → a < 8
      below a l = omega (arith, U.count u)

      parent-right : (a k : ℕ) → a < get_or counts u 0 → k < columns → weight_at T₂ ((u * 8 + a) * 64 + k) ≡ joined (weighed tree) old (suc v) a k
      unfolding joined together viewed held
      parent-right a k l g =
          C.right a k l g
          ∙ lowest-agree far_weight (suc k)
          (λ j. held merged T₁ sizes cells u a (k - j) + weight_at room₁ (a * 64 + j))
          (λ j. old u a (k - j) + reach (weighed tree) old (suc v) a j)
          (λ j h.
          ap₂ ◌+◌
          (ap₂ (λ (t : Bool) (w : ℕ). pick t w (own_at sizes cells u a)) m (kept u a (k - j) low (below a l) (omega arith)))
          (reached a j l (omega arith)))

      other-right :
          (x a k : ℕ) →
          x < suc v →
          (x ≡ u → ⊥) →
          a < get_or counts x 0 →
          k < columns →
          weight_at T₂ ((x * 8 + a) * 64 + k) ≡ weight_at T ((x * 8 + a) * 64 + k)
      other-right x a k l z h g =
          (elim (dec_lt x u) [
            | yes y ↦ ap value_of (C.before (x * 8 + a) k (omega (arith, U.count x)) (omega arith))
            | no y ↦ ap value_of (C.after (x * 8 + a) k (omega (arith, U.count u)) (omega arith))
          ])
          ∙ kept x a k l (omega (arith, U.count x)) (omega arith)

      apart :
          (x a k : ℕ) →
          x < suc v →
          (x ≡ u → ⊥) →
          a < get_or counts x 0 →
          k < columns →
          viewed parents sizes n cells T₂ v x a k ≡ old x a k
      unfolding viewed held
      apart x a k l z h g =
          ap₂ (λ (t : Bool) (w : ℕ). pick t w (own_at sizes cells x a))
          (named_past parents x (v + 1) n (omega arith) (λ e. z (sym e ∙ ap (λ (w : ℕ). get_or parents w 0) (add-one v)))
          ∙ ap (λ (w : ℕ). named parents x (w + 1) (n - (w + 1))) (add-one v))
          (other-right x a k l z h g)

      pub merge-done : Merged parents counts sizes moved n cells columns T T₂ (suc v)
      unfolding viewed
      merge-done =
          record {
            long = C.long ∙ A.long;
            sound = C.sound;
            right = λ x a k l h g. subst (λ (w : ℕ). viewed parents sizes n cells T₂ w x a k ≡ merge (weighed tree) old (suc v) x a k) step (each x a k l h g);
          }
        where
          step : v ≡ suc v - 1
          step = omega arith

          each :
              (x a k : ℕ) →
              x < suc v →
              a < get_or counts x 0 →
              k < columns →
              viewed parents sizes n cells T₂ v x a k ≡ merge (weighed tree) old (suc v) x a k
          each x a k l h g =
              elim (ℕ_discrete x u) [
                | yes z ↦
                    subst (λ (w : ℕ). viewed parents sizes n cells T₂ v w a k ≡ merge (weighed tree) old (suc v) w a k) (sym z)
                    (held-table _ T₂ sizes cells u a k
                    (named_here parents u (v + 1) n (omega arith) (ap (λ (w : ℕ). get_or parents w 0) (add-one v)))
                    ∙ parent-right a k (subst (λ (w : ℕ). a < get_or counts w 0) z h) g
                    ∙ sym (merge-at (weighed tree) old (suc v) a k))
                | no z ↦ apart x a k l z h g ∙ sym (merge-other (weighed tree) old (suc v) x a k z)
              ]

  pub merge-made :
      (columns v : ℕ) →
      columns ≤ 64 →
      1 ≤ v →
      v < n →
      (T T₁ T₂ room room₁ : List ℕ) →
      (leaf : Bool) →
      leaf ≡ named parents v (v + 1) (n - (v + 1)) →
      Rows T T₁ (v * 8) (get_or counts v 0) columns (held leaf T sizes cells v) →
      Rows room room₁ 0 (get_or counts (get_or parents v 0) 0) columns
      (λ a k. lowest far_weight (get_or counts v 0) (linked sizes moved T₁ (get_or parents v 0) v a k)) →
      (merged : Bool) →
      merged ≡ named parents (get_or parents v 0) (v + 1) (n - (v + 1)) →
      Rows T₁ T₂ (get_or parents v 0 * 8) (get_or counts (get_or parents v 0) 0) columns
      (λ a. together (held merged T₁ sizes cells (get_or parents v 0) a) room₁ a) →
      Merged parents counts sizes moved n cells columns T T₂ v
  merge-made columns zero few h l T T₁ T₂ room room₁ f d A B m e C = absurd (omega arith)
  merge-made columns (suc v) few h l T T₁ T₂ room room₁ f d A B m e C = merge-done columns v few l T T₁ T₂ room room₁ f d A B m e C

  -- the loop over the stations
  module _ (columns : ℕ) where
    nothing-named : (x : ℕ) → named parents x (n - 1 + 1) (n - (n - 1 + 1)) ≡ false
    nothing-named x = named_end parents x (n - 1 + 1) n (omega (arith, U.some))

    pub shrink-start : (T : List ℕ) → length T ≡ table_words → Sound T → Shrunk parents counts sizes moved n cells columns T (n - 1)
    unfolding Agree own own_at viewed least_weight
    shrink-start T L S =
        record {
          long = L;
          sound = S;
          same =
              λ m l.
              least-agree (weighed tree) columns (n - 1) earlier-of (n - 1) (viewed parents sizes n cells T (n - 1)) (own tree) m (omega arith)
              (λ x a k h g y. held-own _ T sizes cells x a k (nothing-named x))
              l;
        }

    pub shrink-next :
        (T T' : List ℕ) (v : ℕ) →
        0 < v →
        v ≤ n - 1 →
        Shrunk parents counts sizes moved n cells columns T v →
        Merged parents counts sizes moved n cells columns T T' v →
        Shrunk parents counts sizes moved n cells columns T' (v - 1)
    unfolding Agree least_in merged
    shrink-next T T' zero h l S M = absurd (omega arith)
    shrink-next T T' (suc v) h l S M =
        let e : suc v - 1 ≡ v = omega arith in
        subst (λ (x : ℕ). Shrunk parents counts sizes moved n cells columns T' x) (sym e)
        (record {
          long = M.long ∙ S.long;
          sound = M.sound;
          same =
              λ m g.
              least-agree (weighed tree) columns (n - 1) earlier-of v (viewed parents sizes n cells T' v)
              (merge (weighed tree) (viewed parents sizes n cells T (suc v)) (suc v))
              m
              (omega arith)
              (λ x a k y z w.
              subst
              (λ (i : ℕ). viewed parents sizes n cells T' i x a k ≡ merge (weighed tree) (viewed parents sizes n cells T (suc v)) (suc v) x a k)
              e
              (M.right x a k (omega arith) z w))
              g
              ∙ S.same m g;
        })

    pub shrink-end :
        (T : List ℕ) (v : ℕ) →
        v ≤ 0 →
        Shrunk parents counts sizes moved n cells columns T v →
        Shrunk parents counts sizes moved n cells columns T 0
    shrink-end T v h S = let z : v ≡ 0 = omega arith in subst (λ (x : ℕ). Shrunk parents counts sizes moved n cells columns T x) z S
