-- The plan that a weight holds, and the planner's answer. Assumes nothing.
use Prim.Native.Nat.{ℕ, ◌+◌, ◌*◌, ◌-◌, ◌/◌, ◌^◌, ◌≤◌, ◌<◌}
use mathlib.Core.Path.{◌≡◌, refl, sym, ap, ap₂, subst, ◌∙◌}
use mathlib.Core.Bool.{Bool}
use mathlib.Core.List.{List, ◌++◌}
use native.Mathlib.Omega.{arith}
use native.Mathlib.Decide.{dec_lt}
use native.Mathlib.Nat.{div-div-eq-div-mul}
use borrow.Author.Tests.{lt-ltb, le-ltb}
use lib.ListN.{length, get_or, set, length-set, replicate, length-append, length-replicate, get_or-append}
use lib.Seq.{get_or-set_same, get_or-set_other, ext_get_or, get_or-append-add}
use Rattle.std.specs.Prelude.{Option, Some, None}
use Rattle.radix.specs.Radix.{tab}
use Rattle.radix.proofs.Radix.{length-tab, get_d-tab}
use Rattle.plan.specs.Answer.{spread}
use Rattle.plan.specs.declared.Plan.{Plan}
use Rattle.plan.proofs.Zeros.{zeros-at}
use Rattle.tree_plan.specs.Merge.{lowest, merged, least_in}
use Rattle.tree_plan.specs.Weight.{scale, far_weight, place_in, least_weight}
use Rattle.tree_plan.specs.Answer.{tree_answer}
use Rattle.tree_plan.proofs.Lowest.{lowest-agree}
use Rattle.tree_planner.specs.declared.Weight.{Weight}
use Rattle.tree_planner.specs.Words.{tabled, Usable, plan_of, value_of, Worded, Good, weight_at, Sound}
use Rattle.tree_planner.specs.Rows.{Rows}
use Rattle.tree_planner.specs.Merging.{named, held, viewed, Shrunk}
use Rattle.tree_planner.proofs.Adding.{word, far-value, far-le, value-lt, small-good}
use Rattle.tree_planner.proofs.Placing.{three-words}

-- the places below i are written
pub record Placing (w n : ℕ) (out : List ℕ) (i : ℕ) : Type 0 where
  pub within : i ≤ n
  pub long : length out ≡ 64
  pub done : (k : ℕ) → k < i → get_or out k 0 ≡ place_in w k
  pub unused : (k : ℕ) → i ≤ k → get_or out k 0 ≡ 0

pub place-start : (w n : ℕ) → Placing w n (replicate 64 0) 0
place-start w n = record { within = omega arith; long = refl; done = λ k l. absurd (omega arith); unused = λ k l. zeros-at 64 k }

pub place-next :
    (w n : ℕ) (out : List ℕ) (i r : ℕ) → n ≤ 64 → i < n → Placing w n out i → r ≡ place_in w i → Placing w n (set out i r) (i + 1)
place-next w n out i r few l P e =
    record {
      within = omega arith;
      long = length-set out i r ∙ P.long;
      done =
          λ k h.
          elim (dec_lt k i) [
            | yes y ↦ get_or-set_other out i k r 0 (λ q. omega arith) ∙ P.done k y
            | no y ↦
                let q : i ≡ k = omega arith in
                subst (λ (x : ℕ). get_or (set out i r) x 0 ≡ place_in w x) q
                (get_or-set_same out i r 0 (omega (arith, P.long)) ∙ e)
          ];
      unused = λ k h. get_or-set_other out i k r 0 (λ q. omega arith) ∙ P.unused k (omega arith);
    }

get_d_front : (xs ys : List ℕ) (k : ℕ) → k < length xs → get_or (xs ++ ys) k 0 ≡ get_or xs k 0
get_d_front xs ys k h = get_or-append xs ys 0 k h

pub place_end : (w n : ℕ) (out : List ℕ) (i : ℕ) → n ≤ 64 → i ≡ n → Placing w n out i → out ≡ spread n (tab (place_in w) n)
place_end w n out i few e P =
    ext_get_or 0 out (tab (place_in w) n ++ replicate (64 - n) 0) (P.long ∙ sym whole) at_each
  where
    front : length (tab (place_in w) n) ≡ n
    front = length-tab (place_in w) n

    whole : length (tab (place_in w) n ++ replicate (64 - n) 0) ≡ 64
    whole = length-append (tab (place_in w) n) (replicate (64 - n) 0) ∙ ap₂ ◌+◌ front (length-replicate {A = ℕ} (64 - n) 0) ∙ (let q : n + (64 - n) ≡ 64 = omega arith in q)

    at_each : (k : ℕ) → k < length out → get_or out k 0 ≡ get_or (tab (place_in w) n ++ replicate (64 - n) 0) k 0
    at_each k h =
        elim (dec_lt k n) [
          | yes y ↦
              P.done k (omega arith)
              ∙ sym (get_d-tab (place_in w) n k 0 y)
              ∙ sym (get_d_front (tab (place_in w) n) (replicate (64 - n) 0) k (omega (arith, front)))
          | no y ↦
              let q : k ≡ length (tab (place_in w) n) + (k - n) = omega (arith, front) in
              P.unused k (omega arith)
              ∙ sym (zeros-at (64 - n) (k - n))
              ∙ sym (get_or-append-add (tab (place_in w) n) (replicate (64 - n) 0) (k - n) 0)
              ∙ ap (λ (x : ℕ). get_or (tab (place_in w) n ++ replicate (64 - n) 0) x 0) (sym q)
        ]

-- the least weight of the tree, once its stations are merged into the first
pub least-is :
    (parents counts sizes moved : List ℕ) (n cells moves : ℕ) (T T' : List ℕ) →
    Shrunk parents counts sizes moved n cells (moves + 1) T 0 →
    (branch : Bool) →
    branch ≡ named parents 0 (0 + 1) (n - (0 + 1)) →
    Rows T T' 0 (get_or counts 0 0) (moves + 1) (held branch T sizes cells 0) →
    (w : ℕ) →
    w ≡ lowest far_weight (get_or counts 0 0) (λ b. weight_at T' (b * 64 + moves)) →
    w ≡ least_weight (tabled parents counts sizes moved n cells) moves
unfolding least_in merged viewed
least-is parents counts sizes moved n cells moves T T' H branch d R w e =
    e
    ∙ lowest-agree far_weight (get_or counts 0 0) (λ b. weight_at T' (b * 64 + moves)) (λ b. viewed parents sizes n cells T 0 0 b moves)
    (λ b h.
    let i : b * 64 + moves ≡ (0 + b) * 64 + moves = omega arith in
    ap (weight_at T') i ∙ R.right b moves h (omega arith) ∙ ap (λ (t : Bool). held t T sizes cells 0 b moves) d)
    ∙ H.same moves (omega arith)

-- the plan that a weight holds
module _ (w : Weight) (G : Worded w) (n : ℕ) where
  pub plan_none : 2 ^ 60 ≤ w.top → None ≡ plan_of (value_of w) n
  unfolding plan_of
  plan_none h = simp (le-ltb _ _ (far-le w.top w.high w.mid w.low h))

  cost-is : w.top / 8 ≡ value_of w / scale
  unfolding scale
  cost-is =
      ap (λ (x : ℕ). x / 8) (sym (three-words w G))
      ∙ div-div-eq-div-mul (value_of w / 2 ^ 63 / 2 ^ 63) (2 ^ 63) 8
      ∙ div-div-eq-div-mul (value_of w / 2 ^ 63) (2 ^ 63) (2 ^ 63 * 8)
      ∙ div-div-eq-div-mul (value_of w) (2 ^ 63) (2 ^ 63 * (2 ^ 63 * 8))

  abbrev found : List ℕ → ℕ → Option Plan
  found q t = Some (record { places = q; total = t })

  pub plan_some :
      (places : List ℕ) →
      w.top < 2 ^ 60 →
      places ≡ spread n (tab (place_in (value_of w)) n) →
      Some (record { places = places; total = w.top / 8 }) ≡ plan_of (value_of w) n
  unfolding plan_of
  plan_some places h p =
      let l : value_of w < far_weight = subst (λ (x : ℕ). value_of w < x) far-value (value-lt w (word (2 ^ 60) 0 0 0) G h) in
      simp (lt-ltb _ _ l) (ap₂ found p cost-is)

-- the planner's answer
pub plan-is :
    (parents counts sizes moved : List ℕ) (n cells moves : ℕ) →
    Usable parents counts sizes moved n cells →
    (w : ℕ) (r : Option Plan) →
    r ≡ plan_of w n →
    w ≡ least_weight (tabled parents counts sizes moved n cells) moves →
    r ≡ tree_answer (tabled parents counts sizes moved n cells) moves
unfolding plan_of tree_answer
plan-is parents counts sizes moved n cells moves U w r e q = e ∙ ap (λ (x : ℕ). plan_of x n) q

-- a table of zeros
pub zero-sound : (k : ℕ) → Sound (replicate k 0)
zero-sound k =
    record {
      good =
          λ x.
          subst Good
          (sym (four _ _ _ _ (zeros-at k (x * 4)) (zeros-at k (x * 4 + 1)) (zeros-at k (x * 4 + 2)) (zeros-at k (x * 4 + 3))))
          (small-good 0 0 0 0 (omega arith) (omega arith) (omega arith) (omega arith));
    }
  where
    four : (a b c d : ℕ) → a ≡ 0 → b ≡ 0 → c ≡ 0 → d ≡ 0 → word a b c d ≡ word 0 0 0 0
    four a b c d p q r s = cc
