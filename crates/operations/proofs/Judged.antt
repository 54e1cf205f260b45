-- The rules of the operations as they are judged, and the answer of a judged operation. Assumes nothing.
use Rattle.std.specs.Prelude.{Result, Ok, Err}
use mathlib.Core.Path.{◌≡◌, refl, sym, ap, ap₂, ◌∙◌}
use mathlib.Core.Logic.{⊎_elim}
use mathlib.Core.Bool.{Bool, true, false, cond, not, ◌&&◌}
use mathlib.Core.List.{List, [], ◌∷◌}
use Prim.Native.Nat.{ℕ, ◌+◌, ◌<◌}
use native.Mathlib.Nat.{eq-or-lt_of_le, le_of_suc-le-suc}
use native.Mathlib.Omega.{arith}
use borrow.Author.Tests.{eq-eqb, ne_eqb, ltb-true}
use lib.Dec.{eqb, ltb}
use lib.ListN.{length, get_or}
use Rattle.refusal.specs.Number.{Answer, answered, done, refusal, verdict_answer, number_of}
use Rattle.refusal.specs.Judge.{Rule, unless, judge}
use Rattle.refusal.specs.declared.Refusal.{Refusal}
use Rattle.refusal.specs.declared.Refusal.TheVariants.{ShapeLimits, Repeat}
use Rattle.refusal.specs.Judge.{Verdict}
use Rattle.refusal.proofs.Judged.{kept, after-done, after-refused}
use Rattle.refusal.proofs.Theorems.{number-positive}
use Rattle.radix.proofs.Tests.{and-true, and-false, and_left, and_right, every-all, every-not, every-at}
use Rattle.shape.specs.Shape.{sizes_of, good_shape, max_rank}
use Rattle.shape.specs.Dimensions.{in_range, free, first_repeat, earlier_place, later_place}
use Rattle.shape.specs.declared.Shape.{Shape}
use Rattle.indexing.specs.declared.IndexingMap.{IndexingMap}
use Rattle.indexing.specs.Answers.{no_map, map_answer}
use Rattle.fold.specs.FoldMap.{fold_rules, folded_map, fold_answer}
use Rattle.shape.proofs.Limits.{limits}
use Rattle.operation_maps.specs.declared.Way.{Way}
use Rattle.operation_maps.specs.declared.Way.TheVariants.{OutputToInput, InputToOutput}
use Rattle.map_builder.specs.Raw.{encoded}
use Rattle.operation_maps.specs.Lists.{select}
use Rattle.operation_builder.specs.Family.{selection, is_out, Chosen}
use Rattle.operation_maps.specs.Operation.{folded_answer, Operation, rank_of, good_broadcast, kept_dims, list_rules, operation_rules, output_to_input, input_to_output, output_to_input_answer, input_to_output_answer, raw_of, operation_answer}
use Rattle.operation_maps.proofs.Meaning.{choice-of, list-good}

-- ---- the answer: folding's own, or the refusal of a rule

verdict-done : (v : Verdict) → verdict_answer (Ok tt) ≡ verdict_answer v → v ≡ Ok tt
verdict-done (Ok tt) e = refl
verdict-done (Err r) e = let z : 0 ≡ number_of r = ap (λ (a : Answer ℕ). a.number) e in absurd (omega (arith, z, number-positive r))

pub judged-done : (rules : List Rule) → verdict_answer (Ok tt) ≡ verdict_answer (judge rules) → judge rules ≡ Ok tt
judged-done rules e = verdict-done (judge rules) e

pub answer-done : (rules : List Rule) (m : IndexingMap) (r : Result IndexingMap Refusal) → verdict_answer (Ok tt) ≡ verdict_answer (judge rules) → map_answer r ≡ fold_answer m → map_answer r ≡ folded_answer rules m
unfolding fold_answer
answer-done rules m r e f =
    f ∙ ap (λ (v : Verdict). answered (no_map ∷ []) v (folded_map m ∷ [])) (sym (after-done rules (fold_rules m) (judged-done rules e)))

pub answer-refused : (rules : List Rule) (m : IndexingMap) (r : Refusal) → verdict_answer (Err r) ≡ verdict_answer (judge rules) → map_answer (Err r) ≡ folded_answer rules m
answer-refused rules m r e = go (judge rules) refl e
  where
    go : (v : Verdict) → judge rules ≡ v → verdict_answer (Err r) ≡ verdict_answer v → map_answer (Err r) ≡ folded_answer rules m
    go (Ok tt) q e = let z : number_of r ≡ 0 = ap (λ (a : Answer ℕ). a.number) e in absurd (omega (arith, z, number-positive r))
    go (Err s) q e =
        ap₂ (λ (n : ℕ) (ps : List ℕ). record { number = n; values = no_map ∷ []; places = ps }) (ap (λ (a : Answer ℕ). a.number) e) (ap (λ (a : Answer ℕ). a.places) e)
        ∙ ap (λ (v : Verdict). answered (no_map ∷ []) v (folded_map m ∷ [])) (sym (after-refused rules (fold_rules m) s q))

-- ---- a list judged for repeats

pub repeat-judged : (l : List ℕ) → first_repeat l ≡ verdict_answer (unless (free l) (Repeat (earlier_place l) (later_place l)) (Ok tt))
unfolding first_repeat
repeat-judged l = go (free l)
  where
    go : (b : Bool) → cond b (done {A = ℕ} []) (refusal {A = ℕ} [] (Repeat (earlier_place l) (later_place l))) ≡ verdict_answer (unless b (Repeat (earlier_place l) (later_place l)) (Ok tt))
    go true = refl
    go false = refl

-- ---- a shape, or shapes, the other attributes, and a list

module _ (g a : Bool) (l : List ℕ) where
  pub list-repeat : g ≡ true → a ≡ true → first_repeat l ≡ verdict_answer (judge (list_rules g a l))
  list-repeat e f = rw (e, f) (repeat-judged l)

-- the attributes matter only where the shapes are good
pub list_same : (g h a b : Bool) (l : List ℕ) → g ≡ h → (h ≡ true → a ≡ b) → judge (list_rules g a l) ≡ judge (list_rules h b l)
list_same g h a b l e f = ap (λ (t : Bool). judge (list_rules t a l)) e ∙ go h refl
  where
    go : (t : Bool) → h ≡ t → judge (list_rules h a l) ≡ judge (list_rules h b l)
    go true q = ap (λ (t : Bool). judge (list_rules h t l)) (f q)
    go false q = rw q

-- the rank of a good shape, in a test
module _ (x : Shape) (l : List ℕ) (long : length x.sizes ≡ max_rank) where
  ranked : good_shape x ≡ true → x.rank ≡ rank_of x
  ranked e = sym (limits x long e).long

  pub transpose-judged : (v : Verdict) (g a : Bool) → g ≡ good_shape x → a ≡ (eqb (length l) x.rank && in_range x.rank l) → verdict_answer v ≡ verdict_answer (judge (list_rules g a l))
      → verdict_answer v ≡ verdict_answer (judge (operation_rules (Operation.transpose x l)))
  transpose-judged v g a e f h =
      h ∙ ap verdict_answer (list_same g (good_shape x) a (eqb (length l) (rank_of x) && in_range (rank_of x) l) l e (λ q. f ∙ ap (λ (n : ℕ). eqb (length l) n && in_range n l) (ranked q)))

  pub dimensions-judged : (v : Verdict) (g a : Bool) → g ≡ good_shape x → a ≡ in_range x.rank l → verdict_answer v ≡ verdict_answer (judge (list_rules g a l))
      → verdict_answer v ≡ verdict_answer (judge (operation_rules (Operation.reduce x l)))
  dimensions-judged v g a e f h =
      h ∙ ap verdict_answer (list_same g (good_shape x) a (in_range (rank_of x) l) l e (λ q. f ∙ ap (λ (n : ℕ). in_range n l) (ranked q)))

-- ---- what the maps ask for

pub transpose-chosen : (x : Shape) (l : List ℕ) → judge (operation_rules (Operation.transpose x l)) ≡ Ok tt → Chosen x l
transpose-chosen x l e =
    let g = list-good (good_shape x) (eqb (length l) (rank_of x) && in_range (rank_of x) l) l e in
    record { good = g.0; choice = choice-of l (rank_of x) (and_right (eqb (length l) (rank_of x)) _ g.1.0) g.1.1 }

pub broadcast-chosen : (x y : Shape) (l : List ℕ) → judge (operation_rules (Operation.broadcast x y l)) ≡ Ok tt → Chosen y l
broadcast-chosen x y l e =
    let g = list-good (good_shape x && good_shape y) (good_broadcast (sizes_of x) (sizes_of y) l) l e in
    let r = and_left (in_range (rank_of y) l) _ (and_right (eqb (length l) (length (sizes_of x))) _ g.1.0) in
    record { good = and_right (good_shape x) (good_shape y) g.0; choice = choice-of l (rank_of y) r g.1.1 }

pub reduce-chosen : (x : Shape) (l : List ℕ) → judge (operation_rules (Operation.reduce x l)) ≡ Ok tt → good_shape x ≡ true
reduce-chosen x l e = (list-good (good_shape x) (in_range (rank_of x) l) l e).0

-- ---- either way

module _ (way : Way) (op : Operation) (v : Verdict) (told : verdict_answer v ≡ verdict_answer (judge (operation_rules op))) where
  pub way-ready : v ≡ Ok tt → judge (operation_rules op) ≡ Ok tt
  way-ready e = judged-done (operation_rules op) (ap verdict_answer (sym e) ∙ told)

  pub way-done : v ≡ Ok tt → (m : IndexingMap) (r : Result IndexingMap Refusal) → m ≡ encoded (raw_of way op) → map_answer r ≡ fold_answer m → map_answer r ≡ operation_answer way op
  unfolding output_to_input_answer input_to_output_answer
  way-done e m r f g = go way (g ∙ ap fold_answer f)
    where
      go : (w : Way) → map_answer r ≡ fold_answer (encoded (raw_of w op)) → map_answer r ≡ operation_answer w op
      go OutputToInput h = answer-done (operation_rules op) (encoded (output_to_input op)) r (ap verdict_answer (sym e) ∙ told) h
      go InputToOutput h = answer-done (operation_rules op) (encoded (input_to_output op)) r (ap verdict_answer (sym e) ∙ told) h

  pub way-refused : (q : Refusal) → v ≡ Err q → map_answer (Err q) ≡ operation_answer way op
  unfolding output_to_input_answer input_to_output_answer
  way-refused q e = go way
    where
      go : (w : Way) → map_answer (Err q) ≡ operation_answer w op
      go OutputToInput = answer-refused (operation_rules op) (encoded (output_to_input op)) q (ap verdict_answer (sym e) ∙ told)
      go InputToOutput = answer-refused (operation_rules op) (encoded (input_to_output op)) q (ap verdict_answer (sym e) ∙ told)

-- the map of each operation, either way
pub transpose-way : (way : Way) (b : Bool) → b ≡ is_out way → (x : Shape) (l : List ℕ) → encoded (selection b l (sizes_of x)) ≡ encoded (raw_of way (Operation.transpose x l))
transpose-way OutputToInput b e x l = ap (λ (b : Bool). encoded (selection b l (sizes_of x))) e
transpose-way InputToOutput b e x l = ap (λ (b : Bool). encoded (selection b l (sizes_of x))) e

pub broadcast-way : (way : Way) (b : Bool) → b ≡ is_out way → (x y : Shape) (l : List ℕ) → encoded (selection (not b) l (sizes_of y)) ≡ encoded (raw_of way (Operation.broadcast x y l))
broadcast-way OutputToInput b e x y l = ap (λ (b : Bool). encoded (selection (not b) l (sizes_of y))) e
broadcast-way InputToOutput b e x y l = ap (λ (b : Bool). encoded (selection (not b) l (sizes_of y))) e

pub reduce-way : (way : Way) (b : Bool) → b ≡ is_out way → (x : Shape) (l : List ℕ) → encoded (selection b (kept_dims x l) (sizes_of x)) ≡ encoded (raw_of way (Operation.reduce x l))
reduce-way OutputToInput b e x l = ap (λ (b : Bool). encoded (selection b (kept_dims x l) (sizes_of x))) e
reduce-way InputToOutput b e x l = ap (λ (b : Bool). encoded (selection b (kept_dims x l) (sizes_of x))) e

pub init-way : (way : Way) (b : Bool) → b ≡ is_out way → (x : Shape) (l : List ℕ) → encoded (selection (not b) [] (select (kept_dims x l) (sizes_of x))) ≡ encoded (raw_of way (Operation.reduce_init x l))
init-way OutputToInput b e x l = ap (λ (b : Bool). encoded (selection (not b) [] (select (kept_dims x l) (sizes_of x)))) e
init-way InputToOutput b e x l = ap (λ (b : Bool). encoded (selection (not b) [] (select (kept_dims x l) (sizes_of x)))) e

-- ---- broadcast

module _ (inn out l : List ℕ) where
  abbrev agrees : ℕ → Bool
  agrees k = eqb (get_or inn k 0) (get_or out (get_or l k 0) 0)

  pub broadcast-differs : (k : ℕ) → k < length l → (get_or inn k 0 ≡ get_or out (get_or l k 0) 0 → ⊥) → false ≡ good_broadcast inn out l
  broadcast-differs k h n =
      sym (and-false (eqb (length l) (length inn)) (and-false (in_range (length out) l) (every-not agrees (length l) k h (ne_eqb (get_or inn k 0) (get_or out (get_or l k 0) 0) n))))

  pub broadcast-all : length l ≡ length inn → in_range (length out) l ≡ true → ((k : ℕ) → k < length l → agrees k ≡ true) → true ≡ good_broadcast inn out l
  broadcast-all e r h = sym (and-true (eq-eqb (length l) (length inn) e) (and-true r (every-all agrees (length l) h)))

  pub listed_below : in_range (length out) l ≡ true → (k : ℕ) → k < length l → get_or l k 0 < length out
  unfolding in_range
  listed_below r k h = ltb-true (get_or l k 0) (length out) (every-at (λ (k : ℕ). ltb (get_or l k 0) (length out)) (length l) r k h)

-- a test that holds below k, and at k
pub holds-next : (f : ℕ → Bool) (k : ℕ) → ((i : ℕ) → i < k → f i ≡ true) → f k ≡ true → (i : ℕ) → i < k + 1 → f i ≡ true
holds-next f k h e i l = ⊎_elim (λ (q : i ≡ k). ap f q ∙ e) (λ (q : i < k). h i q) (eq-or-lt_of_le (le_of_suc-le-suc (omega arith)))

-- ---- reshape

module _ (x y : Shape) where
  abbrev reshaped : Operation
  reshaped = Operation.reshape x y

  pub reshape-good : judge (operation_rules reshaped) ≡ Ok tt → (good_shape x ≡ true) × (good_shape y ≡ true)
  reshape-good e = let b = kept (good_shape x && good_shape y) ShapeLimits _ e in (and_left (good_shape x) (good_shape y) b, and_right (good_shape x) (good_shape y) b)
